-- `words::without_lowest` meets its contract.
use Rattle.words.proofs.Over.{lower, lower-lt, lower-rest}
use Rattle.words.proofs.without_lowest.Goals as goal

pub returns : goal.returns
unfolding lower
returns c = (lower-rest c.args.m c.requires c.ranges.m.fits, lower-lt c.args.m c.requires)
