-- `words::bits_under` meets its contract.
use Rattle.model.specs.Words.{masked}
use Rattle.words.proofs.Expressions.{gathers, itself, ands}
use Rattle.words.proofs.bits_under.Goals as goal

pub returns : goal.returns
unfolding masked
returns c = gathers (ands (itself c.ranges.mask) (itself c.ranges.x))
