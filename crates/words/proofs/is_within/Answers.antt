-- `words::is_within` meets its contract.
use Rattle.words.proofs.Masks.{within-fits}
use Rattle.words.proofs.is_within.Goals as goal

pub returns : goal.returns
returns c = search within-fits
