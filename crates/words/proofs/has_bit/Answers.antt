-- `words::has_bit` meets its contract.
use mathlib.Core.Path.{refl}
use Rattle.model.specs.Words.{bit}
use Rattle.words.proofs.has_bit.Goals as goal

pub returns : goal.returns
unfolding bit
returns c = refl
