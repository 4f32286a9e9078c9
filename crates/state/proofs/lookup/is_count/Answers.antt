-- `state::lookup::is_count` meets its contract: it tests in the terms of the definition.
use mathlib.Core.Path.{refl}
use Rattle.model.specs.Sound.{is_count}
use Rattle.state.proofs.lookup.is_count.Goals as goal

pub returns : goal.returns
unfolding is_count
returns c = refl
