-- `state::lookup::is_affinity` meets its contract: it tests in the terms of the definition.
use mathlib.Core.Path.{refl}
use Rattle.model.specs.Sound.{is_affinity}
use Rattle.state.proofs.lookup.is_affinity.Goals as goal

pub returns : goal.returns
unfolding is_affinity
returns c = refl
