-- `calls::save` meets its contract.
use mathlib.Core.Path.{refl}
use borrow.Author.Rules.{sfits_of}
use Rattle.calls.proofs.Fronts.{front_long, front-handed}
use Rattle.calls.proofs.save.Goals as goal

pub slice_bounds-result-end : goal.slice_bounds-result-end
slice_bounds-result-end c = search front_long

pub returns : goal.returns
returns c = (search (front-handed, sfits_of), refl)
