-- `state::soundness::used_fits` meets its contract: each pass is clear exactly where its words fit, since its row is the opposite of the table.
use mathlib.Core.Path.{refl}
use Rattle.model.specs.Words.{all_below}
use Rattle.state.proofs.Opposite.{opposite}
use Rattle.state.proofs.Zones.{used-same}
use Rattle.state.proofs.soundness.used_fits.Goals as goal

pub returns : goal.returns
unfolding opposite all_below
returns c =
    let given = c.requires in
    used-same _ _ (record { least = given.0; most = given.1; step = given.2 }) given.3 c.told-s c.fits-s
    c.misfit.ensures c.misfit-2.ensures c.misfit_words.ensures c.misfit-3.ensures
    c.misfit-4.ensures c.misfit_words-2.ensures c.misfit_words-3.ensures c.misfit_words-4.ensures
    refl refl refl refl refl refl
