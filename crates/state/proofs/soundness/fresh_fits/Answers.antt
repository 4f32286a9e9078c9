-- `state::soundness::fresh_fits` meets its contract: each pass is clear exactly where its words fit, since its row is the opposite of the table.
use mathlib.Core.Path.{refl}
use Rattle.model.specs.Words.{all_below}
use Rattle.state.proofs.Opposite.{opposite}
use Rattle.state.proofs.Zones.{fresh-same}
use Rattle.state.proofs.soundness.fresh_fits.Goals as goal

pub returns : goal.returns
unfolding opposite all_below
returns c =
    fresh-same _ c.requires c.told-s c.fits-s
    c.misfit.ensures c.misfit-2.ensures c.misfit_words.ensures
    refl refl refl
