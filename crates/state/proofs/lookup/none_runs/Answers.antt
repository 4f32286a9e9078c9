-- `state::lookup::none_runs` meets its contract: none is the test of the vCPUs passed.
use Rattle.std.proofs.Common.{refl, ap, eqb}
use Rattle.model.specs.Words.{all_below}
use Rattle.state.proofs.Lowest.{one-more}
use Rattle.state.proofs.lookup.none_runs.Goals as goal

pub loop-v-init : goal.loop-v-init
unfolding all_below
loop-v-init c = refl

pub loop-v-preserved : goal.loop-v-preserved
loop-v-preserved c = one-more _ _ _ _ c.loop-v.invariant (ap (λ n. eqb n 0) c.running_of.ensures)
