-- `state::soundness::vcpus_ok` meets its contract: ok is the test of the vCPUs passed.
use Rattle.std.proofs.Common.{refl}
use Rattle.model.specs.Words.{all_below}
use Rattle.state.proofs.Lowest.{one-more}
use Rattle.state.proofs.soundness.vcpus_ok.Goals as goal

pub loop-v-init : goal.loop-v-init
unfolding all_below
loop-v-init c = refl

pub loop-v-preserved : goal.loop-v-preserved
loop-v-preserved c = one-more _ _ _ _ c.loop-v.invariant c.vcpu_ok-ok.ensures
