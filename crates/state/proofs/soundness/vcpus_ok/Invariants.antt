-- `state::soundness::vcpus_ok` meets its contract: ok is the test of the vCPUs passed.
use Rattle.std.proofs.Common.{◌≡◌}
use Rattle.model.specs.Words.{all_below}
use Rattle.model.specs.Sound.{vcpu_ok}
use Rattle.state.proofs.soundness.vcpus_ok.Given as goal

abbrev pub invariant-loop-v : goal.invariant-loop-v
invariant-loop-v l = l.ok ≡ all_below (vcpu_ok l.s) l.v
