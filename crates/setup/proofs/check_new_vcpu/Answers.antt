-- `setup::check_new_vcpu` meets its contract.
use Rattle.state.proofs.Admitted.{inside, refusing}
use Rattle.model.specs.Calls.{describe}
use Rattle.setup.proofs.check_new_vcpu.Goals as goal

pub returns-then-not-is_sound : goal.returns-then-not-is_sound
unfolding describe
returns-then-not-is_sound c = search refusing depth 12

pub bounds-s-0 : goal.bounds-s-0
bounds-s-0 c = search inside

pub returns-then-s-eq1 : goal.returns-then-s-eq1
unfolding describe
returns-then-s-eq1 c = search refusing depth 12

pub returns-then-not-is_affinity : goal.returns-then-not-is_affinity
unfolding describe
returns-then-not-is_affinity c = search refusing depth 12

pub bounds-s-2 : goal.bounds-s-2
bounds-s-2 c = search inside

pub overflow_cast-n : goal.overflow_cast-n
overflow_cast-n c = search inside

pub is_unused-requires : goal.is_unused-requires
is_unused-requires c = search inside

pub returns-then-not-is_unused : goal.returns-then-not-is_unused
unfolding describe
returns-then-not-is_unused c = search refusing depth 12

pub returns-then-n-ge-MOST_VCPUS : goal.returns-then-n-ge-MOST_VCPUS
unfolding describe
returns-then-n-ge-MOST_VCPUS c = search refusing depth 12

pub returns : goal.returns
unfolding describe
returns c = search refusing depth 12
