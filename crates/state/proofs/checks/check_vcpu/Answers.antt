-- `state::checks::check_vcpu` meets its contract.
use Rattle.state.proofs.Admitted.{inside, refusing, no_state}
use Rattle.state.proofs.checks.check_vcpu.Goals as goal

pub returns-in_default : goal.returns-in_default
returns-in_default c = search (refusing, no_state, c.in_default.ensures.cases) depth 12

pub returns-then-not-is_sound : goal.returns-then-not-is_sound
returns-then-not-is_sound c = rw (← c.in-Some.ensures.cases.same) (search refusing depth 12)

pub in_phase-requires : goal.in_phase-requires
in_phase-requires c = search inside

pub returns-then-not-in_phase : goal.returns-then-not-in_phase
returns-then-not-in_phase c = rw (← c.in-Some.ensures.cases.same) (search refusing depth 12)

pub overflow_cast-n : goal.overflow_cast-n
overflow_cast-n c = search inside

pub returns-then-v-n : goal.returns-then-v-n
returns-then-v-n c = rw (← c.in-Some.ensures.cases.same) (search refusing depth 12)

pub returns : goal.returns
returns c = rw (← c.in-Some.ensures.cases.same) (search refusing depth 12)
