-- `lines::check_line` meets its contract.
use Rattle.state.proofs.Admitted.{inside, refusing}
use Rattle.lines.proofs.check_line.Goals as goal

pub returns-then-not-is_sound : goal.returns-then-not-is_sound
returns-then-not-is_sound c = search refusing depth 12

pub in_phase-requires : goal.in_phase-requires
in_phase-requires c = search inside

pub returns-then-not-in_phase : goal.returns-then-not-in_phase
returns-then-not-in_phase c = search refusing depth 12

pub returns-then-not-has_line : goal.returns-then-not-has_line
returns-then-not-has_line c = search refusing depth 12

pub returns : goal.returns
returns c = search refusing depth 12
