-- `record::save::check_save` meets its contract.
use Rattle.record.specs.Written.{save_checks}
use Rattle.state.proofs.Admitted.{refusing}
use Rattle.record.proofs.save.check_save.Goals as goal

pub returns-then-not-is_sound : goal.returns-then-not-is_sound
returns-then-not-is_sound c = unfold save_checks in (search refusing depth 12)

pub returns-then-not-in_phase : goal.returns-then-not-in_phase
returns-then-not-in_phase c = unfold save_checks in (search refusing depth 12)

pub returns-then-not-has_room : goal.returns-then-not-has_room
returns-then-not-has_room c = unfold save_checks in (search refusing depth 12)

pub returns : goal.returns
returns c = unfold save_checks in (search refusing depth 12)
