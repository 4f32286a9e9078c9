-- `record::restore::check_device` meets its contract.
use Rattle.record.specs.Walked.{device_checks}
use Rattle.state.proofs.Admitted.{refusing}
use Rattle.record.proofs.restore.check_device.Goals as goal

pub returns-then-not-is_sound : goal.returns-then-not-is_sound
returns-then-not-is_sound c = unfold device_checks in (search refusing depth 12)

pub returns-then-not-in_phase : goal.returns-then-not-in_phase
returns-then-not-in_phase c = unfold device_checks in (search refusing depth 12)

pub returns-then-not-is_fresh : goal.returns-then-not-is_fresh
returns-then-not-is_fresh c = unfold device_checks in (search refusing depth 12)

pub returns : goal.returns
returns c = unfold device_checks in (search refusing depth 12)
