-- `record::restore::restore_device` meets its contract.
use Rattle.model.specs.Calls.{describe}
use Rattle.state.proofs.Admitted.{answering, passed_on}
use Rattle.record.proofs.Settled.{device-refused, asks-fresh, record-refused, restore-done}
use Rattle.record.proofs.restore.restore_device.Goals as goal

pub returns-in_default : goal.returns-in_default
unfolding describe
returns-in_default c = search (answering, c.in_default.ensures.cases)

pub returns-in_err-check_device : goal.returns-in_err-check_device
returns-in_err-check_device c =
    let q = passed_on _ _ c.from_residual.ensures.1 in
    rw (q, ← c.in-Some.ensures.cases.same) (search (device-refused, c.in_err-check_device.was))

pub load_record-requires : goal.load_record-requires
load_record-requires c = search (asks-fresh, c.in_ok-check_device.was)

pub returns-in_err-load_record : goal.returns-in_err-load_record
returns-in_err-load_record c =
    let q = passed_on _ _ c.from_residual-in_err-load_record.ensures.1 in
    rw (q, ← c.in-Some.ensures.cases.same) (search (record-refused, c.in_ok-check_device.was, c.in_err-load_record.was))

pub returns : goal.returns
returns c = rw (← c.in-Some.ensures.cases.same) (search (restore-done, c.in_ok-check_device.was, c.in_ok-load_record.was))
