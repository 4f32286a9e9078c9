-- `record::save::fill` meets its contract.
use native.Mathlib.Omega.{arith}
use Rattle.model.specs.Calls.{describe}
use Rattle.state.proofs.Admitted.{answering, passed_on}
use Rattle.record.proofs.Settled.{fill-refused, asks-stopped, fill-room, fill-within, fill_done}
use Rattle.record.proofs.save.fill.Goals as goal

pub returns-in_default : goal.returns-in_default
unfolding describe
returns-in_default c = (search (answering, c.in_default.ensures.cases), omega arith)

pub returns-in_err-check_save : goal.returns-in_err-check_save
returns-in_err-check_save c =
    let q = passed_on _ _ c.from_residual.ensures.1 in
    rw (q, ← c.in-Some.ensures.cases.same) (search (fill-refused, c.in_err-check_save.was), omega arith)

pub save_record-requires : goal.save_record-requires
save_record-requires c = (search (asks-stopped, c.in_ok-check_save.was), search (fill-room, c.in_ok-check_save.was))

pub returns : goal.returns
returns c = rw (← c.in-Some.ensures.cases.same) (search (fill_done, c.in_ok-check_save.was), search (fill-within, c.in_ok-check_save.was))
