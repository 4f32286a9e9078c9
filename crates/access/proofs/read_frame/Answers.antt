-- `access::read_frame` meets its contract.
use Rattle.model.specs.Calls.{describe}
use Rattle.state.proofs.Admitted.{answering, passed_on, admitted-sound}
use Rattle.access.proofs.Accesses.{frame-inside, frame-read}
use Rattle.access.proofs.read_frame.Goals as goal

pub returns-in_default : goal.returns-in_default
unfolding describe
returns-in_default c = search (answering, c.in_default.ensures.cases)

pub returns-in_err-check_frame : goal.returns-in_err-check_frame
unfolding describe
returns-in_err-check_frame c =
    let q = passed_on _ _ c.from_residual.ensures.1 in
    rw (q, ← c.in-Some.ensures.cases.same) (search (answering, c.in_err-check_frame.was))

pub guest_read-requires : goal.guest_read-requires
guest_read-requires c = search (admitted-sound, frame-inside, c.in_ok-check_frame.was)

pub returns : goal.returns
unfolding describe
returns c = rw (← c.in-Some.ensures.cases.same) (search (answering, frame-read, c.in_ok-check_frame.was))
