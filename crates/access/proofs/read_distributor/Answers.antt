-- `access::read_distributor` meets its contract.
use lib.Dec.{lit<}
use Rattle.model.specs.Registers.{seen_by}
use Rattle.model.specs.Calls.{describe}
use Rattle.state.proofs.Admitted.{answering, passed_on, admitted-sound}
use Rattle.access.proofs.read_distributor.Goals as goal

pub returns-in_default : goal.returns-in_default
unfolding describe
returns-in_default c = search (answering, c.in_default.ensures.cases)

pub returns-in_err-check_guest : goal.returns-in_err-check_guest
unfolding describe
returns-in_err-check_guest c =
    let q = passed_on _ _ c.from_residual.ensures.1 in
    rw (q, ← c.in-Some.ensures.cases.same) (search (answering, c.in_err-check_guest.was))

pub guest_read-requires : goal.guest_read-requires
guest_read-requires c = unfold seen_by in (search (admitted-sound, c.in_ok-check_guest.was, lit<))

pub returns : goal.returns
unfolding describe
returns c = rw (← c.in-Some.ensures.cases.same) (search (answering, c.in_ok-check_guest.was))
