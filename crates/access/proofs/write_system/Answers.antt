-- `access::write_system` meets its contract.
use Rattle.model.specs.Calls.{describe}
use Rattle.state.proofs.Admitted.{answering, passed_on, admitted-few}
use Rattle.access.proofs.Systems.{write-refused, write-settled, guest-index}
use Rattle.access.proofs.write_system.Goals as goal

pub returns-in_default : goal.returns-in_default
unfolding describe
returns-in_default c = search (answering, c.in_default.ensures.cases)

pub returns-in_err-check_guest : goal.returns-in_err-check_guest
returns-in_err-check_guest c =
    let q = passed_on _ _ c.from_residual.ensures.1 in
    rw (q, ← c.in-Some.ensures.cases.same) (search (write-refused, c.in_err-check_guest.was))

pub at-requires : goal.at-requires
at-requires c = search (guest-index, c.in_ok-check_guest.was)

pub write_register-requires : goal.write_register-requires
write_register-requires c = search (admitted-few, c.in_ok-check_guest.was)

pub returns : goal.returns
returns c =
    let settled = rw c.at.ensures at c.write_register.ensures in
    rw (← c.in-Some.ensures.cases.same) (search (write-settled, c.in_ok-check_guest.was))
