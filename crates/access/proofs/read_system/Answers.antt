-- `access::read_system` meets its contract.
use Rattle.model.specs.Calls.{describe}
use Rattle.state.proofs.Admitted.{answering, passed_on}
use Rattle.access.proofs.Systems.{read-refused, read-settled, guest-usable, guest-index}
use Rattle.access.proofs.read_system.Goals as goal

pub returns-in_default : goal.returns-in_default
unfolding describe
returns-in_default c = search (answering, c.in_default.ensures.cases)

pub returns-in_err-check_guest : goal.returns-in_err-check_guest
returns-in_err-check_guest c =
    let q = passed_on _ _ c.from_residual.ensures.1 in
    rw (q, ← c.in-Some.ensures.cases.same) (search (read-refused, c.in_err-check_guest.was))

pub at-requires : goal.at-requires
at-requires c = search (guest-index, c.in_ok-check_guest.was)

pub read_register-requires : goal.read_register-requires
read_register-requires c = rw c.at.ensures (search (guest-usable, c.in_ok-check_guest.was))

pub returns : goal.returns
returns c =
    let settled = rw c.at.ensures at c.read_register.ensures in
    rw (← c.in-Some.ensures.cases.same) (search (read-settled, c.in_ok-check_guest.was))
