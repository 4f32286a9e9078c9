-- `access::check_frame` meets its contract.
use Rattle.state.proofs.Admitted.{refusing, passed_on, vcpu-inside}
use Rattle.access.proofs.Accesses.{front-frame, rest-frame, front-index, front_fits}
use Rattle.access.proofs.check_frame.Goals as goal

pub returns-in_err-check_vcpu : goal.returns-in_err-check_vcpu
returns-in_err-check_vcpu c = rw (passed_on _ _ c.from_residual.ensures.1) (search (front-frame, c.in_err-check_vcpu.was))

pub overflow_cast-n : goal.overflow_cast-n
overflow_cast-n c = search (front_fits, c.in_ok-check_vcpu.was)

pub returns-then-frame-n : goal.returns-then-frame-n
returns-then-frame-n c = search (rest-frame, refusing, c.in_ok-check_vcpu.was) depth 12

pub at-requires : goal.at-requires
at-requires c = search (vcpu-inside, front-index, c.in_ok-check_vcpu.was)

pub returns-then-running_of-ne1 : goal.returns-then-running_of-ne1
returns-then-running_of-ne1 c =
    let runs = rw c.at.ensures at c.running_of.ensures in
    search (rest-frame, refusing, c.in_ok-check_vcpu.was) depth 12

pub returns : goal.returns
returns c =
    let runs = rw c.at.ensures at c.running_of.ensures in
    search (rest-frame, refusing, c.in_ok-check_vcpu.was) depth 12
