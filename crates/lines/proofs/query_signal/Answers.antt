-- `lines::query_signal` meets its contract.
use Rattle.model.specs.Calls.{describe}
use Rattle.state.proofs.Admitted.{answering, passed_on, vcpu-inside}
use Rattle.lines.proofs.Changes.{vcpu-usable}
use Rattle.lines.proofs.query_signal.Goals as goal

pub returns-in_default : goal.returns-in_default
unfolding describe
returns-in_default c = search (answering, c.in_default.ensures.cases)

pub returns-in_err-check_vcpu : goal.returns-in_err-check_vcpu
unfolding describe
returns-in_err-check_vcpu c =
    let q = passed_on _ _ c.from_residual.ensures.1 in
    rw (q, ← c.in-Some.ensures.cases.same) (search (answering, c.in_err-check_vcpu.was))

pub signal-requires : goal.signal-requires
signal-requires c = rw c.at.ensures (search (vcpu-usable, c.in_ok-check_vcpu.was))

pub at-requires : goal.at-requires
at-requires c = search (vcpu-inside, c.in_ok-check_vcpu.was)

pub returns : goal.returns
unfolding describe
returns c =
    let told = rw c.at.ensures at c.signal.ensures in
    rw (← c.in-Some.ensures.cases.same) (search (answering, c.in_ok-check_vcpu.was))
