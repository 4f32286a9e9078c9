-- `setup::add_vcpu` meets its contract.
use Rattle.model.specs.Calls.{describe}
use Rattle.state.proofs.Admitted.{answering, passed_on}
use Rattle.setup.proofs.Admitted.{add-room}
use Rattle.setup.proofs.add_vcpu.Goals as goal

pub returns-in_default : goal.returns-in_default
unfolding describe
returns-in_default c = search (answering, c.in_default.ensures.cases)

pub returns-in_err-check_new_vcpu : goal.returns-in_err-check_new_vcpu
unfolding describe
returns-in_err-check_new_vcpu c =
    let q = passed_on _ _ c.from_residual.ensures.1 in
    rw (q, ← c.in-Some.ensures.cases.same) (search (answering, c.in_err-check_new_vcpu.was))

pub write_vcpu-requires : goal.write_vcpu-requires
write_vcpu-requires c = search (add-room, c.in_ok-check_new_vcpu.was)

pub returns : goal.returns
unfolding describe
returns c = rw (← c.in-Some.ensures.cases.same) (search (answering, c.in_ok-check_new_vcpu.was))
