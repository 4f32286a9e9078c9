-- `setup::set_running` meets its contract.
use lib.Dec.{lit<}
use Rattle.model.specs.Calls.{describe}
use Rattle.state.proofs.Admitted.{answering, passed_on, vcpu-inside}
use borrow.Author.Rules.{rules}
use Rattle.setup.proofs.set_running.Goals as goal

pub returns-in_default : goal.returns-in_default
unfolding describe
returns-in_default c = search (answering, c.in_default.ensures.cases)

pub returns-in_err-check_vcpu : goal.returns-in_err-check_vcpu
unfolding describe
returns-in_err-check_vcpu c =
    let q = passed_on _ _ c.from_residual.ensures.1 in
    rw (q, ← c.in-Some.ensures.cases.same) (search (answering, c.in_err-check_vcpu.was))

pub put_in_block-requires : goal.put_in_block-requires
put_in_block-requires c = (search rules, search lit<)

pub at-requires : goal.at-requires
at-requires c = search (vcpu-inside, c.in_ok-check_vcpu.was)

pub returns : goal.returns
unfolding describe
returns c =
    let left = rw c.at.ensures at c.put_in_block.ensures in
    rw (← c.in-Some.ensures.cases.same) (search (answering, c.in_ok-check_vcpu.was))
