-- `setup::set_count` meets its contract.
use Rattle.model.specs.Attributes.{group_of}
use Rattle.model.specs.Calls.{set_checks, set_state, describe}
use Rattle.state.proofs.Admitted.{answering, passed_on}
use Rattle.setup.proofs.Admitted.{count_fits}
use Rattle.setup.proofs.set_count.Goals as goal

pub returns-in_default : goal.returns-in_default
unfolding describe
returns-in_default c = search (answering, c.in_default.ensures.cases)

pub returns-in_err-check_count : goal.returns-in_err-check_count
unfolding describe set_checks group_of
returns-in_err-check_count c =
    let q = passed_on _ _ c.from_residual.ensures.1 in
    rw (q, ← c.in-Some.ensures.cases.same) (search (answering, c.in_err-check_count.was))

pub overflow_cast-s : goal.overflow_cast-s
overflow_cast-s c = search (count_fits, c.in_ok-check_count.was)

pub returns : goal.returns
unfolding describe set_checks set_state group_of
returns c = rw (← c.in-Some.ensures.cases.same) (search (answering, c.in_ok-check_count.was))
