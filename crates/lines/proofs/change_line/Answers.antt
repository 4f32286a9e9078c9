-- `lines::change_line` meets its contract.
use Rattle.model.specs.Calls.{describe}
use Rattle.state.proofs.Admitted.{answering, passed_on, admitted-few}
use Rattle.lines.proofs.Changes.{line-admitted}
use Rattle.lines.proofs.change_line.Goals as goal

pub returns-in_default : goal.returns-in_default
unfolding describe
returns-in_default c = search (answering, c.in_default.ensures.cases)

pub returns-in_err-check_line : goal.returns-in_err-check_line
unfolding describe
returns-in_err-check_line c =
    let q = passed_on _ _ c.from_residual.ensures.1 in
    rw (q, ← c.in-Some.ensures.cases.same) (search (answering, c.in_err-check_line.was))

pub write_line-requires : goal.write_line-requires
write_line-requires c = search (admitted-few, line-admitted, c.in_ok-check_line.was)

pub returns : goal.returns
unfolding describe
returns c = rw (← c.in-Some.ensures.cases.same) (search (answering, c.in_ok-check_line.was))
