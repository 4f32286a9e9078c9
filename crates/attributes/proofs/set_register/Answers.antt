-- `attributes::set_register` meets its contract.
use Rattle.model.specs.Calls.{describe}
use Rattle.model.proofs.Refused.{told-yes}
use Rattle.state.proofs.Admitted.{answering, passed_on}
use Rattle.attributes.proofs.Naming.{named, named-within}
use Rattle.attributes.proofs.set_register.Goals as goal

pub returns-in_default : goal.returns-in_default
unfolding describe
returns-in_default c = search (answering, c.in_default.ensures.cases)

pub returns-in_err-item : goal.returns-in_err-item
unfolding describe
returns-in_err-item c =
    let q = passed_on _ _ c.from_residual.ensures.1 in
    rw (q, ← c.in-Some.ensures.cases.same) (search (named, c.in_err-item.was))

pub returns-then-not-takes_value : goal.returns-then-not-takes_value
unfolding describe
returns-then-not-takes_value c = rw (← c.in-Some.ensures.cases.same) (search (named, c.in_ok-item.was))

pub write_item-requires : goal.write_item-requires
write_item-requires c = (search (named-within, c.in_ok-item.was), search told-yes)

pub returns : goal.returns
unfolding describe
returns c = rw (← c.in-Some.ensures.cases.same) (search (named, c.in_ok-item.was))
