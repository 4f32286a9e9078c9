-- `attributes::get_register` meets its contract.
use Rattle.model.specs.Calls.{describe}
use Rattle.state.proofs.Admitted.{answering, passed_on}
use Rattle.attributes.proofs.Naming.{named, named-within}
use Rattle.attributes.proofs.get_register.Goals as goal

pub returns-in_default : goal.returns-in_default
unfolding describe
returns-in_default c = search (answering, c.in_default.ensures.cases)

pub returns-in_err-item_named : goal.returns-in_err-item_named
unfolding describe
returns-in_err-item_named c =
    let q = passed_on _ _ c.from_residual.ensures.1 in
    rw (q, ← c.in-Some.ensures.cases.same) (search (named, c.in_err-item_named.was))

pub read_item-requires : goal.read_item-requires
read_item-requires c = search (named-within, c.in_ok-item_named.was)

pub returns : goal.returns
unfolding describe
returns c = rw (← c.in-Some.ensures.cases.same) (search (named, c.in_ok-item_named.was))
