-- `setup::get_count` meets its contract.
use Rattle.model.specs.Attributes.{group_of}
use Rattle.model.specs.Calls.{get_checks, get_value, describe}
use Rattle.model.proofs.Refused.{fault-is, none_is}
use Rattle.state.proofs.Admitted.{refusing, answering}
use Rattle.setup.proofs.get_count.Goals as goal

pub returns-in_default : goal.returns-in_default
unfolding describe
returns-in_default c = search (answering, c.in_default.ensures.cases)

pub returns-then-not-is_sound : goal.returns-then-not-is_sound
unfolding describe
returns-then-not-is_sound c = rw (← c.in-Some.ensures.cases.same) (search (answering, fault-is, refusing) depth 12)

pub returns : goal.returns
unfolding describe get_checks group_of get_value
returns c = rw (← c.in-Some.ensures.cases.same) (search (answering, none_is, refusing) depth 12)
