-- `priority::acknowledge::acknowledge` meets its contract.
use mathlib.Core.Path.{ap}
use mathlib.Core.Bool.{not}
use Rattle.priority.proofs.Offers.{given-level, given-most, none-given, level-taken, given}
use borrow.Author.Rules.{rules}
use Rattle.priority.proofs.acknowledge.acknowledge.Goals as goal

pub returns-then-not-is_given : goal.returns-then-not-is_given
returns-then-not-is_given c = search none-given

pub has_level-requires : goal.has_level-requires
has_level-requires c = search (given-most, rules)

pub returns-then-has_level : goal.returns-then-has_level
returns-then-has_level c = search level-taken

pub take-requires : goal.take-requires
take-requires c = search (given-level, rules)

pub returns : goal.returns
returns c =
    given _ _ _ _ c.find_best-b.ensures _ c.is_given.ensures (ap not c.if-not-is_given.false) _ c.group_priority-level.ensures.0 _
    c.has_level.ensures _ c.if-has_level.false c.take.ensures
