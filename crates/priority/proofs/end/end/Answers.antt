-- `priority::end::end` meets its contract.
-- the interrupt exists and a word of 32 bits has the level
use Rattle.priority.proofs.Ended.{ended-within, ended-none, ended-one}
use borrow.Author.Rules.{rules}
use Rattle.priority.proofs.end.end.Goals as goal

pub drop_level-requires : goal.drop_level-requires
drop_level-requires c =
    let bounds = ended-within _ _ _ _ _ _ c.is_present.ensures c.has_level.ensures c.if-is_present-has_level.true (search rules) in
    search rules

pub returns-then-is_present-has_level : goal.returns-then-is_present-has_level
returns-then-is_present-has_level c = search ended-one

pub returns-else-is_present-has_level : goal.returns-else-is_present-has_level
returns-else-is_present-has_level c = search ended-none
