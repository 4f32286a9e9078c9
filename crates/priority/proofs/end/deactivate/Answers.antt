-- `priority::end::deactivate` meets its contract.
use Rattle.priority.proofs.Ended.{deactivated-below, deactivated-one, deactivated-none}
use borrow.Author.Rules.{rules}
use Rattle.priority.proofs.end.deactivate.Goals as goal

pub put_flag-requires : goal.put_flag-requires
put_flag-requires c = search (deactivated-below, rules)

pub returns-then-eoi_mode-is_present : goal.returns-then-eoi_mode-is_present
returns-then-eoi_mode-is_present c = search deactivated-one

pub returns-else-eoi_mode-is_present : goal.returns-else-eoi_mode-is_present
returns-else-eoi_mode-is_present c = search deactivated-none
