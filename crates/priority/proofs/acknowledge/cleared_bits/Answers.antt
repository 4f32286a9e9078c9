-- `priority::acknowledge::cleared_bits` meets its contract.
use mathlib.Core.Path.{ap}
use Rattle.model.specs.Interface.{group_index}
use Rattle.priority.proofs.Offers.{zero-fits, point-zero, zero-small, point-one, one-small}
use borrow.Author.Rules.{rules}
use Rattle.priority.proofs.acknowledge.cleared_bits.Goals as goal

pub overflow_add-result-in-Group0 : goal.overflow_add-result-in-Group0
overflow_add-result-in-Group0 c = search (zero-fits, rules)

pub returns-in-Group0 : goal.returns-in-Group0
returns-in-Group0 c = (search (point-zero, ap group_index c.in-Group0.is), search zero-small)

pub returns-in-Group1 : goal.returns-in-Group1
returns-in-Group1 c = (search (point-one, ap group_index c.in-Group1.is), search one-small)
