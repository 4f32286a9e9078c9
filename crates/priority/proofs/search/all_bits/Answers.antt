-- `priority::search::all_bits` meets its contract.
use Rattle.model.specs.Words.{gather}
use Rattle.priority.specs.Search.{all_bits}
use Rattle.priority.proofs.search.all_bits.Goals as goal

pub returns-then-on : goal.returns-then-on
unfolding gather all_bits
returns-then-on c = rw c.if-on.true

pub returns-else-on : goal.returns-else-on
unfolding gather all_bits
returns-else-on c = rw c.if-on.false
