-- `record::restore::clear_part` meets its contract.
use Rattle.record.proofs.Walks.{clearing-next, clearing-end}
use Rattle.record.proofs.restore.clear_part.Goals as goal

pub loop-j-preserved : goal.loop-j-preserved
loop-j-preserved c = search clearing-next

pub returns : goal.returns
returns c = search clearing-end
