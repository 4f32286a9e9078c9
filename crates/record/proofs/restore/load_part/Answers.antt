-- `record::restore::load_part` meets its contract.
use Rattle.record.proofs.Walks.{loading-next, loading-fault, loading-unread, loading-end}
use Rattle.record.proofs.restore.load_part.Goals as goal

pub returns-in-Err : goal.returns-in-Err
returns-in-Err c = search (loading-unread, c.in-Err.is)

pub returns-then-not-takes : goal.returns-then-not-takes
returns-then-not-takes c = search loading-fault

pub loop-j-preserved : goal.loop-j-preserved
loop-j-preserved c = search loading-next

pub returns : goal.returns
returns c = search loading-end
