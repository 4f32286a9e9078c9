-- `record::restore::clear` meets its contract.
use Rattle.record.proofs.Walking.{left-all}
use Rattle.record.proofs.Walks.{clears-all}
use Rattle.record.proofs.restore.clear.Goals as goal

pub returns : goal.returns
returns c = search (clears-all, left-all)
