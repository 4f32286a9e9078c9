-- `record::restore::load_record` meets its contract.
use Rattle.record.proofs.Settled.{fresh-is-stopped, takes_whole, takes_back}
use Rattle.record.proofs.restore.load_record.Goals as goal

pub of-shape-requires : goal.of-shape-requires
of-shape-requires c = search fresh-is-stopped

pub returns-in-Err : goal.returns-in-Err
returns-in-Err c = search takes_back

pub returns : goal.returns
returns c = search (takes_whole, c.in_default.is)
