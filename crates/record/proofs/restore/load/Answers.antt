-- `record::restore::load` meets its contract.
use Rattle.std.proofs.lemmas.Result.{err_from_is_err_and}
use Rattle.record.proofs.Walks.{loaded-next, loaded-stops, loaded-end}
use Rattle.record.proofs.restore.load.Goals as goal

pub returns-in_err-cursor : goal.returns-in_err-cursor
returns-in_err-cursor c = let p = err_from_is_err_and c.from_residual.result c.from_residual.ensures.1 in rw (p.1, p.2) (search (loaded-stops, c.in_err-cursor.was))

pub loop-part-preserved : goal.loop-part-preserved
loop-part-preserved c = search (loaded-next, c.in_ok-cursor.was)

pub returns : goal.returns
returns c = search loaded-end
