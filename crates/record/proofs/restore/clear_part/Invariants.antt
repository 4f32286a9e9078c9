-- `record::restore::clear_part` meets its contract.
use Rattle.record.proofs.Walks.{Clearing}
use Rattle.record.proofs.restore.clear_part.Given as goal

abbrev pub invariant-loop-j : goal.invariant-loop-j
invariant-loop-j l = Clearing l.part l.initial.s l.j l.s
