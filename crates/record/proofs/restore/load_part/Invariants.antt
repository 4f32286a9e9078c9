-- `record::restore::load_part` meets its contract.
use Rattle.record.proofs.Walks.{Loading}
use Rattle.record.proofs.restore.load_part.Given as goal

abbrev pub invariant-loop-j : goal.invariant-loop-j
invariant-loop-j l = Loading l.bytes l.part l.initial.cursor.at l.from.word l.initial.s l.cursor.at l.j l.s
