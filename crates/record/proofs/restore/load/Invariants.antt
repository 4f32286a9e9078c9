-- `record::restore::load` meets its contract.
use Rattle.record.specs.Table.{parts}
use Rattle.record.proofs.Walks.{Loaded}
use Rattle.record.proofs.restore.load.Given as goal

abbrev pub invariant-loop-part : goal.invariant-loop-part
invariant-loop-part l = Loaded (parts l.shape.count l.shape.vcpus) l.bytes l.fn.from l.initial.cursor.at l.initial.s l.part l.word l.cursor.at l.s
