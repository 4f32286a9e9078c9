-- `record::save::record_length` meets its contract.
use Rattle.model.specs.Record.{record_of}
use Rattle.record.specs.Table.{slot_bytes, left_at, parts}
use Rattle.record.proofs.Filling.{Counting}
use Rattle.record.proofs.save.record_length.Given as goal

abbrev pub invariant-loop-k : goal.invariant-loop-k
invariant-loop-k l = Counting (record_of l.s) l.sum (slot_bytes l.s (left_at (parts l.shape.count l.shape.vcpus) l.k 0))
