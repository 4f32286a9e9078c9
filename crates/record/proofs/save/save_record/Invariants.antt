-- `record::save::save_record` meets its contract.
use Rattle.model.specs.Record.{record_of}
use Rattle.record.specs.Table.{slot_bytes, left_at, parts}
use Rattle.record.proofs.Filling.{Writing}
use Rattle.record.proofs.save.save_record.Given as goal

abbrev pub invariant-loop-k : goal.invariant-loop-k
invariant-loop-k l = Writing l.initial.buf 0 (record_of l.s) l.buf l.next (slot_bytes l.s (left_at (parts l.shape.count l.shape.vcpus) l.k 0))
