-- `record::save::save_plain` meets its contract.
use lib.ListN.{drop}
use Rattle.record.specs.Table.{slot_bytes, slots_in}
use Rattle.record.proofs.Filling.{Writing}
use Rattle.record.proofs.save.save_plain.Given as goal

abbrev pub invariant-loop-i : goal.invariant-loop-i
invariant-loop-i l = Writing l.initial.buf l.initial.next (slot_bytes l.fn.s (slots_in l.fn.part)) l.buf l.next (slot_bytes l.fn.s (drop l.i (slots_in l.fn.part)))
