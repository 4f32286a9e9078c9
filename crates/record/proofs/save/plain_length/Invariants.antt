-- `record::save::plain_length` meets its contract.
use lib.ListN.{drop}
use Rattle.record.specs.Table.{slot_bytes, slots_in}
use Rattle.record.proofs.Filling.{Counting}
use Rattle.record.proofs.save.plain_length.Given as goal

abbrev pub invariant-loop-i : goal.invariant-loop-i
invariant-loop-i l = Counting (slot_bytes l.fn.s (slots_in l.fn.part)) l.sum (slot_bytes l.fn.s (drop l.i (slots_in l.fn.part)))
