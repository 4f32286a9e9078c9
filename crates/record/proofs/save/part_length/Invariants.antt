-- `record::save::part_length` meets its contract.
use lib.ListN.{drop}
use Rattle.record.specs.Table.{slot_bytes, slots_in}
use Rattle.record.proofs.Filling.{Counting}
use Rattle.record.proofs.save.part_length.Given as goal

abbrev pub invariant-loop-word : goal.invariant-loop-word
invariant-loop-word l = Counting (slot_bytes l.fn.s (slots_in l.part)) l.sum (slot_bytes l.fn.s (drop l.word-index (slots_in l.part)))
