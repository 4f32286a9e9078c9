-- `record::save::save_part` meets its contract.
use lib.ListN.{drop}
use Rattle.record.specs.Table.{slot_bytes, slots_in}
use Rattle.record.proofs.Filling.{Writing}
use Rattle.record.proofs.save.save_part.Given as goal

abbrev pub invariant-loop-word : goal.invariant-loop-word
invariant-loop-word l = Writing l.initial.buf l.initial.next (slot_bytes l.fn.s (slots_in l.part)) l.buf l.next (slot_bytes l.fn.s (drop l.word-index (slots_in l.part)))
