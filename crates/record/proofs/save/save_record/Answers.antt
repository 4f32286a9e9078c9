-- `record::save::save_record` meets its contract.
use Rattle.record.proofs.Filling.{part_small, record-unwritten, part_room, part-written, record-written, written-most}
use borrow.Author.Rules.{rules}
use Rattle.record.proofs.save.save_record.Goals as goal

pub loop-k-init : goal.loop-k-init
loop-k-init c = search record-unwritten

pub save_part-next-requires : goal.save_part-next-requires
save_part-next-requires c = (search rules, search part_small, search part_room)

pub loop-k-preserved : goal.loop-k-preserved
loop-k-preserved c = search part-written

pub returns : goal.returns
returns c = (search record-written, search written-most)
