-- `record::save::save_part` meets its contract.
use Rattle.record.proofs.Filling.{value_room, value_written, values-written}
use Rattle.record.proofs.save.save_part.Goals as goal

pub write_number-next-requires : goal.write_number-next-requires
write_number-next-requires c = search value_room

pub loop-word-preserved : goal.loop-word-preserved
loop-word-preserved c = search value_written

pub returns : goal.returns
returns c = search values-written
