-- `record::save::save_plain` meets its contract.
use Rattle.record.proofs.Filling.{plain_word, value_room, value_written, values-written}
use Rattle.record.proofs.save.save_plain.Goals as goal

pub write_number-next-requires : goal.write_number-next-requires
write_number-next-requires c = search (value_room, plain_word)

pub loop-i-preserved : goal.loop-i-preserved
loop-i-preserved c = search (value_written, plain_word)

pub returns : goal.returns
returns c = search values-written
