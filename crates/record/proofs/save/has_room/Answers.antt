-- `record::save::has_room` meets its contract.
use Rattle.record.proofs.Filling.{room-surely}
use Rattle.record.proofs.save.has_room.Goals as goal

pub returns-then-value_count-len : goal.returns-then-value_count-len
returns-then-value_count-len c = search room-surely
