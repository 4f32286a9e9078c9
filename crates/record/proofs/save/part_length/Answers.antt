-- `record::save::part_length` meets its contract.
use Rattle.record.proofs.Filling.{values-fit, values-counting, values-counted}
use Rattle.record.proofs.save.part_length.Goals as goal

pub overflow_add-sum : goal.overflow_add-sum
overflow_add-sum c = search values-fit

pub loop-word-preserved : goal.loop-word-preserved
loop-word-preserved c = search values-counting

pub returns : goal.returns
returns c = search values-counted
