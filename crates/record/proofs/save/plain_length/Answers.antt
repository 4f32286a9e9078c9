-- `record::save::plain_length` meets its contract.
use Rattle.record.proofs.Filling.{plain_word, values-fit, values-counting, values-counted}
use Rattle.record.proofs.save.plain_length.Goals as goal

pub overflow_add-sum : goal.overflow_add-sum
overflow_add-sum c = search (values-fit, plain_word)

pub loop-i-preserved : goal.loop-i-preserved
loop-i-preserved c = search (values-counting, plain_word)

pub returns : goal.returns
returns c = search values-counted
