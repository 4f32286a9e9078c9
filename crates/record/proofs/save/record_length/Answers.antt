-- `record::save::record_length` meets its contract.
use borrow.Author.Rules.{rules}
use Rattle.record.proofs.Filling.{part_small, record-uncounted, record-fits, parts-counting, record-counted}
use Rattle.record.proofs.save.record_length.Goals as goal

pub loop-k-init : goal.loop-k-init
loop-k-init c = search record-uncounted

pub part_length-sum-requires : goal.part_length-sum-requires
part_length-sum-requires c = (search rules, search part_small)

pub overflow_add-sum : goal.overflow_add-sum
overflow_add-sum c = search record-fits

pub loop-k-preserved : goal.loop-k-preserved
loop-k-preserved c = search parts-counting

pub returns : goal.returns
returns c = search record-counted
