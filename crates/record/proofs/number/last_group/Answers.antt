-- `record::number::last_group` meets its contract.
use Rattle.record.proofs.Groups.{ended-zero, ended-large, ended-product, ended-fits, ended-whole}
use Rattle.record.proofs.number.last_group.Goals as goal

pub returns-then-b-begun : goal.returns-then-b-begun
returns-then-b-begun c = search ended-zero

pub returns-then-begun-b : goal.returns-then-begun-b
returns-then-begun-b c = search ended-large

pub overflow_mul-result : goal.overflow_mul-result
overflow_mul-result c = search ended-product

pub overflow_add-result : goal.overflow_add-result
overflow_add-result c = search ended-fits

pub returns : goal.returns
returns c = search ended-whole
