-- `record::number::read_number` meets its contract.
use Rattle.record.proofs.Groups.{none-begun, cut_at, number_small, number_more}
use borrow.Author.Rules.{rules}
use Rattle.record.proofs.number.read_number.Goals as goal

pub returns-then-src-at : goal.returns-then-src-at
returns-then-src-at c = (search cut_at, none-begun)

pub returns-then-b-lt128 : goal.returns-then-b-lt128
returns-then-b-lt128 c = (search number_small, tt)

pub returns : goal.returns
returns c = (search number_more, search rules)
