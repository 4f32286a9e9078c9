-- `record::number::number_length` meets its contract.
use native.Mathlib.Omega.{arith}
use Rattle.record.proofs.Groups.{length-one, length_more}
use Rattle.record.proofs.number.number_length.Goals as goal

pub returns-in-0-to-127 : goal.returns-in-0-to-127
returns-in-0-to-127 c = (search length-one, omega arith, omega arith)

pub returns-in-128-to-16383 : goal.returns-in-128-to-16383
returns-in-128-to-16383 c = (search (length_more 0), omega arith, omega arith)

pub returns-in-16384-to-2097151 : goal.returns-in-16384-to-2097151
returns-in-16384-to-2097151 c = (search (length_more 1), omega arith, omega arith)

pub returns-in-2097152-to-268435455 : goal.returns-in-2097152-to-268435455
returns-in-2097152-to-268435455 c = (search (length_more 2), omega arith, omega arith)

pub returns-in_default : goal.returns-in_default
returns-in_default c = (length_more 3 _ (omega arith) (omega arith) (omega arith), omega arith, omega arith)
