-- `record::number::read_on` meets its contract: what is left to read, after the groups up to i, gives the number that was to be read.
use Prim.Native.Nat.{◌<◌}
use native.Mathlib.Omega.{arith}
use Rattle.record.proofs.Groups.{ends-resumes, rest-resumes, rest-cut, rest-ends, rest_over, group-fits, sum_fits, unit-fits, rest-next}
use Rattle.record.proofs.number.read_on.Goals as goal

pub returns-then-b-lt128 : goal.returns-then-b-lt128
returns-then-b-lt128 c = (search rest-ends, search ends-resumes)

pub returns-then-begun-eq-LAST_UNIT : goal.returns-then-begun-eq-LAST_UNIT
returns-then-begun-eq-LAST_UNIT c = (search rest_over, tt)

pub overflow_mul-begun : goal.overflow_mul-begun
overflow_mul-begun c = let byte : c.from-b.result < 256 = omega arith in search group-fits

pub overflow_add-begun : goal.overflow_add-begun
overflow_add-begun c = let byte : c.from-b.result < 256 = omega arith in search sum_fits

pub overflow_mul-begun-in-loop-i : goal.overflow_mul-begun-in-loop-i
overflow_mul-begun-in-loop-i c = let byte : c.from-b.result < 256 = omega arith in search unit-fits

pub loop-i-preserved : goal.loop-i-preserved
loop-i-preserved c = let byte : c.from-b.result < 256 = omega arith in search rest-next

pub returns : goal.returns
returns c = (search rest-cut, search rest-resumes)
