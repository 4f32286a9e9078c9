-- `registers::single::written_status` meets its contract.
use native.Mathlib.Omega.{arith}
use lib.Bits.{and_mask}
use Rattle.model.specs.Registers.{written_status}
use Rattle.words.proofs.Expressions.{low_bits, itself, ands, nots}
use Rattle.registers.proofs.single.written_status.Goals as goal

pub returns-in-Guest : goal.returns-in-Guest
unfolding written_status
returns-in-Guest c = rw (c.in-Guest.is, and_mask _ 4) (low_bits 4 (omega arith) (ands (itself c.ranges.old) (nots (itself c.ranges.x))))
