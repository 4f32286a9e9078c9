-- `words::with_bit` meets its contract.
use lib.Dec.{eqb}
use Rattle.model.specs.Words.{bit, with_bit}
use Rattle.words.proofs.Expressions.{gathers, same_bits, itself, ors, ands, nots, one_at, raised, lowered}
use Rattle.words.proofs.with_bit.Goals as goal

pub returns-then-on : goal.returns-then-on
unfolding with_bit
returns-then-on c = rw c.if-on.true (gathers (same_bits (λ i l. raised (bit _ i) (eqb i _)) (ors (itself c.ranges.w) (one_at c.requires))))

pub returns-else-on : goal.returns-else-on
unfolding with_bit
returns-else-on c = rw c.if-on.false (gathers (same_bits (λ i l. lowered (bit _ i) (eqb i _)) (ands (itself c.ranges.w) (nots (one_at c.requires)))))
