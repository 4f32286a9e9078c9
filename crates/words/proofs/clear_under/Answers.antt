-- `words::clear_under` meets its contract.
use Rattle.model.specs.Words.{bit}
use Rattle.model.specs.Registers.{flag_after}
use Rattle.words.specs.Words.{under}
use Rattle.words.proofs.Expressions.{gathers, same_bits, itself, ands, nots, clears}
use Rattle.words.proofs.clear_under.Goals as goal

pub returns : goal.returns
unfolding under flag_after
returns c = gathers (same_bits (λ i l. clears (bit _ i) (bit _ i) (bit _ i)) (ands (itself c.ranges.w) (nots (ands (itself c.ranges.x) (itself c.ranges.m)))))
