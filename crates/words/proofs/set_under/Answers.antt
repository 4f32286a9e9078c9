-- `words::set_under` meets its contract.
use Rattle.model.specs.Words.{bit}
use Rattle.model.specs.Registers.{flag_after}
use Rattle.words.specs.Words.{under}
use Rattle.words.proofs.Expressions.{gathers, same_bits, itself, ors, ands, sets}
use Rattle.words.proofs.set_under.Goals as goal

pub returns : goal.returns
unfolding under flag_after
returns c = gathers (same_bits (λ i l. sets (bit _ i) (bit _ i) (bit _ i)) (ors (itself c.ranges.w) (ands (itself c.ranges.x) (itself c.ranges.m))))
