-- `words::replace_under` meets its contract.
use Rattle.model.specs.Words.{bit}
use Rattle.model.specs.Registers.{flag_after}
use Rattle.words.specs.Words.{under}
use Rattle.words.proofs.Expressions.{gathers, same_bits, itself, ors, ands, nots, replaces}
use Rattle.words.proofs.replace_under.Goals as goal

pub returns : goal.returns
unfolding under flag_after
returns c =
    gathers (same_bits (λ i l. replaces (bit _ i) (bit _ i) (bit _ i))
    (ors (ands (itself c.ranges.w) (nots (itself c.ranges.m))) (ands (itself c.ranges.x) (itself c.ranges.m))))
