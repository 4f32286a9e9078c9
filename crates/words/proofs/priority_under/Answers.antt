-- `words::priority_under` meets its contract.
use mathlib.Core.Path.{refl}
use mathlib.Core.Bool.{◌&&◌}
use Prim.Native.Nat.{◌%◌}
use lib.Dec.{leb}
use Rattle.model.specs.Words.{bit, gather}
use Rattle.words.specs.Words.{priority_under}
use Rattle.words.proofs.Expressions.{gathers, gathered, same_bits, itself, ors, ands, nots, replaces}
use Rattle.words.proofs.priority_under.Goals as goal

pub returns : goal.returns
unfolding priority_under gather
returns c =
    gathers (same_bits (λ i l. replaces (bit _ i) (leb 3 (i % 8) && bit _ i) (bit _ i))
    (ors (ands (itself c.ranges.w) (nots (itself c.ranges.m))) (ands (ands (gathered (λ i. leb 3 (i % 8)) refl) (itself c.ranges.x)) (itself c.ranges.m))))
