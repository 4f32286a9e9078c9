-- `words::written_under` meets its contract.
use Rattle.model.specs.Words.{bit}
use Rattle.model.specs.Registers.{flag_after}
use Rattle.words.specs.Words.{under}
use Rattle.words.proofs.Expressions.{gathers, same_bits, itself, keeps}
use Rattle.words.proofs.written_under.Goals as goal

pub returns-in-Ignores : goal.returns-in-Ignores
unfolding under flag_after
returns-in-Ignores c = rw c.in-Ignores.is (gathers (same_bits (λ i l. keeps (bit _ i) (bit _ i)) (itself c.ranges.w)))

pub returns-in-Replaces : goal.returns-in-Replaces
returns-in-Replaces c = cc

pub returns-in-Sets : goal.returns-in-Sets
returns-in-Sets c = cc

pub returns-in-Clears : goal.returns-in-Clears
returns-in-Clears c = cc
