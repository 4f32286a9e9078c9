-- `words::config_of` meets its contract: after i turns the flags below i are in place.
use Prim.Native.Nat.{◌*◌, ◌-◌, ◌≤◌}
use mathlib.Core.Path.{◌≡◌}
use Rattle.model.specs.Words.{gather}
use Rattle.words.proofs.Edges.{config_bit}
use Rattle.words.proofs.config_of.Given as goal

abbrev pub invariant-loop-i : goal.invariant-loop-i
invariant-loop-i l = (l.i ≤ 16) × (l.r ≡ gather (2 * l.i) (config_bit l.e))

abbrev pub decreases-loop-i : goal.decreases-loop-i
decreases-loop-i l = 16 - l.i
