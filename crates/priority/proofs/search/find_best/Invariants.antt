-- `priority::search::find_best` meets its contract.
use Prim.Native.Nat.{◌-◌, ◌≤◌}
use Rattle.priority.proofs.Best.{Outer, Inner}
use Rattle.priority.proofs.search.find_best.Given as goal

abbrev pub invariant-loop-ready : goal.invariant-loop-ready
invariant-loop-ready l = Inner l.s l.v.index l.best l.w l.ready

abbrev pub decreases-loop-ready : goal.decreases-loop-ready
decreases-loop-ready l = l.ready

abbrev pub invariant-search : goal.invariant-search
invariant-search l = (l.w ≤ l.words) × Outer l.s l.v.index l.best l.w

abbrev pub decreases-search : goal.decreases-search
decreases-search l = l.words - l.w
