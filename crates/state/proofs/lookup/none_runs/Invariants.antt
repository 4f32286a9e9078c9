-- `state::lookup::none_runs` meets its contract: none is the test of the vCPUs passed.
use Rattle.std.proofs.Common.{◌≡◌, eqb}
use Rattle.model.specs.Words.{all_below}
use Rattle.model.specs.Layout.{running}
use Rattle.state.proofs.lookup.none_runs.Given as goal

abbrev pub invariant-loop-v : goal.invariant-loop-v
invariant-loop-v l = l.none ≡ all_below (λ u. eqb (running l.s u) 0) l.v
