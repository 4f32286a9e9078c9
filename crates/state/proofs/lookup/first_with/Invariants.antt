-- `state::lookup::first_with` meets its contract: the search from v on finds what the whole search finds.
use Rattle.std.proofs.Common.{◌≡◌, ◌-◌, eqb}
use Rattle.model.specs.Words.{lowest}
use Rattle.model.specs.Layout.{affinity}
use Rattle.state.proofs.lookup.first_with.Given as goal

abbrev pub invariant-loop-v : goal.invariant-loop-v
invariant-loop-v l = lowest (λ u. eqb (affinity l.s u) l.mpidr.0) (l.n - l.v) l.v ≡ lowest (λ u. eqb (affinity l.s u) l.mpidr.0) l.n 0
