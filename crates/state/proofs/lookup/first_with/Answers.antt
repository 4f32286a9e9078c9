-- `state::lookup::first_with` meets its contract: the search from v on finds what the whole search finds.
use Rattle.std.proofs.Common.{sym, ◌∙◌, ap, eqb}
use Rattle.state.proofs.Lowest.{passed, found_at, found_nowhere}
use Rattle.state.proofs.lookup.first_with.Goals as goal

pub returns-then-eq : goal.returns-then-eq
returns-then-eq c = found_at _ _ _ _ c.loop-v.invariant c.loop-v-test.true (sym (ap (λ n. eqb n c.args.mpidr.0) c.affinity_of.ensures) ∙ sym c.eq.ensures ∙ c.if-eq.true)

pub loop-v-preserved : goal.loop-v-preserved
loop-v-preserved c = sym (passed _ _ _ c.loop-v-test.true (sym (ap (λ n. eqb n c.args.mpidr.0) c.affinity_of.ensures) ∙ sym c.eq.ensures ∙ c.if-eq.false)) ∙ c.loop-v.invariant

pub returns : goal.returns
returns c = found_nowhere _ _ _ _ c.loop-v.invariant c.loop-v-test.false
