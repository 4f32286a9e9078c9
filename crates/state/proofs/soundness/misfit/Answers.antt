-- `state::soundness::misfit` meets its contract: what is joined is clear of the rows passed, and whole rows are left.
use mathlib.Core.Path.{◌≡◌}
use native.Mathlib.Omega.{arith}
use borrow.Author.Rules.{rules}
use Rattle.state.proofs.Joined.{at_first, row-left, at_next, clear_none, clear-row}
use Rattle.state.proofs.soundness.misfit.Goals as goal

pub loop-i-init : goal.loop-i-init
loop-i-init c = (at_first _ _ _ (search rules) (search rules), clear_none _)

pub misfit_row-joined-requires : goal.misfit_row-joined-requires
misfit_row-joined-requires c = omega (arith, row-left _ _ _ _ c.loop-i.invariant.0 (omega arith))

pub overflow_add-i : goal.overflow_add-i
overflow_add-i c = omega (arith, row-left _ _ _ _ c.loop-i.invariant.0 (omega arith))

pub loop-i-smaller : goal.loop-i-smaller
loop-i-smaller c = omega (arith, row-left _ _ _ _ c.loop-i.invariant.0 (omega arith))

pub loop-i-preserved : goal.loop-i-preserved
loop-i-preserved c =
    let b = c.loop-i.invariant.0 in
    (at_next _ _ _ _ b (omega arith), clear-row b.passed c.loop-i.invariant.1 c.misfit_row-joined.ensures)

pub returns : goal.returns
returns c = let q : c.loop-i.i ≡ c.args.e = omega arith in rw (← q) c.loop-i.invariant.1
