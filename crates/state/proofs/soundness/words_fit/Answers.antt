-- `state::soundness::words_fit` meets its contract: the masks are the fresh ones exactly before initialising.
use mathlib.Core.Path.{◌≡◌}
use native.Mathlib.Omega.{arith}
use mathlib.Core.Bool.{true}
use Prim.Native.Nat.{ℕ}
use Rattle.model.specs.Sound.{word_ok, allowed_bits, setup}
use Rattle.model.proofs.Soundness.{setup-mark, setup-vcpus, setup-count}
use Rattle.state.proofs.soundness.words_fit.Goals as goal

marked : (i c n : ℕ) → setup i c n ≡ true → ¬ (i ≡ 0) → i ≡ 1
marked i c n e z = let h = setup-mark _ _ _ e in omega arith

pub fresh_fits-requires : goal.fresh_fits-requires
fresh_fits-requires c = setup-vcpus _ _ _ c.requires

pub used_fits-requires : goal.used_fits-requires
used_fits-requires c =
    let n = setup-count _ _ _ c.requires (marked _ _ _ c.requires (λ e. c.if-initialised-eq0.false e)) in
    (n.least, n.most, n.step, setup-vcpus _ _ _ c.requires)

pub returns-then-initialised-eq0 : goal.returns-then-initialised-eq0
unfolding word_ok allowed_bits
returns-then-initialised-eq0 c = rw c.if-initialised-eq0.true c.fresh_fits.ensures

pub returns-else-initialised-eq0 : goal.returns-else-initialised-eq0
unfolding word_ok allowed_bits
returns-else-initialised-eq0 c = rw (marked _ _ _ c.requires (λ e. c.if-initialised-eq0.false e)) c.used_fits.ensures
