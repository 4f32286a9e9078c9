-- Laws of `lowest`, for a loop that counts up to the first number at which a test holds.
use Rattle.std.specs.Prelude.{Option, Some, None, is_some}
use Prim.Native.Nat.{ℕ, zero, suc, ◌+◌, ◌-◌, ◌≤◌, ◌<◌}
use mathlib.Core.Path.{◌≡◌, refl, sym, ◌∙◌}
use mathlib.Core.List.{List}
use mathlib.Core.Bool.{Bool, true, false, not, cond, ◌&&◌}
use native.Mathlib.Decide.{dec_lt}
use native.Mathlib.Numerals.{add-one}
use native.Mathlib.Omega.{arith}
use borrow.Author.Tests.{eqb-true, eq-eqb, ne_eqb, not-true, lt-ltb, le-ltb}
use lib.Dec.{eqb, ltb}
use Rattle.std.proofs.Math.Bool.{and_comm}
use Rattle.model.specs.Words.{all_below, lowest}
use Rattle.model.specs.Layout.{affinity}
use Rattle.model.specs.Sound.{unused}
use Rattle.state.specs.Lookup.{first_with}
use Rattle.state.specs.declared.lookup.VcpuIndex.{VcpuIndex}
use Rattle.model.proofs.Tests.{same_test, not-both, below_at, below_all, lowest-at, below-lowest}

module _ (f : ℕ → Bool) where
  -- the search from v on, where it holds there, where it does not, and where no number is left
  pub found : (n v : ℕ) → v < n → f v ≡ true → lowest f (n - v) v ≡ v
  unfolding lowest
  found n v l e = let q : n - v ≡ suc (n - (v + 1)) = omega arith in rw (q, lowest, e)

  pub passed : (n v : ℕ) → v < n → f v ≡ false → lowest f (n - v) v ≡ lowest f (n - (v + 1)) (v + 1)
  unfolding lowest
  passed n v l e = let q : n - v ≡ suc (n - (v + 1)) = omega arith in rw (q, lowest, e, add-one)

  pub ended : (n v : ℕ) → n ≤ v → lowest f (n - v) v ≡ v
  unfolding lowest
  ended n v l = let q : n - v ≡ 0 = omega arith in rw q

  -- what it finds is n exactly where the test fails at each number below n
  pub none_found : (n r : ℕ) → r ≡ lowest f n 0 → r ≤ n → eqb r n ≡ all_below (λ v. not (f v)) n
  none_found n r q l =
      same_test (eqb r n) (all_below (λ v. not (f v)) n)
      (λ t. let e = eqb-true r n t in below_all (λ v. not (f v)) n (λ v m. rw (below-lowest f n 0 v (omega arith) (omega arith))))
      (λ t. eq-eqb r n (go t (dec_lt r n)))
    where
      go : all_below (λ v. not (f v)) n ≡ true → Dec (r < n) → r ≡ n
      go t (yes m) = absurd (not-both (f r) (rw (← q) at (lowest-at f n 0 (omega arith))) (not-true (f r) (below_at (λ v. not (f v)) n t r m)))
      go t (no m) = omega arith

-- the search stays below its end
lowest-below : (f : ℕ → Bool) (n i : ℕ) → lowest f n i ≤ i + n
unfolding lowest
lowest-below f zero i = omega arith
lowest-below f (suc n) i = step (f i) (lowest-below f n (suc i))
  where
    step : (t : Bool) → lowest f n (suc i) ≤ suc i + n → elim t [ true ↦ i | false ↦ lowest f n (suc i) ] ≤ i + suc n
    step true l = omega arith
    step false l = omega arith

-- ---- the first vCPU that has an affinity

module _ (s : List ℕ) (a n v : ℕ) (e : lowest (λ u. eqb (affinity s u) a) (n - v) v ≡ lowest (λ u. eqb (affinity s u) a) n 0) where
  pub found_at : v < n → eqb (affinity s v) a ≡ true → Some (record { 0 = v }) ≡ first_with s a n
  unfolding first_with
  found_at l h = let q : lowest (λ u. eqb (affinity s u) a) n 0 ≡ v = sym e ∙ found (λ u. eqb (affinity s u) a) n v l h in rw (q, lt-ltb v n l)

  pub found_nowhere : n ≤ v → None ≡ first_with s a n
  unfolding first_with
  found_nowhere l = let q : lowest (λ u. eqb (affinity s u) a) n 0 ≡ v = sym e ∙ ended (λ u. eqb (affinity s u) a) n v l in rw (q, le-ltb v n l)

pub used_nowhere : (s : List ℕ) (a n : ℕ) (r : Bool) (o : Option VcpuIndex) → o ≡ first_with s a n → is_some o ≡ not r → r ≡ unused s a n
unfolding first_with unused
used_nowhere s a n r o e h = step (dec_lt v n) r (rw (← e) h) ∙ none_found (λ u. eqb (affinity s u) a) n v refl below
  where
    v : ℕ
    v = lowest (λ u. eqb (affinity s u) a) n 0

    below : v ≤ n
    below = omega (arith, lowest-below (λ u. eqb (affinity s u) a) n 0)

    step : Dec (v < n) → (r : Bool) → is_some {T = VcpuIndex} (cond (ltb v n) (Some (record { 0 = v })) None) ≡ not r → r ≡ eqb v n
    step (yes l) true g = let w : ltb v n ≡ true = lt-ltb v n l in let z : ◌≡◌ {A = ℕ} 0 1 = cc in absurd (omega arith)
    step (yes l) false g = sym (ne_eqb v n (omega arith))
    step (no l) true g = let q : v ≡ n = omega (arith, below) in sym (eq-eqb v n q)
    step (no l) false g = let w : ltb v n ≡ false = le-ltb v n (omega arith) in let z : ◌≡◌ {A = ℕ} 0 1 = cc in absurd (omega arith)

-- a test of the numbers below n, and of n itself
pub one-more : (f : ℕ → Bool) (n : ℕ) (r t : Bool) → r ≡ all_below f n → t ≡ f n → (r && t) ≡ all_below f (n + 1)
unfolding all_below
one-more f n r t e h = rw (add-one, e, h) (and_comm (all_below f n) (f n))
