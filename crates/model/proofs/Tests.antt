-- Laws of the tests: `&&`, `||`, `every`, `all_below`, `lowest`.
use Prim.Native.Nat.{ℕ, zero, suc, ◌+◌, ◌≤◌, ◌<◌}
use mathlib.Core.Path.{◌≡◌, refl, sym, ◌∙◌}
use mathlib.Core.Bool.{Bool, true, false, not, ◌&&◌, ◌||◌, true≢false}
use mathlib.Core.List.{List, [], ◌∷◌}
use mathlib.Core.Logic.{◌⊎◌, inl, inr}
use native.Mathlib.Nat.{add-zero, zero-add}
use native.Mathlib.Decide.{ℕ_discrete, dec_lt}
use native.Mathlib.Omega.{arith}
use lib.ListN.{length, get_or}
use Rattle.model.specs.Words.{every, all_below, lowest}

-- ---- two tests

pub both : (a b : Bool) → (a && b) ≡ true → (a ≡ true) × (b ≡ true)
both true b e = (refl, e)
both false b e = absurd (true≢false (sym e))

pub and-true : {a b : Bool} → a ≡ true → b ≡ true → (a && b) ≡ true
and-true p q = cc

pub either : (a b : Bool) → (a || b) ≡ true → (a ≡ true) ⊎ (b ≡ true)
either true b e = inl refl
either false b e = inr e

pub or_right : (a : Bool) {b : Bool} → b ≡ true → (a || b) ≡ true
or_right true e = refl
or_right false e = e

-- a test that implies another joins it to itself
pub and-implied : (a b : Bool) → (b ≡ true → a ≡ true) → (a && b) ≡ b
and-implied true b h = refl
and-implied false true h = absurd (true≢false (sym (h refl)))
and-implied false false h = refl

-- a test `not a || c` that holds, read as an implication
pub implied : (a c : Bool) → (not a || c) ≡ true → a ≡ true → c ≡ true
implied true c e t = e
implied false c e t = absurd (true≢false (sym t))

-- two tests are equal where each holds if the other does
pub same_test : (a b : Bool) → (a ≡ true → b ≡ true) → (b ≡ true → a ≡ true) → a ≡ b
same_test true b f g = sym (f refl)
same_test false true f g = g refl
same_test false false f g = refl

pub not-both : (a : Bool) → a ≡ true → a ≡ false → ⊥
not-both a p q = true≢false (sym p ∙ q)

-- ---- `every`, at each place

from : (f : ℕ → ℕ → Bool) (xs : List ℕ) (i : ℕ) → every f i xs ≡ true → (k : ℕ) → k < length xs → f (i + k) (get_or xs k 0) ≡ true
unfolding every
from f [] i e k h = absurd (omega arith)
from f (x ∷ xs) i e zero h = rw add-zero (both (f i x) (every f (suc i) xs) e).0
from f (x ∷ xs) i e (suc k) h =
    let q : i + suc k ≡ suc i + k = omega arith in
    rw q (from f xs (suc i) (both (f i x) (every f (suc i) xs) e).1 k (omega arith))

pub every-at : (f : ℕ → ℕ → Bool) (xs : List ℕ) → every f 0 xs ≡ true → (k : ℕ) → k < length xs → f k (get_or xs k 0) ≡ true
every-at f xs e k h = rw zero-add at (from f xs 0 e k h)

onto : (f : ℕ → ℕ → Bool) (xs : List ℕ) (i : ℕ) → ((k : ℕ) → k < length xs → f (i + k) (get_or xs k 0) ≡ true) → every f i xs ≡ true
unfolding every
onto f [] i h = refl
onto f (x ∷ xs) i h =
    and-true (rw add-zero at (h 0 (omega arith)))
    (onto f xs (suc i) (λ k l. let q : i + suc k ≡ suc i + k = omega arith in rw q at (h (suc k) (omega arith))))

pub every-all : (f : ℕ → ℕ → Bool) (xs : List ℕ) → ((k : ℕ) → k < length xs → f k (get_or xs k 0) ≡ true) → every f 0 xs ≡ true
every-all f xs h = onto f xs 0 (λ k l. rw zero-add (h k l))

-- ---- `all_below`, at each number

module _ (f : ℕ → Bool) where
  pub below_at : (n : ℕ) → all_below f n ≡ true → (v : ℕ) → v < n → f v ≡ true
  unfolding all_below
  below_at zero e v l = absurd (omega arith)
  below_at (suc n) e v l = step (ℕ_discrete v n) (below_at n (both (f n) (all_below f n) e).1 v)
    where
      step : Dec (v ≡ n) → (v < n → f v ≡ true) → f v ≡ true
      step (yes q) ih = rw q (both (f n) (all_below f n) e).0
      step (no q) ih = ih (omega arith)

  pub below_all : (n : ℕ) → ((v : ℕ) → v < n → f v ≡ true) → all_below f n ≡ true
  unfolding all_below
  below_all zero h = refl
  below_all (suc n) h = and-true (h n (omega arith)) (below_all n (λ v l. h v (omega arith)))

  -- ---- `lowest`: the first number at which a test holds

  pub lowest-at : (n i : ℕ) → lowest f n i < i + n → f (lowest f n i) ≡ true
  unfolding lowest
  lowest-at zero i h = absurd (omega arith)
  lowest-at (suc n) i h = step (f i) refl (lowest-at n (suc i)) h
    where
      step : (t : Bool) → f i ≡ t → (lowest f n (suc i) < suc i + n → f (lowest f n (suc i)) ≡ true)
          → elim t [ true ↦ i | false ↦ lowest f n (suc i) ] < i + suc n → f (elim t [ true ↦ i | false ↦ lowest f n (suc i) ]) ≡ true
      step true e ih l = e
      step false e ih l = ih (omega arith)

  -- below it the test does not hold
  pub below-lowest : (n i j : ℕ) → i ≤ j → j < lowest f n i → f j ≡ false
  unfolding lowest
  below-lowest zero i j l h = absurd (omega arith)
  below-lowest (suc n) i j l h = step (f i) refl h (below-lowest n (suc i) j)
    where
      step : (t : Bool) → f i ≡ t → j < elim t [ true ↦ i | false ↦ lowest f n (suc i) ] → (suc i ≤ j → j < lowest f n (suc i) → f j ≡ false) → f j ≡ false
      step true e m ih = absurd (omega arith)
      step false e m ih = elim (dec_lt i j) [ yes k ↦ ih k m | no k ↦ let same : j ≡ i = omega arith in rw same e ]
