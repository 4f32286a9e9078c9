-- Going through the set bits of a word, the lowest first: `trailing_zeros` finds it, and `m & (m - 1)` takes it away.
use Prim.Native.Nat.{ℕ, zero, suc, ◌+◌, ◌-◌, ◌*◌, ◌/◌, ◌%◌, ◌^◌, ◌≤◌, ◌<◌, min}
use mathlib.Core.Path.{◌≡◌, refl, sym, ap, ◌∙◌}
use mathlib.Core.Bool.{Bool, true, false, ◌||◌, cond}
use native.Mathlib.Nat.{pow-suc, add-suc, add-zero, suc-add, zero-add, div-one}
use native.Mathlib.Numerals.{add-one}
use native.Mathlib.Decide.{ℕ_discrete}
use native.Mathlib.Omega.{arith}
use lib.Bits.{bit_and, bit_or, and_step, and_self, and_le_r}
use lib.Count.{count_trailing_zeros, under}
use lib.Dec.{eqb, eqb-zero-suc, eqb-suc-zero, eqb-suc-suc}
use lib.Pow.{shr-shr}
use Rattle.model.specs.Words.{val, bit, with_bit, lowest}
use Rattle.model.proofs.Bits.{val-bit, word-is}
use Rattle.model.proofs.Within.{bit-zero, bit-suc}
use Rattle.words.specs.Words.{rest}
use Rattle.words.proofs.Operators.{bit-or}

-- f at each set bit of the n lowest bits of m, the lowest first; the lowest is counted as bit i
unfoldable pub over : (ℕ → ℕ → ℕ) → ℕ → ℕ → ℕ → ℕ → ℕ
over f zero i m a = a
over f (suc n) i m a = over f n (suc i) (m / 2) (cond (eqb (m % 2) 1) (f i a) a)

-- ---- the lowest bit, set or clear, and what is left without the lowest set one

-- `rest` as the machine makes it (`lower-rest`)
unfoldable pub lower : ℕ → ℕ
lower m = bit_and m (m - 1)

data Low (m : ℕ) : Type 0 where
  is_set : m % 2 ≡ 1 → lower m / 2 ≡ m / 2 → lower m % 2 ≡ 0 → Low m
  is-clear : m % 2 ≡ 0 → 0 < m / 2 → lower m / 2 ≡ lower (m / 2) → lower m % 2 ≡ 0 → Low m

low : (m : ℕ) → 0 < m → Low m
unfolding lower
low m p = go (ℕ_discrete (m % 2) 0)
  where
    go : Dec (m % 2 ≡ 0) → Low m
    go (yes e) =
        let h : (m - 1) / 2 ≡ m / 2 - 1 = omega arith in
        let s : bit_and m (m - 1) ≡ bit_and (m / 2) (m / 2 - 1) * 2 + min (m % 2) ((m - 1) % 2) = rw h at (and_step m (m - 1)) in
        is-clear e (omega arith) (omega arith) (omega arith)
    go (no e) =
        let h : (m - 1) / 2 ≡ m / 2 = omega arith in
        let s : bit_and m (m - 1) ≡ bit_and (m / 2) (m / 2) * 2 + min (m % 2) ((m - 1) % 2) = rw h at (and_step m (m - 1)) in
        is_set (omega arith) (omega (arith, and_self (m / 2))) (omega (arith, and_self (m / 2)))

pub lower-lt : (m : ℕ) → 0 < m → lower m < m
unfolding lower
lower-lt m p = omega (arith, and_le_r m (m - 1))

-- ---- the place of the lowest set bit

pub trailing_lt : (n m : ℕ) → 0 < m → m < 2 ^ n → count_trailing_zeros n m < n
unfolding count_trailing_zeros
trailing_lt zero m p h = absurd (omega arith)
trailing_lt (suc n) m p h = go (λ q. trailing_lt n (m / 2) q (omega (arith, pow-suc 2 n))) (low m p)
  where
    go : (0 < m / 2 → count_trailing_zeros n (m / 2) < n) → Low m → under (m % 2) (count_trailing_zeros n (m / 2)) < suc n
    go ih (is_set e x y) = rw e (omega arith)
    go ih (is-clear e q x y) = rw e (omega (arith, ih q))

pub lowest-bit : (f : ℕ → Bool) (w : ℕ) → ((j : ℕ) → f j ≡ bit w j) → (n i : ℕ) → lowest f n i ≡ i + count_trailing_zeros n (w / 2 ^ i)
unfolding lowest count_trailing_zeros
lowest-bit f w e zero i = sym (add-zero i)
lowest-bit f w e (suc n) i = rw (e i, lowest, ← val-bit w i) (go (rw half at (lowest-bit f w e n (suc i))) (bit w i))
  where
    half : w / 2 ^ suc i ≡ w / 2 ^ i / 2
    half = ap (λ (k : ℕ). w / 2 ^ k) (sym (add-one i)) ∙ sym (shr-shr w i 1)

    go : lowest f n (suc i) ≡ suc i + count_trailing_zeros n (w / 2 ^ i / 2)
        → (b : Bool) → elim b [ true ↦ i | false ↦ lowest f n (suc i) ] ≡ i + under (val b) (count_trailing_zeros n (w / 2 ^ i / 2))
    go ih false = ih ∙ omega arith
    go ih true = sym (add-zero i)

lowest-word : (f : ℕ → Bool) (w : ℕ) → ((j : ℕ) → f j ≡ bit w j) → lowest f 32 0 ≡ count_trailing_zeros 32 w
lowest-word f w e = lowest-bit f w e 32 0 ∙ zero-add _ ∙ ap (count_trailing_zeros 32) (div-one w)

pub lowest-either : (a b : ℕ) → lowest (λ k. bit a k || bit b k) 32 0 ≡ count_trailing_zeros 32 (bit_or a b)
lowest-either a b = lowest-word _ (bit_or a b) (λ j. sym (bit-or a b j))

-- ---- `m & (m - 1)` is m without its lowest set bit

bit-lower : (n m j : ℕ) → 0 < m → m < 2 ^ n → bit (lower m) j ≡ cond (eqb j (count_trailing_zeros n m)) false (bit m j)
unfolding count_trailing_zeros
bit-lower zero m j p h = absurd (omega arith)
bit-lower (suc n) m j p h = go j (λ i q. bit-lower n (m / 2) i q (omega (arith, pow-suc 2 n))) (low m p)
  where
    go : (j : ℕ) → ((i : ℕ) → 0 < m / 2 → bit (lower (m / 2)) i ≡ cond (eqb i (count_trailing_zeros n (m / 2))) false (bit (m / 2) i))
        → Low m → bit (lower m) j ≡ cond (eqb j (count_trailing_zeros (suc n) m)) false (bit m j)
    go zero ih (is_set e x y) = simp (bit-zero, e, y)
    go zero ih (is-clear e q x y) = simp (bit-zero, e, y, eqb-zero-suc)
    go (suc i) ih (is_set e x y) = simp (bit-suc, e, x, eqb-suc-zero)
    go (suc i) ih (is-clear e q x y) = simp (bit-suc, e, x, eqb-suc-suc) (ih i q)

-- so a law of `lower m` is one of `rest m`: `rw lower-rest at law`
pub lower-rest : (m : ℕ) → 0 < m → m < 2 ^ 32 → lower m ≡ rest m
unfolding rest with_bit
lower-rest m p h = word-is 32 (lower m) _ (omega (arith, lower-lt m p)) (λ j l. rw (lowest-word (bit m) m (λ i. refl)) (bit-lower 32 m j p h))

-- ---- the walk

pub over_none : (f : ℕ → ℕ → ℕ) (n i a : ℕ) → over f n i 0 a ≡ a
unfolding over
over_none f zero i a = refl
over_none f (suc n) i a = over_none f n (suc i) a

-- the lowest set bit first, and then the others
pub over-next : (f : ℕ → ℕ → ℕ) (n i m a : ℕ) → 0 < m → m < 2 ^ n → over f n i m a ≡ over f n i (lower m) (f (i + count_trailing_zeros n m) a)
unfolding over count_trailing_zeros
over-next f zero i m a p h = absurd (omega arith)
over-next f (suc n) i m a p h = go (λ q. over-next f n (suc i) (m / 2) a q (omega (arith, pow-suc 2 n))) (low m p)
  where
    go : (0 < m / 2 → over f n (suc i) (m / 2) a ≡ over f n (suc i) (lower (m / 2)) (f (suc i + count_trailing_zeros n (m / 2)) a))
        → Low m → over f (suc n) i m a ≡ over f (suc n) i (lower m) (f (i + count_trailing_zeros (suc n) m) a)
    go ih (is_set e x y) = rw (e, x, y, add-zero)
    go ih (is-clear e q x y) = rw (e, x, y, add-suc, ← suc-add) (ih q)

-- bits that change nothing
pub over-kept : (f : ℕ → ℕ → ℕ) (n i m a : ℕ) → ((j : ℕ) → i ≤ j → f j a ≡ a) → over f n i m a ≡ a
unfolding over
over-kept f zero i m a k = refl
over-kept f (suc n) i m a k = go (eqb (m % 2) 1) ∙ over-kept f n (suc i) (m / 2) a (λ j l. k j (omega arith))
  where
    go : (b : Bool) → over f n (suc i) (m / 2) (cond b (f i a) a) ≡ over f n (suc i) (m / 2) a
    go true = ap (over f n (suc i) (m / 2)) (k i (omega arith))
    go false = refl

-- the lowest set bit, t, gives b, which no higher bit changes
pub over-stops : (f : ℕ → ℕ → ℕ) (t a b : ℕ) → f t a ≡ b → ((j : ℕ) → t < j → f j b ≡ b)
    → (n i m : ℕ) → 0 < m → m < 2 ^ n → i + count_trailing_zeros n m ≡ t → over f n i m a ≡ b
unfolding over count_trailing_zeros
over-stops f t a b e k zero i m p h at = absurd (omega arith)
over-stops f t a b e k (suc n) i m p h at = go (over-stops f t a b e k n (suc i) (m / 2)) (low m p)
  where
    go : (0 < m / 2 → m / 2 < 2 ^ n → suc i + count_trailing_zeros n (m / 2) ≡ t → over f n (suc i) (m / 2) a ≡ b) → Low m → over f (suc n) i m a ≡ b
    go ih (is_set x _ _) =
        let here : i + 0 ≡ t = rw x at at in
        let same : i ≡ t = omega arith in
        rw (x, same, e) (over-kept f n (suc t) (m / 2) b k)
    go ih (is-clear x q _ _) =
        let up : i + suc (count_trailing_zeros n (m / 2)) ≡ t = rw x at at in
        rw x (ih q (omega (arith, pow-suc 2 n)) (omega arith))
