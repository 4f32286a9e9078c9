-- Laws of `bit` and `gather`: a word below 2 ^ n is its n bits.
use Prim.Native.Nat.{ℕ, zero, suc, ◌+◌, ◌*◌, ◌-◌, ◌/◌, ◌%◌, ◌^◌, ◌≤◌, ◌<◌}
use mathlib.Core.Path.{◌≡◌, refl, sym, ap, ◌∙◌}
use mathlib.Core.Bool.{Bool, true, false, ◌&&◌}
use native.Mathlib.Nat.{mod-lt, mod-eq_of_lt, add_comm, mod-one, div-eq_of_lt}
use native.Mathlib.Numerals.{one-add}
use native.Mathlib.Omega.{arith}
use native.Mathlib.Decide.{dec_lt}
use lib.Dec.{eqb}
use lib.Pow.{pow_mono, shr-shr, pow-add, mod-pow-add, high, low, field, mod-mod-pow}
use Rattle.model.specs.Words.{val, bit, gather}
use Rattle.model.proofs.Tests.{and-implied, not-both}

pub val-lt : (b : Bool) → val b < 2
val-lt true = omega arith
val-lt false = omega arith

eqb-val : (b : Bool) → eqb (val b % 2) 1 ≡ b
eqb-val true = refl
eqb-val false = refl

val-eqb : (x : ℕ) → x < 2 → val (eqb x 1) ≡ x
val-eqb zero h = refl
val-eqb (suc zero) h = refl
val-eqb (suc (suc x)) h = absurd (omega arith)

pub val-bit : (w i : ℕ) → val (bit w i) ≡ w / 2 ^ i % 2
unfolding bit
val-bit w i = val-eqb _ (mod-lt (w / 2 ^ i) (omega arith))

pow-suc : (n : ℕ) → 2 ^ suc n ≡ 2 * 2 ^ n
pow-suc n = rw (← one-add n) (pow-add 2 1 n)

pub gather-lt : (n : ℕ) (f : ℕ → Bool) → gather n f < 2 ^ n
unfolding gather
gather-lt zero f = omega arith
gather-lt (suc n) f = step (f n) (gather-lt n f) (pow-suc n)
  where
    step : {g p q : ℕ} (b : Bool) → g < p → q ≡ 2 * p → g + val b * p < q
    step true h e = omega arith
    step false h e = omega arith

-- the one law by which an operation on words is a definition bit by bit
pub gather-same : (n : ℕ) (f g : ℕ → Bool) → ((i : ℕ) → i < n → f i ≡ g i) → gather n f ≡ gather n g
unfolding gather
gather-same zero f g h = refl
gather-same (suc n) f g h = cc (gather-same n f g (λ i p. h i (omega arith)), h n (omega arith))

pub gather-bits : (n w : ℕ) → gather n (bit w) ≡ w % 2 ^ n
unfolding gather
gather-bits zero w = sym (mod-one w)
gather-bits (suc n) w =
    cc (gather-bits n w, val-bit w n, one-add n, mod-pow-add w 1 n, add_comm (w % 2 ^ n) (w / 2 ^ n % 2 ^ 1 * 2 ^ n))

bit-mod-at : (w m i : ℕ) → bit (w % 2 ^ (m + 1 + i)) i ≡ bit w i
unfolding bit
bit-mod-at w m i = ap (λ (x : ℕ). eqb (x % 2) 1) (field w (m + 1) i) ∙ ap (λ (x : ℕ). eqb x 1) (mod-mod-pow (w / 2 ^ i) m 1)

pub bit-mod : (n w i : ℕ) → i < n → bit (w % 2 ^ n) i ≡ bit w i
bit-mod n w i h =
    let e : n - i - 1 + 1 + i ≡ n = omega arith in
    rw e at (bit-mod-at w (n - i - 1) i)

gather-sum : (n : ℕ) (f : ℕ → Bool) → gather (suc n) f ≡ val (f n) * 2 ^ n + gather n f
unfolding gather
gather-sum n f = add_comm (gather n f) (val (f n) * 2 ^ n)

bit-top : (n : ℕ) (f : ℕ → Bool) → bit (val (f n) * 2 ^ n + gather n f) n ≡ f n
unfolding bit
bit-top n f = rw (high (val (f n)) n (gather-lt n f)) (eqb-val (f n))

pub bit-gather : (n : ℕ) (f : ℕ → Bool) (i : ℕ) → i < n → bit (gather n f) i ≡ f i
bit-gather zero f i h = absurd (omega arith)
bit-gather (suc n) f i h = step (dec_lt i n) (bit-gather n f i)
  where
    step : Dec (i < n) → (i < n → bit (gather n f) i ≡ f i) → bit (gather (suc n) f) i ≡ f i
    step (yes p) ih =
        sym (bit-mod n (gather (suc n) f) i p) ∙ ap (λ (x : ℕ). bit x i) (rw gather-sum (low (val (f n)) n (gather-lt n f))) ∙ ih p
    step (no q) ih =
        let e : i ≡ n = omega arith in
        rw (e, gather-sum) (bit-top n f)

pub word-is : (n w : ℕ) (f : ℕ → Bool) → w < 2 ^ n → ((i : ℕ) → i < n → bit w i ≡ f i) → w ≡ gather n f
word-is n w f h e = sym (mod-eq_of_lt h) ∙ sym (gather-bits n w) ∙ gather-same n (bit w) f e

-- ---- one bit, and words gathered of bits that pass a test

pub bit-shift : (w a i : ℕ) → bit (w / 2 ^ a) i ≡ bit w (a + i)
unfolding bit
bit-shift w a i = ap (λ (x : ℕ). eqb (x % 2) 1) (shr-shr w a i)

above : (w i : ℕ) → w < 2 ^ i → bit w i ≡ false
unfolding bit
above w i l = rw (div-eq_of_lt l)

-- a set bit lies below the word's length
pub bit_below : (n w i : ℕ) → w < 2 ^ n → bit w i ≡ true → i < n
bit_below n w i l b = go (dec_lt i n)
  where
    none : n ≤ i → bit w i ≡ false
    none h = let q : w < 2 ^ i = omega (arith, pow_mono h) in above w i q

    go : Dec (i < n) → i < n
    go (yes h) = h
    go (no h) = absurd (not-both (bit w i) b (none (omega arith)))

-- a word whose set bits all pass a test is what is gathered of them
pub gather-passed : (w : ℕ) (p : ℕ → Bool) → w < 2 ^ 32 → ((i : ℕ) → i < 32 → bit w i ≡ true → p i ≡ true) → gather 32 (λ i. p i && bit w i) ≡ w
gather-passed w p l h = sym (word-is 32 w (λ i. p i && bit w i) l (λ i k. sym (and-implied (p i) (bit w i) (h i k))))
