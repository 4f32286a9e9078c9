-- Laws of `within` and `fits`: a word within a mask has a bit only where the mask has.
use Prim.Native.Nat.{ℕ, zero, suc, ◌/◌, ◌%◌, ◌^◌, ◌≤◌, ◌<◌}
use mathlib.Core.Path.{◌≡◌, refl, sym, ap, ◌∙◌}
use mathlib.Core.Bool.{Bool, true, false, ◌||◌, ◌&&◌}
use native.Mathlib.Nat.{div-one, pow-suc}
use native.Mathlib.Numerals.{one-add}
use native.Mathlib.Omega.{arith}
use borrow.Author.Tests.{eqb-true, eq-eqb, leb-true, le-leb}
use lib.Dec.{eqb, leb}
use lib.Pow.{shr-shr}
use Rattle.model.specs.Words.{bit, within, masked}
use Rattle.model.specs.Sound.{fits}
use Rattle.model.proofs.Tests.{both, and-true}
use Rattle.model.proofs.Bits.{gather-lt, bit-gather}

-- ---- the lowest bit and the others

pub bit-zero : (w : ℕ) → bit w 0 ≡ eqb (w % 2) 1
unfolding bit
bit-zero w = rw div-one

pub bit-suc : (w i : ℕ) → bit w (suc i) ≡ bit (w / 2) i
unfolding bit
bit-suc w i = ap (λ (x : ℕ). eqb (x % 2) 1) (ap (λ (n : ℕ). w / 2 ^ n) (sym (one-add i)) ∙ sym (shr-shr w 1 i))

pub bit-none : (i : ℕ) → bit 0 i ≡ false
bit-none zero = bit-zero 0
bit-none (suc i) = bit-suc 0 i ∙ bit-none i

-- ---- within

pub within-lt : (n w m : ℕ) → within n w m ≡ true → w < 2 ^ n
unfolding within
within-lt zero w m e = omega (arith, eqb-true w 0 e)
within-lt (suc n) w m e = omega (arith, within-lt n (w / 2) (m / 2) (both (leb (w % 2) (m % 2)) (within n (w / 2) (m / 2)) e).1, pow-suc 2 n)

pub within-le : (n w m : ℕ) → within n w m ≡ true → w ≤ m
unfolding within
within-le zero w m e = omega (arith, eqb-true w 0 e)
within-le (suc n) w m e =
    let p = both (leb (w % 2) (m % 2)) (within n (w / 2) (m / 2)) e in
    omega (arith, within-le n (w / 2) (m / 2) p.1, leb-true (w % 2) (m % 2) p.0)

pub within-bit : (n w m i : ℕ) → within n w m ≡ true → bit w i ≡ true → bit m i ≡ true
unfolding within
within-bit zero w m i e b = absurd (omega (arith, none i (rw (eqb-true w 0 e) at b)))
  where
    none : (j : ℕ) → bit 0 j ≡ true → ◌≡◌ {A = ℕ} 0 1
    none j h = cc (bit-none j)
within-bit (suc n) w m zero e b =
    let p = both (leb (w % 2) (m % 2)) (within n (w / 2) (m / 2)) e in
    let h : w % 2 ≡ 1 = eqb-true (w % 2) 1 (sym (bit-zero w) ∙ b) in
    let k : m % 2 ≡ 1 = omega (arith, leb-true (w % 2) (m % 2) p.0) in
    bit-zero m ∙ eq-eqb (m % 2) 1 k
within-bit (suc n) w m (suc i) e b =
    bit-suc m i ∙ within-bit n (w / 2) (m / 2) i (both (leb (w % 2) (m % 2)) (within n (w / 2) (m / 2)) e).1 (sym (bit-suc w i) ∙ b)

-- and a number of n bits that has only such bits is within
low-le : (x y : ℕ) → x < 2 → y < 2 → (eqb x 1 ≡ true → eqb y 1 ≡ true) → x ≤ y
low-le zero y hx hy h = omega arith
low-le (suc zero) y hx hy h = omega (arith, eqb-true y 1 (h refl))
low-le (suc (suc x)) y hx hy h = absurd (omega arith)

pub bits-within : (n w m : ℕ) → w < 2 ^ n → ((i : ℕ) → i < n → bit w i ≡ true → bit m i ≡ true) → within n w m ≡ true
unfolding within
bits-within zero w m l h = eq-eqb w 0 (omega arith)
bits-within (suc n) w m l h =
    let first : w % 2 ≤ m % 2 = low-le (w % 2) (m % 2) (omega arith) (omega arith) (λ e. sym (bit-zero m) ∙ h 0 (omega arith) (bit-zero w ∙ e)) in
    and-true (le-leb (w % 2) (m % 2) first)
    (bits-within n (w / 2) (m / 2) (omega (arith, pow-suc 2 n)) (λ i k b. sym (bit-suc m i) ∙ h (suc i) (omega arith) (bit-suc w i ∙ b)))

pub none_within : (n m : ℕ) → within n 0 m ≡ true
unfolding within
none_within zero m = refl
none_within (suc n) m = and-true (le-leb (0 % 2) (m % 2) (omega arith)) (none_within n (m / 2))

-- ---- fits

pub fits-within : (w m : ℕ) → fits w m ≡ within 32 w m
unfolding fits
fits-within w m = step (eqb w 0) refl
  where
    step : (t : Bool) → eqb w 0 ≡ t → (t || within 32 w m) ≡ within 32 w m
    step true e = sym (rw (eqb-true w 0 e) (none_within 32 m))
    step false e = refl

pub zero-fits : (m : ℕ) → fits 0 m ≡ true
zero-fits m = fits-within 0 m ∙ none_within 32 m

pub fits_lt : (w m : ℕ) → fits w m ≡ true → w < 2 ^ 32
fits_lt w m e = within-lt 32 w m (sym (fits-within w m) ∙ e)

pub fits_le : (w m : ℕ) → fits w m ≡ true → w ≤ m
fits_le w m e = within-le 32 w m (sym (fits-within w m) ∙ e)

pub fits-bit : (w m i : ℕ) → fits w m ≡ true → bit w i ≡ true → bit m i ≡ true
fits-bit w m i e b = within-bit 32 w m i (sym (fits-within w m) ∙ e) b

pub bits_fit : (w m : ℕ) → w < 2 ^ 32 → ((i : ℕ) → i < 32 → bit w i ≡ true → bit m i ≡ true) → fits w m ≡ true
bits_fit w m l h = fits-within w m ∙ bits-within 32 w m l h

pub masked-fits : (m w : ℕ) → fits (masked m w) m ≡ true
unfolding masked
masked-fits m w = bits_fit _ m (gather-lt 32 _) (λ i l e. (both (bit m i) (bit w i) (sym (bit-gather 32 (λ j. bit m j && bit w j) i l) ∙ e)).0)

-- no bit may stand there: the word is 0
pub fits-none : (w : ℕ) → fits w 0 ≡ true → w ≡ 0
fits-none w e = omega (arith, fits_le w 0 e)

-- what fits a mask fits a wider one
pub wider : (w m u : ℕ) → fits w m ≡ true → within 32 m u ≡ true → fits w u ≡ true
wider w m u a b = bits_fit w u (fits_lt w m a) (λ i l e. fits-bit m u i (fits-within m u ∙ b) (fits-bit w m i a e))
