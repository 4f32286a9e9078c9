-- Tests of words by `&` and `|`: w has no bit outside the mask m, a and b are both 0.
use Prim.Native.Nat.{ℕ, ◌-◌, ◌^◌, ◌<◌}
use mathlib.Core.Path.{◌≡◌, refl, sym, ap, ap₂, ◌∙◌}
use mathlib.Core.Bool.{Bool, true, false, not, ◌&&◌, ◌||◌, or-false}
use native.Mathlib.Omega.{arith}
use borrow.Author.Tests.{not-false, eqb-true, eq-eqb}
use lib.Dec.{eqb}
use lib.Bits.{bit_and, bit_or, or_add_and, and_le_l, and_le_r, or_zero_l, or_lt}
use Rattle.model.specs.Words.{bit, gather}
use Rattle.model.specs.Sound.{fits}
use Rattle.model.proofs.Tests.{same_test}
use Rattle.model.proofs.Bits.{word-is}
use Rattle.model.proofs.Within.{bit-none, fits_lt, fits-bit, bits_fit}
use Rattle.words.proofs.Operators.{bit-and, bit-or, bit_not}

-- the bits of w outside m
outside : (w m : ℕ) → m < 2 ^ 32 → (i : ℕ) → i < 32 → bit (bit_and w (0xffffffff - m)) i ≡ (bit w i && not (bit m i))
outside w m h i l = bit-and w (0xffffffff - m) i ∙ ap (λ (t : Bool). bit w i && t) (bit_not m i h l)

none : (p q : Bool) → (p ≡ true → q ≡ true) → (p && not q) ≡ false
none true q h = rw (h refl)
none false q h = refl

-- there is none exactly where w fits m
pub clear-fits : (w m : ℕ) → w < 2 ^ 32 → m < 2 ^ 32 → bit_and w (0xffffffff - m) ≡ 0 → fits w m ≡ true
clear-fits w m k h e = bits_fit w m k (λ i l b. not-false (bit m i) (rw b at (sym (outside w m h i l) ∙ ap (λ (x : ℕ). bit x i) e ∙ bit-none i)))

pub fits-clear : (w m : ℕ) → m < 2 ^ 32 → fits w m ≡ true → bit_and w (0xffffffff - m) ≡ 0
unfolding gather
fits-clear w m h e =
    word-is 32 (bit_and w (0xffffffff - m)) (λ i. false) (omega (arith, and_le_l w (0xffffffff - m), fits_lt w m e))
    (λ i l. outside w m h i l ∙ none (bit w i) (bit m i) (fits-bit w m i e))

-- ---- `a | b` is 0 exactly where both are

pub or_left : (a b : ℕ) → bit_or a b ≡ 0 → a ≡ 0
or_left a b e = omega (arith, or_add_and a b, and_le_r a b)

pub or_right : (a b : ℕ) → bit_or a b ≡ 0 → b ≡ 0
or_right a b e = omega (arith, or_add_and a b, and_le_l a b)

pub or-none : (a b : ℕ) → a ≡ 0 → b ≡ 0 → bit_or a b ≡ 0
or-none a b p q = rw (p, q) (or_zero_l 0)

-- the bits of m in `a | b` are those in a and those in b
pub and-over-or : (a b m : ℕ) → m < 2 ^ 32 → bit_and (bit_or a b) m ≡ bit_or (bit_and a m) (bit_and b m)
and-over-or a b m h =
    word-is 32 (bit_and (bit_or a b) m) shared (omega (arith, and_le_r (bit_or a b) m)) (λ i l. bit-and (bit_or a b) m i ∙ ap (λ (t : Bool). t && bit m i) (bit-or a b i))
    ∙ sym (word-is 32 (bit_or (bit_and a m) (bit_and b m)) shared (or_lt 32 (bit_and a m) (bit_and b m) (omega (arith, and_le_r a m)) (omega (arith, and_le_r b m))) (λ i l. bit-or (bit_and a m) (bit_and b m) i ∙ ap₂ ◌||◌ (bit-and a m i) (bit-and b m i) ∙ both-or (bit a i) (bit b i) (bit m i)))
  where
    shared : ℕ → Bool
    shared i = (bit a i || bit b i) && bit m i

    both-or : (p q r : Bool) → ((p && r) || (q && r)) ≡ ((p || q) && r)
    both-or true true true = refl
    both-or true true false = refl
    both-or true false r = or-false r
    both-or false q r = refl

-- 0 has none
pub and_none : (m : ℕ) → bit_and 0 m ≡ 0
and_none m = omega (arith, and_le_l 0 m)

pub within-fits : (x m : ℕ) → x < 2 ^ 32 → m < 2 ^ 32 → eqb (bit_and x (0xffffffff - m)) 0 ≡ fits x m
within-fits x m h l = same_test _ _ (λ e. clear-fits x m h l (eqb-true _ _ e)) (λ e. eq-eqb _ _ (fits-clear x m l e))
