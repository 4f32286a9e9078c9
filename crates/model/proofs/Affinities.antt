-- The affinity that add vCPU takes, Aff3 0 and Aff0 at most 15, is exactly one whose bits may stand in its word.
use Prim.Native.Nat.{ℕ, ◌+◌, ◌-◌, ◌/◌, ◌%◌, ◌^◌, ◌≤◌, ◌<◌}
use mathlib.Core.Path.{◌≡◌, refl, ◌∙◌}
use mathlib.Core.Bool.{Bool, true, false, not}
use native.Mathlib.Decide.{dec_lt}
use native.Mathlib.Omega.{arith}
use borrow.Author.Tests.{ltb-true, lt-ltb, leb-true, le-leb, not-true}
use lib.Dec.{ltb, leb}
use Rattle.model.specs.Words.{bit, gather, all_below}
use Rattle.model.specs.Sound.{fits, is_affinity}
use Rattle.model.proofs.Tests.{both, and-true, same_test, not-both, below_at}
use Rattle.model.proofs.Bits.{bit-mod, word-is, bit-shift, bit_below}
use Rattle.model.proofs.Within.{fits_le, fits-bit, bits_fit}

-- the mask has bits 3-0 and 23-8, and lacks bits 7-4
abbrev mask : ℕ
mask = 0x00ffff0f

low_bits : all_below (bit mask) 4 ≡ true
unfolding all_below bit
low_bits = refl

high_bits : all_below (λ j. bit mask (8 + j)) 16 ≡ true
unfolding all_below bit
high_bits = refl

no_bits : all_below (λ j. not (bit mask (4 + j))) 4 ≡ true
unfolding all_below bit
no_bits = refl

fits-of : (a : ℕ) → is_affinity a ≡ true → fits a mask ≡ true
unfolding is_affinity
fits-of a e = bits_fit a mask (omega (arith, aff3)) (λ i n b. go i b (dec_lt i 8))
  where
    aff3 : a < 0x1000000
    aff3 = ltb-true a 0x1000000 (both (ltb a 0x1000000) (leb (a % 256) 15) e).0

    aff0 : a % 2 ^ 8 < 2 ^ 4
    aff0 = omega (arith, leb-true (a % 256) 15 (both (ltb a 0x1000000) (leb (a % 256) 15) e).1)

    go : (i : ℕ) → bit a i ≡ true → Dec (i < 8) → bit mask i ≡ true
    go i b (yes l) = below_at (bit mask) 4 low_bits i (bit_below 4 (a % 2 ^ 8) i aff0 (bit-mod 8 a i l ∙ b))
    go i b (no l) =
        let top : i < 24 = bit_below 24 a i (omega (arith, aff3)) b in
        let p : 8 + (i - 8) ≡ i = omega arith in
        rw p at (below_at (λ j. bit mask (8 + j)) 16 high_bits (i - 8) (omega arith))

of-fits : (a : ℕ) → fits a mask ≡ true → is_affinity a ≡ true
unfolding is_affinity
of-fits a e =
    let most : a ≤ mask = fits_le a mask e in
    and-true (lt-ltb a 0x1000000 (omega arith)) (le-leb (a % 256) 15 (omega (arith, none)))
  where
    clear : (i : ℕ) (t : Bool) → i < 4 → bit a (4 + i) ≡ t → t ≡ false
    clear i true l b = absurd (not-both (bit mask (4 + i)) (fits-bit a mask (4 + i) e b) (not-true _ (below_at (λ j. not (bit mask (4 + j))) 4 no_bits i l)))
    clear i false l b = refl

    none : a / 2 ^ 4 % 2 ^ 4 ≡ 0
    none =
        word-is 4 (a / 2 ^ 4 % 2 ^ 4) (λ i. false) (omega arith) (λ i l. bit-mod 4 (a / 2 ^ 4) i l ∙ bit-shift a 4 i ∙ clear i (bit a (4 + i)) l refl)
        ∙ (unfold gather in refl)

pub affinity-fits : (a : ℕ) → is_affinity a ≡ fits a 0x00ffff0f
affinity-fits a = same_test (is_affinity a) (fits a mask) (fits-of a) (of-fits a)
