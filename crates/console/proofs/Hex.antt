-- A number's digits, read and spelled.
use Prim.Native.Nat.{ℕ, zero, suc, ◌+◌, ◌-◌, ◌*◌, ◌/◌, ◌%◌, ◌^◌, ◌<◌, ◌≤◌}
use mathlib.Core.Path.{◌≡◌, ◌∙◌}
use mathlib.Core.Bool.{cond}
use mathlib.Core.List.{List, ◌∷◌}
use native.Mathlib.Nat.{pow-suc, pow-le-pow_right, mod-eq_of_lt, div-eq_of_lt, not-suc-le-zero}
use Rattle.std.proofs.lemmas.Nat.{le-div}
use native.Mathlib.Omega.{arith}
use native.Mathlib.Numerals.{add-one}
use borrow.Author.Tests.{lt-ltb, le-ltb}
use lib.Dec.{ltb, lit<}
use Rattle.std.proofs.lemmas.Bool.Decides.{nat_tests}
use lib.ListN.{length, get_or, drop, set, drop_of_length-le, length-set}
use lib.Seq.{drop-cons, get_or-set_same, drop-set-lt}
use mir.Syntax.{w64}
use mir.Val.{Fits}
use Rattle.std.specs.Prelude.{Some, None}
use Rattle.console.specs.Text.{digit_of, digits_after}
use Rattle.console.specs.Answers.{glyph, digits, number_line}

-- ---- read

pub next_digit : (n i : ℕ) (f : List ℕ) → i < length f
    → digits_after n (drop i f) ≡ cond (ltb (digit_of (get_or f i 0)) 16) (digits_after (n * 16 + digit_of (get_or f i 0)) (drop (i + 1) f)) None
unfolding digits_after
next_digit n i f h = rw (add-one i, drop-cons f i 0 h)

pub no_digit : (n i : ℕ) (f : List ℕ) → length f ≤ i → digits_after n (drop i f) ≡ Some n
unfolding digits_after
no_digit n i f h = rw (drop_of_length-le f h)

-- a number of i digits is below 16 ^ i, so that one more fits 64 bits
pub grows : (n i d : ℕ) → n < 16 ^ i → d < 16 → n * 16 + d < 16 ^ (i + 1)
grows n i d h b = rw (add-one i) (omega (arith, pow-suc 16 i))

below-most : (n i : ℕ) → n < 16 ^ i → i < 16 → n < 16 ^ 15
below-most n i h k = omega (arith, pow-le-pow_right {n = 16} (lit< tt) {i = i} {j = 15} (omega arith))

module _ (f : List ℕ) (n i : ℕ) (h : n < 16 ^ i) (k : i < length f) (most : length f ≤ 16) where
  pub times-fits : Fits w64 (n * 16)
  times-fits = record { fits = omega (arith, below-most n i h (omega arith)) }

  pub plus-fits : (d : ℕ) → d < 16 → Fits w64 (n * 16 + d)
  plus-fits d b = record { fits = omega (arith, below-most n i h (omega arith)) }

pub ruleset each_digit = (next_digit, no_digit, nat_tests)

-- ---- spelled

-- a byte stored in front of those that stand behind it
pushed : (l : List ℕ) (i x : ℕ) → i < length l → drop i (set l i x) ≡ x ∷ drop (suc i) l
pushed l i x h = drop-cons (set l i x) i 0 (rw length-set h) ∙ rw (get_or-set_same l i x 0 h, drop-set-lt (suc i) l i x (omega arith))

-- nothing but the newline
pub spelling : (l : List ℕ) (b n : ℕ) → length l ≡ 21 → digits 20 b n (drop 20 (set l 20 10)) ≡ number_line b n
unfolding number_line
spelling l b n e = rw (pushed l 20 10 (omega arith), drop_of_length-le l {i = 21} (omega arith))

module _ (l : List ℕ) (at b r : ℕ) (v : List ℕ) (inv : digits at b r (drop at l) ≡ v) (long : length l ≡ 21) (some : 0 < at) (most : at ≤ 20) where
  back : suc (at - 1) ≡ at
  back = omega arith

  at_one : digits (suc (at - 1)) b r (drop (suc (at - 1)) l) ≡ v
  at_one = rw back inv

  pub last-digit : (g : ℕ) → g ≡ glyph (r % b) → 0 < b → r / b ≡ 0 → drop (at - 1) (set l (at - 1) g) ≡ v
  unfolding digits
  last-digit g e p z =
      let h : r < b = grind (arith, le-div 1 r b p) in
      let f : g ≡ glyph r = rw (mod-eq_of_lt h) at e in
      rw (pushed l (at - 1) g (omega arith), f) (rw (lt-ltb r b h) at at_one)

  pub next-digit : (g : ℕ) → g ≡ glyph (r % b) → (r / b ≡ 0 → ⊥) → digits (at - 1) b (r / b) (drop (at - 1) (set l (at - 1) g)) ≡ v
  unfolding digits
  next-digit g e z =
      let h : b ≤ r = grind (arith, div-eq_of_lt {n = r} {m = b}) in
      rw (pushed l (at - 1) g (omega arith), e) (rw (le-ltb r b h) at at_one)

pub no_more : (l : List ℕ) (at b r : ℕ) (v : List ℕ) → digits at b r (drop at l) ≡ v → at ≤ 0 → l ≡ v
unfolding digits
no_more l zero b r v inv h = inv
no_more l (suc at) b r v inv h = absurd (not-suc-le-zero h)
