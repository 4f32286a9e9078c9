-- A word and the number that it is shown as: one tells the other, and the words that may be at a place tell the numbers that are taken there.
use Prim.Native.Nat.{ℕ, ◌+◌, ◌*◌, ◌-◌, ◌/◌, ◌%◌, ◌^◌, ◌≤◌, ◌<◌}
use mathlib.Core.Path.{◌≡◌, refl, sym, ◌∙◌}
use mathlib.Core.Bool.{true, ◌&&◌}
use mathlib.Core.List.{List}
use native.Mathlib.Omega.{arith}
use borrow.Author.Tests.{eqb-true, eq-eqb, leb-true, le-leb}
use lib.Dec.{eqb, leb}
use Rattle.model.specs.Words.{bit, spread}
use Rattle.model.specs.Sound.{fits}
use Rattle.model.proofs.Bits.{bit-gather, word-is}
use Rattle.model.proofs.Tests.{both, and-true}
use Rattle.model.proofs.Within.{fits_le}
use Rattle.words.specs.Words.{collect}
use Rattle.record.specs.Table.{field_bits, field_least, shown, hidden, least_of, slot, takes}
use Rattle.record.specs.declared.table.Kind.{Kind}
use Rattle.record.specs.declared.table.Kind.TheVariants.{Exactly, SetUp, Within, Fields, Above, Edges}

-- the bits that word f of a block may have
abbrev pub mask_of : Kind → ℕ → ℕ
mask_of (Exactly n) f = 0
mask_of SetUp f = 0
mask_of (Within m) f = m
mask_of (Fields b) f = field_bits b f
mask_of (Above a m) f = m
mask_of (Edges b) f = field_bits b f

-- the word of a listed attribute: none that the set-up fixes, and edge flags are sixteen
abbrev pub Tidy : Kind → ℕ → Type 0
Tidy (Exactly n) f = ⊥
Tidy SetUp f = ⊥
Tidy (Within m) f = Unit {0}
Tidy (Fields b) f = Unit {0}
Tidy (Above a m) f = Unit {0}
Tidy (Edges b) f = field_bits b f < 2 ^ 16

-- sixteen edge flags are shown and hidden again
spread-back : (w : ℕ) → w < 2 ^ 16 → collect (spread w) ≡ w
unfolding collect spread
spread-back w l = sym (word-is 16 w (λ i. bit (spread w) (2 * i + 1)) l at)
  where
    at : (i : ℕ) → i < 16 → bit w i ≡ bit (spread w) (2 * i + 1)
    at i m =
        let r : (2 * i + 1) % 2 ≡ 1 = omega arith in
        let d : (2 * i + 1) / 2 ≡ i = omega arith in
        sym (bit-gather 32 (λ j. eqb (j % 2) 1 && bit w (j / 2)) (2 * i + 1) (omega arith) ∙ rw (r, d))

-- the word that is shown as x
pub record Hidden (k : Kind) (f x : ℕ) : Type 0 where
  pub back : shown k (hidden k x) ≡ x
  pub fit : fits (hidden k x) (mask_of k f) ≡ true
  pub least : least_of k f ≤ hidden k x

module _ (s : List ℕ) (p : ℕ) where
  pub of-shown : (k : Kind) (f : ℕ) → Tidy k f → (x : ℕ) → takes s (slot p k f) x ≡ true → Hidden k f x
  unfolding shown hidden takes least_of
  of-shown (Exactly n) f t x e = absurd t
  of-shown SetUp f t x e = absurd t
  of-shown (Within m) f t x e = record { back = refl; fit = e; least = omega arith }
  of-shown (Fields b) f t x e =
      let q = both (fits x (field_bits b f)) (leb (field_least b f) x) e in
      record { back = refl; fit = q.0; least = leb-true (field_least b f) x q.1 }
  of-shown (Above a m) f t x e =
      let q = both (leb a x) (fits (x - a) m) e in
      record { back = omega (arith, leb-true a x q.0); fit = q.1; least = omega arith }
  of-shown (Edges b) f t x e =
      let q = both (eqb (spread (collect x)) x) (fits (collect x) (field_bits b f)) e in
      record { back = eqb-true _ x q.0; fit = q.1; least = omega arith }

  -- and of a word that may be there, what it is shown as is taken
  pub is-shown : (k : Kind) (f : ℕ) → Tidy k f → (w : ℕ) → fits w (mask_of k f) ≡ true → least_of k f ≤ w → takes s (slot p k f) (shown k w) ≡ true
  unfolding shown takes least_of
  is-shown (Exactly n) f t w m l = absurd t
  is-shown SetUp f t w m l = absurd t
  is-shown (Within b) f t w m l = m
  is-shown (Fields b) f t w m l = and-true m (le-leb (field_least b f) w l)
  is-shown (Above a b) f t w m l =
      let z : a + w - a ≡ w = omega arith in
      and-true (le-leb a (a + w) (omega arith)) (rw z m)
  is-shown (Edges b) f t w m l =
      let z : collect (spread w) ≡ w = spread-back w (omega (arith, t, fits_le w (field_bits b f) m)) in
      rw z (and-true (eq-eqb (spread w) (spread w) refl) m)
