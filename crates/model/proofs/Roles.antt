-- The role of a word by its place, and which places a store may change: those of no set-up word and of no derived one.
use Prim.Native.Nat.{ℕ, ◌+◌, ◌-◌, ◌/◌, ◌%◌, ◌≤◌, ◌<◌}
use mathlib.Core.Path.{◌≡◌, refl, sym, ap, ◌∙◌}
use mathlib.Core.Bool.{Bool, true, false, not, cond, ◌||◌}
use mathlib.Core.Logic.{◌⊎◌, inl, inr}
use native.Mathlib.Decide.{dec_lt}
use native.Mathlib.Omega.{arith}
use borrow.Author.Tests.{lt-ltb, le-ltb, ne_eqb, not-true}
use lib.Dec.{eqb, ltb}
use Rattle.model.specs.Words.{all_below}
use Rattle.model.specs.Layout.{block, spi_bank, affinity_field}
use Rattle.model.specs.Roles.{Role, set_up_word, fixed, listed, transient, derived, absent, header_roles, block_roles, bank_roles, role_in, role_of, is_free, is_derived}
use Rattle.model.proofs.Tests.{below_at, not-both}

-- ---- by region

pub header-role : (k : ℕ) → k < 16 → role_of k ≡ role_in header_roles k
unfolding role_of
header-role k l = rw (lt-ltb k 16 l)

pub block-role : (v j : ℕ) → v < 8 → j < 32 → role_of (block v + j) ≡ role_in block_roles j
unfolding role_of
block-role v j l m =
    let r : (block v + j - 16) % 32 ≡ j = omega arith in
    rw (le-ltb (block v + j) 16 (omega arith), lt-ltb (block v + j) 272 (omega arith), r)

pub bank-role : (w j : ℕ) → 1 ≤ w → w < 32 → j < 16 → role_of (spi_bank w + j) ≡ role_in bank_roles j
unfolding role_of
bank-role w j a b m =
    let r : (spi_bank w + j - 256) % 16 ≡ j = omega arith in
    rw (le-ltb (spi_bank w + j) 16 (omega arith), le-ltb (spi_bank w + j) 272 (omega arith), lt-ltb (spi_bank w + j) 768 (omega arith), r)

pub route-role : (p : ℕ) → 768 ≤ p → role_of p ≡ cond (ltb p 1756) listed absent
unfolding role_of
route-role p l = rw (le-ltb p 16 (omega arith), le-ltb p 272 (omega arith), le-ltb p 768 (omega arith))

-- what a test says of every place that is no word of a block and none of words 0 to n - 1, from one computed test of each table
module _ (f : Role → Bool) (n : ℕ) (few : n ≤ 16) (head : all_below (λ j. ltb j n || f (role_in header_roles j)) 16 ≡ true)
    (banks : all_below (λ j. f (role_in bank_roles j)) 16 ≡ true) (kept : f listed ≡ true) (none : f absent ≡ true) where
  by-region : (p : ℕ) → n ≤ p → ((v j : ℕ) → v < 8 → j < 32 → p ≡ block v + j → f (role_of p) ≡ true) → f (role_of p) ≡ true
  by-region p l in_block = go (dec_lt p 16) (dec_lt p 272) (dec_lt p 768)
    where
      last : (b : Bool) → f (cond b listed absent) ≡ true
      last true = kept
      last false = none

      go : Dec (p < 16) → Dec (p < 272) → Dec (p < 768) → f (role_of p) ≡ true
      go (yes a) b c = rw (header-role p a) (rw (le-ltb p n l) at (below_at (λ j. ltb j n || f (role_in header_roles j)) 16 head p a))
      go (no a) (yes b) c = in_block ((p - 16) / 32) ((p - 16) % 32) (omega arith) (omega arith) (omega arith)
      go (no a) (no b) (yes c) =
          let e : p ≡ spi_bank ((p - 256) / 16) + (p - 256) % 16 = omega arith in
          ap (λ (k : ℕ). f (role_of k)) e
          ∙ ap f (bank-role ((p - 256) / 16) ((p - 256) % 16) (omega arith) (omega arith) (omega arith))
          ∙ below_at (λ j. f (role_in bank_roles j)) 16 banks ((p - 256) % 16) (omega arith)
      go (no a) (no b) (no c) = rw (route-role p (omega arith)) (last (ltb p 1756))

-- ---- the words that listed attributes read

is_listed : Role → Bool
is_listed set_up_word = false
is_listed fixed = false
is_listed listed = true
is_listed transient = false
is_listed derived = false
is_listed absent = false

is-listed : (r : Role) → is_listed r ≡ true → r ≡ listed
unfolding is_listed
is-listed set_up_word e = absurd (not-both true refl (sym e))
is-listed fixed e = absurd (not-both true refl (sym e))
is-listed listed e = refl
is-listed transient e = absurd (not-both true refl (sym e))
is-listed derived e = absurd (not-both true refl (sym e))
is-listed absent e = absurd (not-both true refl (sym e))

pub listed-bank : (w j : ℕ) → 1 ≤ w → w < 32 → j < 15 → role_of (spi_bank w + j) ≡ listed
listed-bank w j a b m = bank-role w j a b (omega arith) ∙ is-listed _ (below_at (λ i. is_listed (role_in bank_roles i)) 15 (unfold all_below role_in is_listed in refl) j m)

pub listed-route : (p : ℕ) → 768 ≤ p → p < 1756 → role_of p ≡ listed
listed-route p l m = route-role p l ∙ rw (lt-ltb p 1756 m)

-- a bank without its edge flags; STATUSR and the CPU interface
pub listed-block : (v j : ℕ) → v < 8 → (j < 13) ⊎ ((18 ≤ j) × (j < 27)) → role_of (block v + j) ≡ listed
listed-block v j l (inl m) = block-role v j l (omega arith) ∙ is-listed _ (below_at (λ i. is_listed (role_in block_roles i)) 13 (unfold all_below role_in is_listed in refl) j m)
listed-block v j l (inr m) =
    let e : 18 + (j - 18) ≡ j = omega arith in
    block-role v j l (omega arith)
    ∙ is-listed _ (rw e at (below_at (λ i. is_listed (role_in block_roles (18 + i))) 9 (unfold all_below role_in is_listed in refl) (j - 18) (omega arith)))

-- ---- derived words

-- none is in the header or in a block
pub header-core : (k : ℕ) → k < 16 → is_derived (role_of k) ≡ false
header-core k l = not-true _ (ap (λ (r : Role). not (is_derived r)) (header-role k l) ∙ below_at (λ j. not (is_derived (role_in header_roles j))) 16 (unfold all_below role_in is_derived in refl) k l)

pub block-core : (v j : ℕ) → v < 8 → j < 32 → is_derived (role_of (block v + j)) ≡ false
block-core v j l m = not-true _ (ap (λ (r : Role). not (is_derived r)) (block-role v j l m) ∙ below_at (λ i. not (is_derived (role_in block_roles i))) 32 (unfold all_below role_in is_derived in refl) j m)

-- nor anywhere else: there are none yet
pub none-derived : (k : ℕ) → is_derived (role_of k) ≡ false
unfolding is_derived
none-derived k =
    not-true _ (by-region (λ r. not (is_derived r)) 0 (omega arith) (unfold all_below role_in is_derived in refl) (unfold all_below role_in is_derived in refl) refl refl k (omega arith)
    (λ v j l m e. ap (λ (p : ℕ). not (is_derived (role_of p))) e ∙ ap not (block-core v j l m)))

-- ---- where a store leaves the set-up and the derived words

-- at a word of a block that is no affinity
pub block-free : (v j : ℕ) → v < 8 → j < 32 → ¬ (j ≡ affinity_field) → is_free (role_of (block v + j)) ≡ true
block-free v j l m n =
    ap is_free (block-role v j l m)
    ∙ (rw (ne_eqb j affinity_field n) at (below_at (λ i. eqb i affinity_field || is_free (role_in block_roles i)) 32 (unfold all_below role_in is_free in refl) j m))

-- outside the blocks, after the set-up
pub outside-free : (p : ℕ) → 3 ≤ p → ((v j : ℕ) → v < 8 → j < 32 → ¬ (p ≡ block v + j)) → is_free (role_of p) ≡ true
unfolding is_free
outside-free p l apart =
    by-region is_free 3 (omega arith) (unfold all_below role_in is_free in refl) (unfold all_below role_in is_free in refl) refl refl p l (λ v j a b e. absurd (apart v j a b e))

-- two places, one of which a store may change
pub free_apart : (k p : ℕ) → is_free (role_of k) ≡ false → is_free (role_of p) ≡ true → ¬ (k ≡ p)
free_apart k p a b e = not-both (is_free (role_of p)) b (ap (λ (x : ℕ). is_free (role_of x)) (sym e) ∙ a)

pub free-derived : (p : ℕ) → is_free (role_of p) ≡ true → is_derived (role_of p) ≡ false
unfolding is_free is_derived
free-derived p e = step (role_of p) e
  where
    step : (r : Role) → is_free r ≡ true → is_derived r ≡ false
    step set_up_word q = refl
    step fixed q = refl
    step listed q = refl
    step transient q = refl
    step derived q = absurd (not-both true refl (sym q))
    step absent q = refl
