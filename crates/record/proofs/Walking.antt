-- The values of parts one after the other, and what is left of them from a word of a part on.
use Prim.Native.Nat.{ℕ, zero, suc, ◌+◌, ◌≤◌, ◌<◌}
use mathlib.Core.Path.{◌≡◌, refl, sym, ◌∙◌}
use mathlib.Core.List.{List, [], ◌∷◌, ◌++◌, append_assoc}
use native.Mathlib.Omega.{arith}
use native.Mathlib.Nat.{zero-add}
use native.Mathlib.Numerals.{add-one}
use lib.ListN.{length, get_or, drop, drop_of_length-le, get_or-eq_default}
use lib.Seq.{drop-cons, drop-nil}
use Rattle.model.specs.Words.{each}
use Rattle.record.specs.Table.{Slot, slot, slots_in, flat, blank, left_at}
use Rattle.record.specs.declared.table.Part.{Part}
use Rattle.record.proofs.Lists.{length_run, run_at}

pub flat_append : (ps qs : List Part) → flat (ps ++ qs) ≡ flat ps ++ flat qs
unfolding flat
flat_append [] qs = refl
flat_append (p ∷ ps) qs = rw (flat_append ps qs, append_assoc)

pub flat-each : (f : ℕ → List Part) (b k : ℕ) → flat (each f b k) ≡ each (λ v. flat (f v)) b k
unfolding each flat
flat-each f b zero = refl
flat-each f b (suc k) = flat_append (f b) (each f (suc b) k) ∙ rw (flat-each f (suc b) k)

-- ---- from word j of part k on

-- the parts from the k-th on are that part and those after it
pub flat-next : (ps : List Part) (k : ℕ) → flat (drop k ps) ≡ slots_in (get_or ps k blank) ++ flat (drop (suc k) ps)
unfolding each flat
flat-next [] k = rw drop-nil
flat-next (p ∷ ps) zero = refl
flat-next (p ∷ ps) (suc k) = flat-next ps k

pub left-all : (ps : List Part) → left_at ps 0 0 ≡ flat ps
unfolding left_at
left-all ps = sym (flat-next ps 0)

module _ (ps : List Part) (k j : ℕ) (p : Part) (e : p ≡ get_or ps k blank) where
  abbrev at-word : ℕ → Slot
  at-word i = slot (p.base + p.first + i) p.kind (p.first + i)

  pub left-turn : j < p.len → left_at ps k j ≡ slot (p.base + p.first + j) p.kind (p.first + j) ∷ left_at ps k (j + 1)
  unfolding left_at
  left-turn l =
      rw (← e, add-one j, drop-cons (slots_in p) j (at-word 0) (rw (length_run (at-word 0) at-word 0 p.len) l), run_at (at-word 0) at-word 0 p.len j l, zero-add j)

  pub left-part : p.len ≤ j → left_at ps k j ≡ left_at ps (k + 1) 0
  unfolding left_at
  left-part l = rw (← e, drop_of_length-le (slots_in p) {i = j} (rw (length_run (at-word 0) at-word 0 p.len) l), add-one k, add-one (suc k), flat-next ps (suc k))

pub left-whole : (ps : List Part) (k : ℕ) → left_at ps k 0 ≡ slots_in (get_or ps k blank) ++ left_at ps (k + 1) 0
unfolding left_at
left-whole ps k = rw (add-one k, add-one (suc k), flat-next ps (suc k))

pub left_end : (ps : List Part) (k : ℕ) → length ps ≤ k → left_at ps k 0 ≡ []
unfolding left_at each flat
left_end ps k l = rw (get_or-eq_default ps blank l, drop_of_length-le ps {i = k + 1} (omega arith))
