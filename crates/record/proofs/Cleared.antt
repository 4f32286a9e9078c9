-- A walk stores at the places of its slots alone: with the fresh words back in them, a fresh device is what it was.
use Prim.Native.Nat.{ℕ, ◌<◌, ◌≤◌}
use mathlib.Core.Path.{◌≡◌, refl, sym, ◌∙◌}
use mathlib.Core.Bool.{Bool, true, false, cond, true≢false}
use mathlib.Core.List.{List, [], ◌∷◌}
use native.Mathlib.Decide.{ℕ_discrete}
use native.Mathlib.Omega.{arith}
use lib.ListN.{length, set, length-set}
use lib.Seq.{get_or-set_same, get_or-set_other, ext_get_or}
use Rattle.model.specs.Words.{every}
use Rattle.model.specs.Layout.{state_length, word, is_initialised, count, vcpus}
use Rattle.model.specs.Sound.{fits, fresh_bits, fresh}
use Rattle.model.specs.Record.{Entry}
use Rattle.model.specs.Demands.{Fresh}
use Rattle.model.proofs.Tests.{both, every-at}
use Rattle.model.proofs.Within.{fits_le}
use Rattle.model.proofs.Soundness.{Ready}
use Rattle.model.proofs.Places.{place_of}
use Rattle.model.proofs.Cover.{place_inside}
use Rattle.model.proofs.Restores.{fresh-ready}
use Rattle.record.specs.Numbers.{Reading, value, cut, ill, read_on}
use Rattle.record.specs.Table.{hidden, least_of, fixed, Slot, slot, slots, takes, slot_put, slot_clear}
use Rattle.record.specs.Walked.{keeping, kept, cleared}
use Rattle.record.proofs.Lists.{Match, none, one}
use Rattle.record.proofs.Standing.{Means, versions, fixes, lists, entries-mean}

-- no stored slot has its word at place u
abbrev Apart : ℕ → List Slot → Type 0
Apart u [] = Unit {0}
Apart u (slot p k f ∷ xs) = (fixed k ≡ false → ¬ (u ≡ p)) × Apart u xs

-- the slots that are stored are within t, and their least words are t's
abbrev Least : List ℕ → List Slot → Type 0
Least t [] = Unit {0}
Least t (slot p k f ∷ xs) = (fixed k ≡ false → (p < length t) × (least_of k f ≡ word t p)) × Least t xs

-- d has t's length, and t's words but where a slot is stored
record Near (t : List ℕ) (xs : List Slot) (d : List ℕ) : Type 0 where
  size : length d ≡ length t
  own : (u : ℕ) → Apart u xs → word d u ≡ word t u

near-itself : (t : List ℕ) (xs : List Slot) → Near t xs t
near-itself t xs = record { size = refl; own = λ u a. refl }

-- ---- a walk stores in the places of its slots

store-near : (b : Bool) (s : List ℕ) (p w : ℕ) → (length (cond b s (set s p w)) ≡ length s) × ((u : ℕ) → (b ≡ false → ¬ (u ≡ p)) → word (cond b s (set s p w)) u ≡ word s u)
store-near true s p w = (refl, λ u n. refl)
store-near false s p w = (length-set s p w, λ u n. get_or-set_other s p u w 0 (n refl))

kept_near : (xs : List Slot) (bytes s : List ℕ) → Near s xs (kept xs bytes s)
unfolding kept keeping slot_put
kept_near [] bytes s = near-itself s []
kept_near (slot p k f ∷ xs) bytes s = read (read_on 0 1 bytes) (λ v r.
    let a = kept_near xs r (slot_put s (slot p k f) v) in
    let b = store-near (fixed k) s p (hidden k v) in
    record { size = a.size ∙ b.0; own = λ u n. a.own u n.1 ∙ b.1 u n.0 })
  where
    read : (n : Reading) → ((v : ℕ) (r : List ℕ) → Near s (slot p k f ∷ xs) (kept xs r (slot_put s (slot p k f) v)))
        → Near s (slot p k f ∷ xs) (keeping s (slot p k f) n (λ v r. kept xs r (slot_put s (slot p k f) v)))
    read (value v r) ih = go (takes s (slot p k f) v)
      where
        go : (b : Bool) → Near s (slot p k f ∷ xs) (cond b (kept xs r (slot_put s (slot p k f) v)) s)
        go true = ih v r
        go false = near-itself s (slot p k f ∷ xs)
    read (cut y u) ih = near-itself s (slot p k f ∷ xs)
    read ill ih = near-itself s (slot p k f ∷ xs)

-- ---- and the least words in their places make it t

cleared-near : (t : List ℕ) (xs : List Slot) (d : List ℕ) → Near t xs d → Least t xs → cleared xs d ≡ t
unfolding cleared slot_clear
cleared-near t [] d n l = ext_get_or 0 d t n.size (λ u i. n.own u tt)
cleared-near t (slot p k f ∷ xs) d n l =
    cleared-near t xs (slot_clear d (slot p k f)) (record { size = (store-near (fixed k) d p (least_of k f)).0 ∙ n.size; own = λ u a. at u a (fixed k) refl (ℕ_discrete u p) }) l.1
  where
    at : (u : ℕ) → Apart u xs → (b : Bool) → fixed k ≡ b → Dec (u ≡ p) → word (cond b d (set d p (least_of k f))) u ≡ word t u
    at u a true e q = n.own u ((λ z. absurd (true≢false (sym e ∙ z))), a)
    at u a false e (yes q) = rw q (get_or-set_same d p (least_of k f) 0 (omega (arith, n.size, (l.0 e).0)) ∙ (l.0 e).1)
    at u a false e (no q) = get_or-set_other d p u (least_of k f) 0 q ∙ n.own u ((λ z. q), a)

-- ---- the table of a fresh device

module _ (t : List ℕ) (ht : Fresh t) where
  rt : Ready t
  rt = fresh-ready t ht

  fresh-word : (p : ℕ) → p < state_length → word t p ≤ fresh_bits (vcpus t) p
  unfolding fresh
  fresh-word p l = fits_le (word t p) (fresh_bits (vcpus t) p)
      (every-at (λ j w. fits w (fresh_bits (vcpus t) j)) t (both (is_initialised t) (every (λ j w. fits w (fresh_bits (vcpus t) j)) 0 t) ht.is_fresh).1 p (omega (arith, rt.size)))

  all-least : {es : List Entry} {xs : List Slot} → Match (Means t) es xs → Least t xs
  unfolding fixed
  all-least none = tt
  all-least (one versions m) = ((λ z. absurd (true≢false z)), all-least m)
  all-least (one (fixes e a) m) = ((λ z. absurd (true≢false z)), all-least m)
  all-least (one (lists {k = k} {f} l e q) m) = (
    (λ z.
        let i = place_inside t rt l in
        rw e (omega (arith, rt.size, i), omega (arith, q.least t rt refl, q.start, fresh-word (place_of l) i))),
    all-least m,
  )

  pub taken_back : (bytes : List ℕ) → cleared (slots (count t) (vcpus t)) (kept (slots (count t) (vcpus t)) bytes t) ≡ t
  taken_back bytes = cleared-near t (slots (count t) (vcpus t)) _ (kept_near (slots (count t) (vcpus t)) bytes t) (all-least (entries-mean t rt))
