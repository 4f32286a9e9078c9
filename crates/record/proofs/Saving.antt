-- The record of a device is the bytes of its slots, and each of them reads a number of 32 bits.
use Prim.Native.Nat.{ℕ, zero, suc, ◌+◌, ◌^◌, ◌≤◌, ◌<◌}
use mathlib.Core.Path.{◌≡◌, refl, sym, ap, ap₂, ◌∙◌}
use mathlib.Core.List.{List, [], ◌∷◌, ◌++◌}
use native.Mathlib.Omega.{arith}
use native.Mathlib.Decide.{ℕ_discrete}
use lib.ListN.{get_or}
use Rattle.model.specs.Words.{each}
use Rattle.model.specs.Layout.{word, count, vcpus}
use Rattle.model.specs.Record.{Entry, entry_read, entry_bytes, record_of, encode}
use Rattle.model.proofs.Soundness.{Ready}
use Rattle.model.proofs.Places.{place_of, reads-place}
use Rattle.model.proofs.Cover as cover
use Rattle.model.proofs.Recorded.{All, Good, good-entries}
use Rattle.record.specs.Table.{Slot, slot, slots_in, flat, blank, parts, slots, slot_read, slot_bytes, shown}
use Rattle.record.specs.declared.table.Part.{Part}
use Rattle.record.proofs.Lists.{Match, none, one}
use Rattle.record.proofs.Standing.{Means, versions, fixes, lists, entries-mean}

module _ (s : List ℕ) (h : Ready s) where
  read-means : {e : Entry} {x : Slot} → Means s e x → entry_read s e ≡ slot_read s x
  unfolding entry_read slot_read shown
  read-means versions = refl
  read-means (fixes e a) = e
  read-means (lists l e q) = reads-place s h l ∙ sym (q.alike (word s (place_of l))) ∙ rw e

  bytes-mean : {es : List Entry} {xs : List Slot} → Match (Means s) es xs → entry_bytes s es ≡ slot_bytes s xs
  unfolding entry_bytes slot_bytes
  bytes-mean none = refl
  bytes-mean (one r m) = ap₂ (λ (x : ℕ) (ys : List ℕ). encode x ++ ys) (read-means r) (bytes-mean m)

  pub record_is : record_of s ≡ slot_bytes s (slots (count s) (vcpus s))
  unfolding record_of
  record_is = bytes-mean (entries-mean s h)

  -- ---- numbers of 32 bits

  abbrev Small : List Slot → Type 0
  Small [] = Unit {0}
  Small (x ∷ xs) = (slot_read s x < 2 ^ 32) × Small xs

  small-means : {e : Entry} {x : Slot} → Means s e x → Good s e → slot_read s x < 2 ^ 32
  unfolding slot_read shown
  small-means versions g = g
  small-means (fixes e a) g = rw (← e) g
  small-means (lists l e q) g = rw (e, q.alike (word s (place_of l))) (cover.shows s h l).small

  all_small : {es : List Entry} {xs : List Slot} → Match (Means s) es xs → All (Good s) es → Small xs
  all_small none g = tt
  all_small (one r m) g = (small-means r g.0, all_small m g.1)

  small-split : (xs ys : List Slot) → Small (xs ++ ys) → Small xs × Small ys
  small-split [] ys a = (tt, a)
  small-split (x ∷ xs) ys a = let q = small-split xs ys a.1 in ((a.0, q.0), q.1)

  small-run : (f : ℕ → Slot) (b n j : ℕ) → Small (each (λ i. f i ∷ []) b n) → b ≤ j → j < b + n → slot_read s (f j) < 2 ^ 32
  unfolding each
  small-run f b zero j a l m = absurd (omega arith)
  small-run f b (suc n) j a l m = go (ℕ_discrete b j) (small-run f (suc b) n j a.1)
    where
      go : Dec (b ≡ j) → (suc b ≤ j → j < suc b + n → slot_read s (f j) < 2 ^ 32) → slot_read s (f j) < 2 ^ 32
      go (yes e) ih = rw (← e) a.0
      go (no e) ih = ih (omega arith) (omega arith)

  small-part : (ps : List Part) → Small (flat ps) → (k j : ℕ) (p : Part) → p ≡ get_or ps k blank → j < p.len → shown p.kind (word s (p.base + p.first + j)) < 2 ^ 32
  unfolding flat slot_read
  small-part [] a k j p e l = absurd (omega (arith, ap (λ (q : Part). q.len) e))
  small-part (q ∷ ps) a zero j p e l =
      small-run (λ i. slot (p.base + p.first + i) p.kind (p.first + i)) 0 p.len j (rw e (small-split (slots_in q) (flat ps) a).0) (omega arith) (omega arith)
  small-part (q ∷ ps) a (suc k) j p e l = small-part ps (small-split (slots_in q) (flat ps) a).1 k j p e l

  -- of each word of each part
  pub slot_small : (k j : ℕ) (p : Part) → p ≡ get_or (parts (count s) (vcpus s)) k blank → j < p.len → shown p.kind (word s (p.base + p.first + j)) < 2 ^ 32
  slot_small = small-part (parts (count s) (vcpus s)) (all_small (entries-mean s h) (good-entries s h))
