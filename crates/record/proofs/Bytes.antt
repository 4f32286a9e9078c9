-- Bytes written one run after the other, and a list from a place on.
use Prim.Native.Nat.{ℕ, suc, ◌+◌, ◌≤◌, ◌<◌}
use mathlib.Core.Path.{◌≡◌, sym, ◌∙◌}
use mathlib.Core.List.{List, [], ◌∷◌, ◌++◌}
use native.Mathlib.Omega.{arith}
use native.Mathlib.Nat.{add-zero, zero-add, suc-add, add-suc}
use native.Mathlib.Numerals.{add-one}
use lib.ListN.{length, get_or, set, drop, length-append}
use lib.Seq.{sets, sets-eq, length-sets, drop-cons}

-- one list written after another is their concatenation written
pub sets-append : (b : List ℕ) (i : ℕ) (xs ys : List ℕ) → sets b i (xs ++ ys) ≡ sets (sets b i xs) (i + length xs) ys
sets-append b i [] ys = rw add-zero
sets-append b i (x ∷ xs) ys = sets-append (set b i x) (suc i) xs ys ∙ rw (suc-add, add-suc)

-- where there is room for both lists, there is for the first
pub room-first : (b : List ℕ) (at : ℕ) (xs ys : List ℕ) → at + length (xs ++ ys) ≤ length b → at + length xs ≤ length b
room-first b at xs ys h = omega (arith, simp length-append at h)

-- the first list is written: the second, written after it, gives both, and there is room for it
module _ (b b' : List ℕ) (at at' : ℕ) (xs ys : List ℕ) (p : at' ≡ at + length xs) (e : b' ≡ sets b at xs) where
  pub sets-next : sets b' at' ys ≡ sets b at (xs ++ ys)
  sets-next = rw (p, e) (sym (sets-append b at xs ys))

  pub room_next : at + length (xs ++ ys) ≤ length b → at' + length ys ≤ length b'
  room_next h = rw (p, e, length-sets b at xs) (omega (arith, simp length-append at h))

-- a list written from the front on is there, and the rest keeps its bytes
pub sets-front : (b r : List ℕ) → length r ≤ length b → sets b 0 r ≡ r ++ drop (length r) b
sets-front b r h = rw (sets-eq r b 0 (omega arith), zero-add)

-- the element at k, and those after it
pub drop-next : {A : Type 0} (l : List A) (k : ℕ) (d : A) → k < length l → drop k l ≡ get_or l k d ∷ drop (k + 1) l
drop-next l k d h = rw add-one (drop-cons l k d h)
