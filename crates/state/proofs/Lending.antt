-- A part of the state that is lent on and written: what is stored in the part is stored in the state, the part's start further on.
use Prim.Native.Nat.{ℕ, ◌+◌, ◌-◌, ◌<◌, ◌≤◌}
use mathlib.Core.Path.{◌≡◌, refl, sym, ap, ◌∙◌}
use mathlib.Core.List.{List, [], ◌∷◌, ◌++◌}
use native.Mathlib.Omega.{arith}
use native.Mathlib.Nat.{zero-add, suc-add}
use lib.ListN.{length, get_or, set, take, drop, length-take, length-drop, length-set}
use lib.Seq.{set-append_left, length-take-le, get_or-take, get_or-drop}
use borrow.Rule.Slice.PartMut.{mid_of, put_mid, put_same}

-- words stored one after the other: the place and the word of each
unfoldable pub stores : List (ℕ × ℕ) → List ℕ → List ℕ
stores [] xs = xs
stores (p ∷ ps) xs = stores ps (set xs p.0 p.1)

-- the same words, at places a further on
unfoldable pub further : ℕ → List (ℕ × ℕ) → List (ℕ × ℕ)
further a [] = []
further a (p ∷ ps) = (a + p.0, p.1) ∷ further a ps

-- each place is below k
abbrev pub Below : ℕ → List (ℕ × ℕ) → Type 0
Below k [] = Unit {0}
Below k (p ∷ ps) = (p.0 < k) × Below k ps

set_append_right : (xs ys : List ℕ) (j v : ℕ) → set (xs ++ ys) (length xs + j) v ≡ xs ++ set ys j v
set_append_right [] ys j v = rw (zero-add j)
set_append_right (x ∷ xs) ys j v = rw (suc-add (length xs) j) (ap (λ (l : List ℕ). x ∷ l) (set_append_right xs ys j v))

put-set : (a k : ℕ) (xs ys : List ℕ) (j v : ℕ) → a ≤ length xs → j < length ys → put_mid a k xs (set ys j v) ≡ set (put_mid a k xs ys) (a + j) v
put-set a k xs ys j v h p =
    sym (ap (λ (n : ℕ). set (take a xs ++ (ys ++ drop k (drop a xs))) (n + j) v) (sym (length-take-le a xs h))
    ∙ set_append_right (take a xs) (ys ++ drop k (drop a xs)) j v
    ∙ ap (λ (l : List ℕ). take a xs ++ l) (set-append_left ys (drop k (drop a xs)) j v p))

put-stores : (a k : ℕ) (xs ys : List ℕ) (ps : List (ℕ × ℕ)) → a ≤ length xs → length ys ≡ k → Below k ps → put_mid a k xs (stores ps ys) ≡ stores (further a ps) (put_mid a k xs ys)
unfolding stores further
put-stores a k xs ys [] h l b = refl
put-stores a k xs ys (p ∷ ps) h l b =
    put-stores a k xs (set ys p.0 p.1) ps h (length-set ys p.0 p.1 ∙ l) b.1
    ∙ ap (stores (further a ps)) (put-set a k xs ys p.0 p.1 h (omega (arith, b.0)))

mid-length : (a k : ℕ) (xs : List ℕ) → a + k ≤ length xs → length (mid_of a k xs) ≡ k
mid-length a k xs h = simp (length-take, length-drop) (omega arith)

-- the law by which a change of the part is a change of the whole
pub lent : (a k : ℕ) (xs : List ℕ) (ps : List (ℕ × ℕ)) → a + k ≤ length xs → Below k ps → put_mid a k xs (stores ps (mid_of a k xs)) ≡ stores (further a ps) xs
lent a k xs ps h b =
    put-stores a k xs (mid_of a k xs) ps (omega arith) (mid-length a k xs h) b ∙ ap (stores (further a ps)) (put_same a k xs)

-- and a word of the part is a word of the whole
pub at_mid : (a k : ℕ) (xs : List ℕ) (j : ℕ) → j < k → get_or (mid_of a k xs) j 0 ≡ get_or xs (a + j) 0
at_mid a k xs j h = get_or-take k (drop a xs) j 0 h ∙ get_or-drop a xs j 0

-- one word stored in a part of n words
pub one-stored : (a n : ℕ) (xs last : List ℕ) (j x : ℕ) → a + n ≤ length xs → j < n → last ≡ set (mid_of a (a + n - a) xs) j x → put_mid a (a + n - a) xs last ≡ set xs (a + j) x
unfolding stores further
one-stored a n xs last j x l m q = rw (q, lent a (a + n - a) xs ((j, x) ∷ []) (omega arith) (omega arith, tt))
