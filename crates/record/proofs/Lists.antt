-- Lists made block by block, element by element; and two lists whose elements are related one by one.
use Prim.Native.Nat.{ℕ, zero, suc, ◌+◌, ◌*◌, ◌-◌, ◌/◌, ◌%◌, ◌≤◌, ◌<◌}
use mathlib.Core.Path.{◌≡◌, refl, sym, ap, ap₂, ◌∙◌}
use mathlib.Core.Bool.{Bool, true, false}
use mathlib.Core.List.{List, [], ◌∷◌, ◌++◌, map}
use native.Mathlib.Omega.{arith}
use native.Mathlib.Nat.{add-zero, mul-suc, mul-zero, div-eq_of_lt, mod-eq_of_lt, div-eq-sub-div, mod-eq-sub-mod, not-suc-le-zero, mod-one, div-one}
use borrow.Author.Tests.{ltb-true, ltb-false}
use lib.Dec.{ltb}
use lib.ListN.{length, get_or, length-append, get_or-append}
use lib.Seq.{get_or-append-add}
use Rattle.model.specs.Words.{each}

-- ---- the element at a number

module _ {A : Type 0} (d : A) where
  -- in the second of two lists
  pub past : (xs ys : List A) (m i : ℕ) → length xs ≡ m → m ≤ i → get_or (xs ++ ys) i d ≡ get_or ys (i - m) d
  past xs ys m i e h =
      let q : i ≡ length xs + (i - m) = omega arith in
      ap (λ (j : ℕ). get_or (xs ++ ys) j d) q ∙ get_or-append-add xs ys (i - m) d

  -- and in the first
  pub before : (xs ys : List A) (m i : ℕ) → length xs ≡ m → i < m → get_or (xs ++ ys) i d ≡ get_or xs i d
  before xs ys m i e h = get_or-append xs ys d i (omega arith)

  module _ (f : ℕ → List A) (m : ℕ) (size : (b : ℕ) → length (f b) ≡ m) where
    pub length-each : (b k : ℕ) → length (each f b k) ≡ m * k
    unfolding each
    length-each b zero = sym (mul-zero m)
    length-each b (suc k) = rw (length-append, size b, length-each (suc b) k, mul-suc) (omega arith)

    -- element i of blocks of m: of block i / m the element i % m
    pub each_at : 0 < m → (b k i : ℕ) → i < m * k → get_or (each f b k) i d ≡ get_or (f (b + i / m)) (i % m) d
    unfolding each
    each_at pos b zero i h = absurd (not-suc-le-zero (rw mul-zero at h))
    each_at pos b (suc k) i h = cases (each_at pos (suc b) k) (ltb i m) refl
      where
        cases : ((j : ℕ) → j < m * k → get_or (each f (suc b) k) j d ≡ get_or (f (suc b + j / m)) (j % m) d) → (t : Bool) → ltb i m ≡ t
            → get_or (f b ++ each f (suc b) k) i d ≡ get_or (f (b + i / m)) (i % m) d
        cases ih true e =
            let l : i < m = ltb-true _ _ e in
            before (f b) (each f (suc b) k) m i (size b) l ∙ rw (div-eq_of_lt l, mod-eq_of_lt l, add-zero)
        cases ih false e =
            let l : m ≤ i = ltb-false _ _ e in
            let g : i < m * k + m = rw mul-suc at h in
            past (f b) (each f (suc b) k) m i (size b) l ∙ ih (i - m) (omega arith)
            ∙ ap₂ (λ (x y : ℕ). get_or (f x) y d) (omega (arith, div-eq-sub-div pos l)) (sym (mod-eq-sub-mod l))

  -- blocks of one
  pub length_run : (f : ℕ → A) (b k : ℕ) → length (each (λ j. f j ∷ []) b k) ≡ k
  length_run f b k = length-each (λ j. f j ∷ []) 1 (λ j. refl) b k ∙ omega arith

  pub run_at : (f : ℕ → A) (b k i : ℕ) → i < k → get_or (each (λ j. f j ∷ []) b k) i d ≡ f (b + i)
  run_at f b k i h = each_at (λ j. f j ∷ []) 1 (λ j. refl) (omega arith) b k i (omega arith) ∙ rw (mod-one, div-one)

-- ---- lists whose elements are related, one by one

module _ {A B : Type 0} (R : A → B → Type 0) where
  pub data Match : List A → List B → Type 0 where
    none : Match [] []
    one : {x : A} {y : B} {xs : List A} {ys : List B} → R x y → Match xs ys → Match (x ∷ xs) (y ∷ ys)

module _ {A B : Type 0} {R : A → B → Type 0} where
  pub match-append : {xs : List A} {ys : List B} {us : List A} {vs : List B} → Match R xs ys → Match R us vs → Match R (xs ++ us) (ys ++ vs)
  match-append none q = q
  match-append (one r p) q = one r (match-append p q)

  pub match-each : (f : ℕ → List A) (g : ℕ → List B) (b k : ℕ) → ((v : ℕ) → b ≤ v → v < b + k → Match R (f v) (g v)) → Match R (each f b k) (each g b k)
  unfolding each
  match-each f g b zero h = none
  match-each f g b (suc k) h = match-append (h b (omega arith) (omega arith)) (match-each f g (suc b) k (λ v l m. h v (omega arith) (omega arith)))

  pub match-length : {xs : List A} {ys : List B} → Match R xs ys → length xs ≡ length ys
  match-length none = refl
  match-length (one r p) = ap suc (match-length p)

  pub match-at : {xs : List A} {ys : List B} (x : A) (y : B) → Match R xs ys → (i : ℕ) → i < length xs → R (get_or xs i x) (get_or ys i y)
  match-at x y none i h = absurd (not-suc-le-zero h)
  match-at x y (one r p) zero h = r
  match-at x y (one r p) (suc i) h = match-at x y p i (omega arith)

-- through a function on the left
pub match-map : {A B C : Type 0} {R : B → C → Type 0} (f : A → B) {xs : List A} {ys : List C} → Match (λ x y. R (f x) y) xs ys → Match R (map f xs) ys
match-map f none = none
match-map f (one r p) = one r (match-map f p)
