-- The fields of a line, one after another.
use Prim.Native.Nat.{ℕ, ◌+◌, ◌-◌, ◌<◌, ◌≤◌}
use mathlib.Core.Path.{◌≡◌, refl}
use mathlib.Core.Bool.{Bool, true, false}
use mathlib.Core.List.{List, [], ◌∷◌}
use native.Mathlib.Omega.{arith}
use native.Mathlib.Numerals.{add-one}
use Rattle.std.proofs.lemmas.Bool.Decides.{nat_tests}
use native.Mathlib.Nat.{le_refl}
use borrow.Author.Tests.{le-leb, lt-leb}
use lib.Dec.{eqb}
use lib.ListN.{length, get_or, take, drop, length-drop, drop_of_length-le}
use lib.Seq.{drop-cons, take_all}
use Rattle.std.proofs.lemmas.Grind.{common_steps}
use Rattle.std.specs.List.{position, position_or_len, onto_first, slice_split}
use Rattle.std.specs.Prelude.{◌==◌, Option, Some, None}
use Rattle.console.specs.Text.{space, joined, fields, number, further, numbers, rows, line_in, line_of, parsed}
use Rattle.console.specs.Steps.{first, spaced}

-- ---- the bytes before the first space

first-place : (l : List ℕ) → first l ≡ position_or_len (λ b. b == space) l
unfolding first
first-place [] = refl
first-place (b ∷ bs) = grind (arith, nat_tests, first-place bs)

first-bound : (l : List ℕ) → first l ≤ length l
unfolding first
first-bound [] = grind arith
first-bound (b ∷ bs) = grind (arith, nat_tests, first-bound bs)

module _ (l : List ℕ) (from : ℕ) (within : from ≤ length l) (r : Option ℕ) (e : r ≡ position (λ b. b == space) (take (length l - from) (drop from l))) where
  found : r ≡ position (λ b. b == space) (drop from l)
  found = rw (take_all (length l - from) (drop from l) (rw length-drop (le_refl (length l - from)))) at e

  pub ends_inside : (n : ℕ) → r ≡ Some n → from + n ≡ from + first (drop from l)
  ends_inside n h = grind (arith, common_steps, nat_tests, first-place (drop from l), found)

  pub ends_last : r ≡ None → length l ≡ from + first (drop from l)
  ends_last h = grind (arith, common_steps, nat_tests, first-place (drop from l), first-bound (drop from l), found)

-- ---- a line is its first field, and those after each space

split-on : (t : Bool) (b : ℕ) (bs : List ℕ) → eqb b space ≡ t → fields bs ≡ take (first bs) bs ∷ spaced (drop (first bs) bs)
    → fields (b ∷ bs) ≡ take (first (b ∷ bs)) (b ∷ bs) ∷ spaced (drop (first (b ∷ bs)) (b ∷ bs))
unfolding fields first spaced joined
split-on true b bs e h = rw e
split-on false b bs e h = rw (e, h)

pub split : (l : List ℕ) → fields l ≡ take (first l) l ∷ spaced (drop (first l) l)
unfolding fields first spaced
split [] = refl
split (b ∷ bs) = split-on (eqb b space) b bs refl (split bs)

-- the fields are what `split` gives
joined-onto : (b : ℕ) (fs : List (List ℕ)) → joined b fs ≡ onto_first b fs
unfolding joined
joined-onto b [] = refl
joined-onto b (f ∷ fs) = refl

fields-split : (l : List ℕ) → fields l ≡ slice_split (λ b. b == space) l
unfolding fields
fields-split [] = refl
fields-split (b ∷ bs) = rw (← fields-split bs, joined-onto b (fields bs))

-- the field at place n is the next
pub next_field : (l : List ℕ) (n : ℕ) (f : List ℕ) (ns : Option (List ℕ)) → (n < length (slice_split (λ b. b == space) l)) × (f ≡ get_or (slice_split (λ b. b == space) l) n f)
    → numbers ns (drop n (fields l)) ≡ numbers (further ns (number f)) (drop (n + 1) (fields l))
unfolding numbers
next_field l n f ns h =
    let k : n < length (fields l) = rw (fields-split l) h.0 in
    let e : f ≡ get_or (fields l) n f = rw (fields-split l) h.1 in
    rw (add-one n, drop-cons (fields l) n f k, ← e)

pub no_field : (l : List ℕ) (n : ℕ) (ns : Option (List ℕ)) → n ≡ length (slice_split (λ b. b == space) l) → numbers ns (drop n (fields l)) ≡ ns
unfolding numbers
no_field l n ns h =
    let k : length (fields l) ≤ n = rw (fields-split l) (omega arith) in
    rw (drop_of_length-le (fields l) k)

-- once a field is no number, or there are five, the line has no numbers
none_more : (x : Option ℕ) → further None x ≡ None
unfolding further
none_more None = refl
none_more (Some n) = refl

pub no_numbers : (fs : List (List ℕ)) → numbers None fs ≡ None
unfolding numbers
no_numbers [] = refl
no_numbers (f ∷ fs) = rw (none_more (number f), no_numbers fs)

pub ruleset no_more_fields = (no_numbers, nat_tests, common_steps)

-- ---- a line

pub too_long : (l : List ℕ) → 80 < length l → parsed l ≡ None
unfolding parsed
too_long l h = rw (lt-leb (length l) 80 h)

pub word_alone : (l : List ℕ) → length l ≤ 80 → first l ≡ length l → parsed l ≡ line_in (rows (Some [])) l
unfolding parsed line_of numbers spaced
word_alone l h e = rw (le-leb (length l) 80 h, split l, e, drop_of_length-le l (le_refl (length l)), take_all (length l) l (le_refl (length l)))

rest_whole : (l : List ℕ) (n : ℕ) → take (length l - n) (drop n l) ≡ drop n l
rest_whole l n = take_all (length l - n) (drop n l) (rw length-drop (le_refl (length l - n)))

pub word_first : (l : List ℕ) → length l ≤ 80 → first l < length l
    → parsed l ≡ line_in (rows (numbers (Some []) (fields (take (length l - (first l + 1)) (drop (first l + 1) l))))) (take (first l) l)
unfolding parsed line_of spaced
word_first l h k = rw (rest_whole l (first l + 1), le-leb (length l) 80 h, split l, drop-cons l (first l) 0 k, add-one (first l))

pub ruleset a_line = (too_long, word_alone, word_first)
