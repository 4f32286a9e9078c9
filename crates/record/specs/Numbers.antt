-- A number read from bytes that may end within it, and what the reader answers.
use Rattle.std.specs.Prelude.{ℕ, ◌+◌, ◌*◌, ◌-◌, ◌^◌, ◌<◌, ◌≤◌, true, false, cond, not, ◌&&◌, List, [], ◌∷◌, ◌++◌, ◌≡◌, eqb, ltb, drop, Result, Ok, Err}
use Rattle.model.specs.Record as model
use Rattle.record.specs.declared.number.Begun.{Begun}
use Rattle.record.specs.declared.number.Number.{Number}
use Rattle.record.specs.declared.number.Unread.{Unread}
use Rattle.record.specs.declared.number.Unread.TheVariants.{Cut, Broken}

-- its value and the bytes after it; the bytes end, the groups so far make the first number, and a 1 of the next group counts the second; or no number
pub data Reading : Type 0 where
  value : ℕ → List ℕ → Reading
  cut : ℕ → ℕ → Reading
  ill : Reading

-- what a 1 of the fifth group counts
abbrev pub last_unit : ℕ
last_unit = 0x10000000

-- the last group b: not 0 unless it is the first, or the form were not the shortest, and at most 2^32 - 1 in all
unfoldable pub last_group : ℕ → ℕ → ℕ → List ℕ → Reading
last_group x u b r = cond (eqb b 0 && not (eqb u 1)) ill (cond (ltb (x + u * b) (2 ^ 32)) (value (x + u * b) r) ill)

-- the number whose groups so far make x, where a 1 of the next counts u
unfoldable pub read_on : ℕ → ℕ → List ℕ → Reading
read_on x u [] = cut x u
read_on x u (b ∷ r) = elim (ltb b 128) [ true ↦ last_group x u b r | false ↦ elim (eqb u last_unit) [ true ↦ ill | false ↦ read_on (x + u * (b - 128)) (u * 128) r ] ]

-- what more bytes make of it (proofs/Groups, `read-joined`)
unfoldable pub onward : Reading → List ℕ → Reading
onward (value v r) more = value v (r ++ more)
onward (cut x u) more = read_on x u more
onward ill more = ill

-- as model has it: where no bytes follow, a number that is cut is none (proofs/Groups, `whole-number`)
unfoldable pub whole : Reading → model.Number
whole (value v r) = model.decoded v r
whole (cut x u) = model.broken
whole ill = model.broken

-- the reader's answer
unfoldable pub told : List ℕ → Result Number Unread → Reading
told s (Ok n) = value n.value (drop n.next.at s)
told s (Err (Cut b)) = cut b.sum b.unit
told s (Err Broken) = ill

-- the groups so far are fewer than five, and make less than a 1 of the next
pub record Begins (b : Begun) : Type 0 where
  pub past : ℕ
  pub few : past ≤ 4
  pub unit : b.unit ≡ 128 ^ past
  pub small : b.sum < b.unit

-- a number that is cut can be read on
abbrev pub Resumes : Result Number Unread → Type 0
Resumes (Ok n) = Unit {0}
Resumes (Err (Cut b)) = Begins b
Resumes (Err Broken) = Unit {0}

-- the last group b after those, whatever the bytes are: `next` is the place after it
pub record Ends (g : Begun) (b next : ℕ) (r : Result Number Unread) : Type 0 where
  pub number : (s : List ℕ) → told s r ≡ last_group g.sum g.unit b (drop next s)
  pub resumes : Resumes r
