-- What the bits of many words, joined by `|`, tell of each of them.
use Rattle.std.specs.Prelude.{ℕ, ◌-◌, ◌%◌, ◌^◌, ◌≤◌, ◌<◌, ◌≡◌, List, length, get_or}
use Rattle.std.specs.Int.Bits.{bit_and}

-- word k of s has none of the bits of its entry in the row, which repeats from place a on
pub record Apart (s row : List ℕ) (a k : ℕ) : Type 0 where
  pub apart : bit_and (get_or s k 0) (get_or row ((k - a) % length row) 0) ≡ 0

-- r is 0 exactly where P holds at each place from a up to e
pub record Clear (P : ℕ → Type 0) (a e r : ℕ) : Type 0 where
  pub ordered : a ≤ e
  pub all : r ≡ 0 → (k : ℕ) → a ≤ k → k < e → P k
  pub none : ((k : ℕ) → a ≤ k → k < e → P k) → r ≡ 0

-- r has a bit exactly where some word from a up to e has it: of any bits m it has none exactly where none of these words has one
pub record Joins (s : List ℕ) (a e r : ℕ) : Type 0 where
  pub tells : (m : ℕ) → m < 2 ^ 32 → Clear (λ k. bit_and (get_or s k 0) m ≡ 0) a e (bit_and r m)
