-- What save writes: the bytes of values, one after the other.
use Rattle.std.specs.Prelude.{ℕ, ◌+◌, ◌^◌, ◌<◌, List, [], ◌∷◌, ◌≡◌, length, leb, Ok, Err}
use Rattle.std.proofs.lemmas.List.Edits.{sets}
use Rattle.model.specs.Layout.{word}
use Rattle.model.specs.Record.{record_of}
use Rattle.model.specs.Refusals.{Answer, Check}
use Rattle.model.specs.Calls.{phase}
use Rattle.model.specs.declared.Errno.TheVariants.{Enospc}
use Rattle.model.specs.declared.Phase.TheVariants.{Stopped}
use Rattle.record.specs.Table.{shown}
use Rattle.record.specs.declared.table.Part.{Part}

-- what the words of a part are shown as are numbers of 32 bits
pub record Small (s : List ℕ) (p : Part) : Type 0 where
  pub small : (j : ℕ) → j < p.len → shown p.kind (word s (p.base + p.first + j)) < 2 ^ 32

-- the bytes xs were written to b from `at` on: r is the place after them, b' the buffer then
pub record Wrote (b : List ℕ) (at : ℕ) (xs : List ℕ) (r : ℕ) (b' : List ℕ) : Type 0 where
  pub place : r ≡ at + length xs
  pub bytes : b' ≡ sets b at xs

-- how many bytes of its buffer save hands back
abbrev pub front_length : Answer → ℕ
front_length (Ok n) = n
front_length (Err e) = 0

-- what save asks of the device and of a buffer of n bytes
unfoldable pub save_checks : List ℕ → ℕ → List Check
save_checks s n = phase Stopped s ∷ (leb (length (record_of s)) n, Enospc) ∷ []
