-- A session between its reads: where it is not known which bytes were read, the words and the line begun are what some bytes make of them; where it is known, the bytes that were read and those that were written are told too.
use Rattle.std.specs.Prelude.{ℕ, ◌≡◌, ◌+◌, ◌≤◌, Bool, true, false, List, [], length, ⊤, Option, None, Some}
use Rattle.std.specs.Io.KnownBytes.{Consumes, Appends, IsAtEnd}
use Rattle.console.specs.Sessions.{Session, block_read}

-- a device's words and the bytes that are kept of a line, before more is read
abbrev pub begins : List ℕ → List ℕ → Session
begins s l = record { words = s; line = l; text = [] }

-- some bytes were read, and the words s and the line l are what they leave of the session t
pub record ReadOn (t : Session) (s l : List ℕ) : Type 0 where
  pub input : List ℕ
  pub words : s ≡ (block_read t input).words
  pub line : l ≡ (block_read t input).line

-- the bytes that were read are those that a reader, of what it had left, has no more; and what they print is what a writer holds more
pub record Answered (t : Session) (had has held holds : Option (List ℕ)) (s l : List ℕ) : Type 0 where
  pub read_on : ReadOn t s l
  pub taken : Consumes had has read_on.input
  pub put : Appends held holds (block_read t read_on.input).text

-- of known bytes at least n are no more left
abbrev pub Loses : Option (List ℕ) → Option (List ℕ) → ℕ → Type 0
Loses None has n = ⊤
Loses (Some xs) None n = ⊤
Loses (Some xs) (Some ys) n = n + length ys ≤ length xs

-- a turn that goes on has read a byte at least; one that does not is at the end
abbrev pub Turns : Bool → Option (List ℕ) → Option (List ℕ) → Type 0
Turns true had has = Loses had has 1
Turns false had has = IsAtEnd has
