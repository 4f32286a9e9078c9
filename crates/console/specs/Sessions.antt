-- A line run on a device's words; the lines of an input, and what they print.
use Rattle.std.specs.Prelude.{ℕ, cond, List, [], ◌∷◌, ◌++◌, ◌≡◌, eqb, ltb, length, take, Option, Some, None}
use Rattle.model.specs.Calls.{call, made}
use Rattle.console.specs.Commands.{call_of, is_read}
use Rattle.console.specs.Text.{joined, parsed}
use Rattle.console.specs.Answers.{newline, answer_line, bad_line}
use Rattle.console.specs.declared.Command.{Command}

-- what a line prints
unfoldable pub printed : Option Command → List ℕ → List ℕ
printed (Some c) s = answer_line (is_read c) (call (call_of c) s).answer
printed None s = bad_line

-- the words that it leaves
unfoldable pub left : Option Command → List ℕ → List ℕ
left (Some c) s = (call (call_of c) s).state
left None s = s

-- ---- a whole input

-- each line ends with a newline; a last line may lack its end
unfoldable pub lines : List ℕ → List (List ℕ)
lines [] = []
lines (b ∷ bs) = cond (eqb b newline) ([] ∷ lines bs) (joined b (lines bs))

-- the answers, each line run on the words that the last one left
unfoldable pub answers : List (List ℕ) → List ℕ → List ℕ
answers [] s = []
answers (l ∷ ls) s = printed (parsed l) s ++ answers ls (left (parsed l) s)

-- what `drill` writes: it makes a device, and runs the lines of its input
unfoldable pub drill : List ℕ → List ℕ
drill input = answers (lines input) made

-- ---- the same a byte at a time: the device's words, the bytes that are kept of the line begun, and what is printed

pub record Session : Type 0 where
  pub words : List ℕ
  pub line : List ℕ
  pub text : List ℕ

-- 81 bytes of a line tell that it is too long
unfoldable pub kept : List ℕ → ℕ → List ℕ
kept l b = cond (ltb (length l) 81) (l ++ (b ∷ [])) l

unfoldable pub line_ended : Session → Session
line_ended t = record { words = left (parsed t.line) t.words; line = []; text = t.text ++ printed (parsed t.line) t.words }

unfoldable pub byte_kept : Session → ℕ → Session
byte_kept t b = record { words = t.words; line = kept t.line b; text = t.text }

unfoldable pub byte_read : Session → ℕ → Session
byte_read t b = cond (eqb b newline) (line_ended t) (byte_kept t b)

unfoldable pub block_read : Session → List ℕ → Session
block_read t [] = t
block_read t (b ∷ bs) = block_read (byte_read t b) bs

-- at the end of the input a line that has a byte counts
unfoldable pub input_ended : Session → Session
input_ended t = cond (eqb (length t.line) 0) t (line_ended t)

-- a session at these words, with the first n bytes of a buffer as its line and the first k of another as its text
abbrev pub session_at : List ℕ → List ℕ → ℕ → List ℕ → ℕ → Session
session_at s line n out k = record { words = s; line = take n line; text = take k out }

-- the words that a session leaves, and what it prints
pub record Ends (t : Session) (s : List ℕ) (out : List ℕ) : Type 0 where
  pub words : s ≡ t.words
  pub text : out ≡ t.text
