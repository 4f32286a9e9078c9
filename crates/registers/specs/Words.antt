-- What the functions on the words of a bank give, and which interrupts of a word a view has, as masks.
use Rattle.std.specs.Prelude.{ℕ, ◌+◌, ◌*◌, ◌/◌, ◌<◌, Bool, true, cond, ◌&&◌, List, eqb, leb}
use Rattle.model.specs.Words.{bit, gather}
use Rattle.model.specs.Layout.{word}
use Rattle.model.specs.Registers.{has}
use Rattle.model.specs.declared.View.{View}
use Rattle.model.specs.declared.Shown.{Shown}
use Rattle.model.specs.declared.Shown.TheVariants.{Nothing, Flag, Pending}
use Rattle.words.specs.Words.{pending_in}
use Rattle.registers.specs.declared.priorities.Bytes.{Bytes}
use Rattle.registers.specs.declared.priorities.Bytes.TheVariants.{All, One}

-- ---- which interrupts of word k of a register a view has

-- 32 flags, of the IDs that have one: those from `from` on
unfoldable pub flags_meant : List ℕ → View → ℕ → ℕ → ℕ
flags_meant s x from k = gather 32 (λ i. has s x (32 * k + i) && leb from (32 * k + i))

-- four priorities
unfoldable pub priorities_meant : List ℕ → View → ℕ → ℕ
priorities_meant s x k = gather 32 (λ i. has s x (4 * k + i / 8))

-- sixteen edge flags
unfoldable pub edges_meant : List ℕ → View → ℕ → ℕ
edges_meant s x k = gather 16 (λ i. has s x (16 * k + i))

-- ---- words of the bank b

-- what is shown of its flags in word k
unfoldable pub shown_in : Shown → ℕ → List ℕ → ℕ
shown_in Nothing k b = 0
shown_in Flag k b = word b k
shown_in Pending k b = pending_in b

-- the sixteen edge flags w after the bits e are written to those that the mask m names
unfoldable pub edges_under : ℕ → ℕ → ℕ → ℕ
edges_under w e m = gather 16 (λ i. cond (bit m i) (bit e i) (bit w i))

-- ---- the bytes of a word that an access names
unfoldable pub names : Bytes → ℕ → Bool
names All j = true
names (One b) j = eqb j b

-- one of the four
abbrev pub Byte : Bytes → Type 0
Byte All = Unit {0}
Byte (One b) = b < 4
