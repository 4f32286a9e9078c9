-- A walk over the bytes of a record, value by value: what it comes to, and what it stores.
use Rattle.std.specs.Prelude.{ℕ, cond, ltb, List, [], ◌∷◌, ◌≡◌, length, drop, Result, Ok, Err}
use Rattle.model.specs.Sound.{fresh}
use Rattle.model.specs.Refusals.{Refusal, Check, first_failing}
use Rattle.model.specs.Record.{Loaded, done, fault, faults, restored, loaded_state}
use Rattle.model.specs.Calls.{phase}
use Rattle.model.specs.declared.Errno.{Errno}
use Rattle.model.specs.declared.Errno.TheVariants.{Eexist, Einval, Ebadmsg}
use Rattle.model.specs.declared.Phase.TheVariants.{Stopped}
use Rattle.record.specs.Numbers.{Reading, value, cut, ill, read_on, Begins}
use Rattle.record.specs.Table.{Slot, takes, slot_put, slot_clear, left_at}
use Rattle.record.specs.declared.number.Cursor.{Cursor}
use Rattle.record.specs.declared.number.Unread.{Unread}
use Rattle.record.specs.declared.number.Unread.TheVariants.{Cut, Broken}
use Rattle.record.specs.declared.restore.Stop.{Stop}
use Rattle.record.specs.declared.restore.Stop.TheVariants.{Short, Fault}
use Rattle.record.specs.declared.table.Part.{Part}
use Rattle.record.specs.declared.table.Place.{Place}

-- all values are read, and these bytes follow; the bytes end before the value of the first of these slots does, whose groups so far make the first number,
-- where a 1 of the next counts the second; or a fault
pub data Judged : Type 0 where
  past : List ℕ → Judged
  short : List Slot → ℕ → ℕ → Judged
  faulty : Errno → Judged

-- ---- the walk, from the state s on

unfoldable pub judging : List ℕ → Slot → List Slot → Reading → (ℕ → List ℕ → Judged) → Judged
judging s x xs (value v r) f = cond (takes s x v) (f v r) (faulty Einval)
judging s x xs (cut y u) f = short (x ∷ xs) y u
judging s x xs ill f = faulty Ebadmsg

-- what it comes to: each number is read or faulted before the next
unfoldable pub judged : List Slot → List ℕ → List ℕ → Judged
judged [] bytes s = past bytes
judged (x ∷ xs) bytes s = judging s x xs (read_on 0 1 bytes) (λ v r. judged xs r (slot_put s x v))

unfoldable pub keeping : List ℕ → Slot → Reading → (ℕ → List ℕ → List ℕ) → List ℕ
keeping s x (value v r) f = cond (takes s x v) (f v r) s
keeping s x (cut y u) f = s
keeping s x ill f = s

-- what it stores: the values before the first that is not read
unfoldable pub kept : List Slot → List ℕ → List ℕ → List ℕ
kept [] bytes s = s
kept (x ∷ xs) bytes s = keeping s x (read_on 0 1 bytes) (λ v r. kept xs r (slot_put s x v))

-- the fresh words in their places
unfoldable pub cleared : List Slot → List ℕ → List ℕ
cleared [] s = s
cleared (x ∷ xs) s = cleared xs (slot_clear s x)

-- ---- a whole record: bytes that follow the last value are a fault, and so is a value that is missing
unfoldable pub outcome : Judged → List ℕ → Loaded
outcome (past []) s = done s
outcome (past (b ∷ r)) s = fault Ebadmsg
outcome (short xs y u) s = fault Ebadmsg
outcome (faulty e) s = fault e

-- what it is refused with
unfoldable pub fault_of : Loaded → Refusal
fault_of l = first_failing (faults l)

-- what restore asks of the device
unfoldable pub device_checks : List ℕ → List Check
device_checks s = phase Stopped s ∷ (fresh s, Eexist) ∷ []

-- ---- what the walk of the code answers. The table is ps, and where it has read all it was to read, it goes on at part k; s is the state then.

unfoldable pub tells : List Part → List ℕ → ℕ → Result Cursor Stop → List ℕ → Judged
tells ps bytes k (Ok c) s = judged (left_at ps k 0) (drop c.at bytes) s
tells ps bytes k (Err (Short p b)) s = short (left_at ps p.part p.word) b.sum b.unit
tells ps bytes k (Err (Fault e)) s = faulty e

unfoldable pub leaves : List Part → List ℕ → ℕ → Result Cursor Stop → List ℕ → List ℕ
leaves ps bytes k (Ok c) s = kept (left_at ps k 0) (drop c.at bytes) s
leaves ps bytes k (Err (Short p b)) s = s
leaves ps bytes k (Err (Fault e)) s = s

-- a number that the bytes cut can be read on
abbrev pub Resumed : Result Cursor Stop → Type 0
Resumed (Ok c) = Unit {0}
Resumed (Err (Short p b)) = Begins b
Resumed (Err (Fault e)) = Unit {0}

-- the walk from a place of the table and of the bytes: s was before it, s' is after it
pub record Loads (ps : List Part) (bytes : List ℕ) (from : Place) (at k : ℕ) (s s' : List ℕ) (r : Result Cursor Stop) : Type 0 where
  pub same : length s' ≡ length s
  pub resumes : Resumed r
  pub come : tells ps bytes k r s' ≡ judged (left_at ps from.part from.word) (drop at bytes) s
  pub state : leaves ps bytes k r s' ≡ kept (left_at ps from.part from.word) (drop at bytes) s

-- the parts from k₀ on and before k have their fresh words: s was before, s' is after
pub record Clears (ps : List Part) (k₀ k : ℕ) (s s' : List ℕ) : Type 0 where
  pub same : length s' ≡ length s
  pub state : cleared (left_at ps k 0) s' ≡ cleared (left_at ps k₀ 0) s

-- a record was loaded into the fresh device t, or taken back: r is its refusal, s what it left
pub record Takes (t bytes : List ℕ) (r : Refusal) (s : List ℕ) : Type 0 where
  pub refusal : r ≡ fault_of (restored t bytes)
  pub state : s ≡ loaded_state t (restored t bytes)

-- where the walk stops if the number at p is not read
unfoldable pub unread_at : Place → Unread → Stop
unread_at p (Cut b) = Short p b
unread_at p Broken = Fault Ebadmsg

-- after the last value
unfoldable pub end_of : List ℕ → Result Cursor Stop → Refusal
end_of bytes (Ok c) = cond (ltb c.at (length bytes)) (Err Ebadmsg) (Ok tt)
end_of bytes (Err (Short p b)) = Err Ebadmsg
end_of bytes (Err (Fault e)) = Err e
