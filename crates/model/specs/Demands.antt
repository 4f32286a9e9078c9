-- Demand 3 as a proposition, one claim about whole lists of calls.
-- Putting the listed attribute values of one stopped device into a fresh one, in any order, repeated, with gets and refused calls between, makes the
-- two equal, byte for byte, and for ever after alike; the same through save and restore.
use Rattle.std.specs.Prelude.{ℕ, ◌≤◌, ◌<◌, ◌≡◌, true, pos, negsuc, length}
use mathlib.Core.List.{List, [], ◌∷◌, ◌++◌, Memᴰ}
use Rattle.model.specs.Layout.{count, vcpus, affinity}
use Rattle.model.specs.Sound.{sound, stopped, fresh}
use Rattle.model.specs.Attributes.{Attribute, attr, item_of}
use Rattle.model.specs.Record.{listed, attribute_of, entry_read, record_of}
use Rattle.model.specs.Calls.{Call, get_attribute, set_attribute, save, restore, call, handed_back, after, trace}

-- the first device: sound, initialised, no vCPU running
pub record Stopped (s : List ℕ) : Type 0 where
  pub is_sound : sound s ≡ true
  pub is_stopped : stopped s ≡ true

-- the second: sound, just initialised
pub record Fresh (s : List ℕ) : Type 0 where
  pub is_sound : sound s ≡ true
  pub is_fresh : fresh s ≡ true

-- the same count, and the same affinities in the same order
pub record Alike (s t : List ℕ) : Type 0 where
  pub same_count : count t ≡ count s
  pub same_number : vcpus t ≡ vcpus s
  pub same_affinities : (v : ℕ) → v < vcpus s → affinity t v ≡ affinity s v

-- A put of the listed attribute a sets it to what get answers for it on the first device. Bits 63-32 are ignored in group 1 and from ID 32 on in
-- group 7, so a number that names the same register serves as well.
pub data Put (from : List ℕ) (a : Attribute) : Call → Type 0 where
  puts : (n v : ℕ) → item_of (attr a.group n) from ≡ item_of a from → (call (get_attribute a.group n) from).answer ≡ pos v → Put from a (set_attribute a.group n v)

-- What the list may hold, made at the state s: a put of a listed attribute, a get, or a set that is refused there. A get may be refused too: it is among the
-- gets, each of which leaves the state as it is.
pub data Allowed (from s : List ℕ) : Call → Type 0 where
  put : {a : Attribute} {c : Call} → Memᴰ a (listed from) → Put from a c → Allowed from s c
  get : (g a : ℕ) → Allowed from s (get_attribute g a)
  refused : (g a v e : ℕ) → (call (set_attribute g a v) s).answer ≡ negsuc e → Allowed from s (set_attribute g a v)

-- such a list, made from the state s on: each call gets the state that the last one left
pub data Restoring (from : List ℕ) : List ℕ → List Call → Type 0 where
  none : {s : List ℕ} → Restoring from s []
  one : {s : List ℕ} {c : Call} {cs : List Call} → Allowed from s c → Restoring from (call c s).state cs → Restoring from s (c ∷ cs)

-- with every listed attribute put
pub record Whole (from : List ℕ) (cs : List Call) : Type 0 where
  pub put_each : (a : Attribute) → Memᴰ a (listed from) → (c : Call) × Put from a c × Memᴰ c cs

-- equal, and for ever after alike: every list of later calls, of every kind, each with its numbers and buffers, gives the same outcomes on both.
-- An outcome is the answer, every word of the state and every number of each lent buffer; what is handed back follows from it.
pub record Same (s t : List ℕ) : Type 0 where
  pub equal : t ≡ s
  pub later : (ds : List Call) → trace ds t ≡ trace ds s

-- each put answers 0, and the list leaves the first device's state
pub record ByAttributes (from to : List ℕ) (cs : List Call) : Type 0 where
  pub answers : (before : List Call) (a : Attribute) (c : Call) (rest : List Call) → cs ≡ before ++ c ∷ rest → Memᴰ a (listed from) → Put from a c
      → (call c (after before to)).answer ≡ pos 0
  pub same : Same from (after cs to)

-- save of the first succeeds and leaves it as it was; restore of what it hands back succeeds and leaves the first device's state
pub record ByRecord (from to buf : List ℕ) : Type 0 where
  pub saves : (call (save buf) from).answer ≡ pos (length (record_of from))
  pub keeps : (call (save buf) from).state ≡ from
  pub answers : (call (restore (handed_back (call (save buf) from))) to).answer ≡ pos 0
  pub same : Same from (call (restore (handed_back (call (save buf) from))) to).state

-- For a stopped first device: get answers each of its listed attributes, with the value that its record has. For every fresh second one of the same
-- set-up: by attributes, and by a record in any buffer that is no shorter than it.
pub record Restores (from : List ℕ) : Type 0 where
  pub gets : (a : Attribute) → Memᴰ a (listed from) → (call (get_attribute a.group a.number) from).answer ≡ pos (entry_read from (attribute_of a))
  pub by_attributes : (to : List ℕ) → Fresh to → Alike from to → (cs : List Call) → Restoring from to cs → Whole from cs → ByAttributes from to cs
  pub by_record : (to : List ℕ) → Fresh to → Alike from to → (buf : List ℕ) → length (record_of from) ≤ length buf → ByRecord from to buf

abbrev pub Demand3 : Type 0
Demand3 = (from : List ℕ) → Stopped from → Restores from
