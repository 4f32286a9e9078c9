-- The calls: each described in one place, by its tests in their order and what it answers and leaves where none of them fails.
use Rattle.std.specs.Prelude.{ℕ, ◌+◌, Bool, true, false, not, cond, ◌&&◌, ◌||◌, List, [], ◌∷◌, ◌++◌, ◌≡◌, eqb, ltb, leb, ℤ, pos, negsuc, length, get_or, set, take, replicate, Ok, Err}
use Rattle.model.specs.Values.{edge_bits}
use Rattle.model.specs.Words.{val}
use Rattle.model.specs.Roles.{with_derived}
use Rattle.model.specs.Layout.{state_length, most_vcpus, initialised_at, count_at, vcpus_at, is_initialised, count, vcpus, affinity_at, running_at, running, bpr_at, least_bpr, sgi_edges_at}
use Rattle.model.specs.Interrupts.{is_ppi, is_spi}
use Rattle.model.specs.Sound.{sound, stopped, fresh, is_count, is_affinity, unused}
use Rattle.model.specs.Refusals.{Refusal, Check, first_failing, number}
use Rattle.model.specs.Registers.{guest_read, guest_write}
use Rattle.model.specs.Lines.{line_changed}
use Rattle.model.specs.Interface.{system, signal, plain_read, plain_write, system_read, system_read_next, system_read_clear, system_write}
use Rattle.model.specs.Attributes.{group_of, number_ok, affinity_known, item, known, takes, item_read, item_write}
use Rattle.model.specs.Record.{record_of, saved, restored, faults, loaded_state}
use Rattle.model.specs.declared.Errno.TheVariants.{Eperm, Eio, Enxio, Enomem, Efault, Ebusy, Eexist, Enodev, Einval, Enospc}
use Rattle.model.specs.declared.By.TheVariants as by
use Rattle.model.specs.declared.View.TheVariants as view
use Rattle.model.specs.declared.Phase.{Phase}
use Rattle.model.specs.declared.Phase.TheVariants.{Initialised, Changing, Stopped}
use Rattle.model.specs.declared.Readable.TheVariants.{Iar, Hppir, Rpr}
use Rattle.model.specs.declared.SystemRegister.{SystemRegister}
use Rattle.model.specs.declared.SystemRegister.TheVariants.{Both, Read, Write, Unnamed}
use Rattle.model.specs.declared.RegisterGroup.{RegisterGroup}
use Rattle.model.specs.declared.AttributeGroup.{AttributeGroup}
use Rattle.model.specs.declared.AttributeGroup.TheVariants.{Registers, Count, Initialise, Unknown}

-- The numbers are any numbers and the buffers any bytes: the caller's. Where the code has a width it is 64 bits, or 32 for an affinity, so that no
-- number of the page is cut before it is tested. A guest's access names the vCPU that makes it, and a size in bytes.
pub data Call : Type 0 where
  make : Call
  -- affinity
  add_vcpu : ℕ → Call
  -- index, running
  set_running : ℕ → Bool → Call
  -- index, ID, level
  change_line : ℕ → ℕ → Bool → Call
  -- index
  query_signal : ℕ → Call
  -- index, offset, size, and the value of a write
  read_distributor : ℕ → ℕ → ℕ → Call
  write_distributor : ℕ → ℕ → ℕ → ℕ → Call
  -- index, frame, offset, size, and the value of a write
  read_frame : ℕ → ℕ → ℕ → ℕ → Call
  write_frame : ℕ → ℕ → ℕ → ℕ → ℕ → Call
  -- index, encoding, and the value of a write
  read_system : ℕ → ℕ → Call
  write_system : ℕ → ℕ → ℕ → Call
  -- group, attribute, and the value of a set
  get_attribute : ℕ → ℕ → Call
  set_attribute : ℕ → ℕ → ℕ → Call
  -- the buffer's bytes, the record's bytes
  save : List ℕ → Call
  restore : List ℕ → Call

-- ---- tests that several calls share

-- the phase that a call asks for; `Changing` is that of a guest's write, an acknowledge and a line change
abbrev pub in_phase : Phase → List ℕ → Bool
in_phase Initialised s = is_initialised s
in_phase Changing s = is_initialised s
in_phase Stopped s = stopped s

abbrev pub phase : Phase → List ℕ → Check
phase p s = (in_phase p s, Ebusy)

abbrev pub is_vcpu : List ℕ → ℕ → Bool
is_vcpu s v = ltb v (vcpus s)

-- a call that names a vCPU, running or not: not initialised; no such index
abbrev pub vcpu_checks : Phase → ℕ → List ℕ → List Check
vcpu_checks p v s = phase p s ∷ (is_vcpu s v, Einval) ∷ []

-- guest access: not initialised; no such vCPU or frame; not running
unfoldable pub guest_checks : Phase → ℕ → List ℕ → List Check
guest_checks p v s = phase p s ∷ (is_vcpu s v, Einval) ∷ (eqb (running s v) 1, Eperm) ∷ []

unfoldable pub frame_checks : Phase → ℕ → ℕ → List ℕ → List Check
frame_checks p v f s = phase p s ∷ (is_vcpu s v, Einval) ∷ (is_vcpu s f, Einval) ∷ (eqb (running s v) 1, Eperm) ∷ []

-- of the reads of system registers an acknowledge changes interrupts
unfoldable pub read_phase : SystemRegister → Phase
read_phase (Both p) = Initialised
read_phase (Read (Iar g)) = Changing
read_phase (Read (Hppir g)) = Initialised
read_phase (Read Rpr) = Initialised
read_phase (Write w) = Initialised
read_phase Unnamed = Initialised

-- a system register that is not listed for that direction; an acknowledge that finds its active-priority bit set
unfoldable pub read_checks : SystemRegister → ℕ → List ℕ → List Check
read_checks (Both p) v s = []
read_checks (Read r) v s = (system_read_clear s v r, Eio) ∷ []
read_checks (Write w) v s = (false, Enxio) ∷ []
read_checks Unnamed v s = (false, Enxio) ∷ []

unfoldable pub write_checks : SystemRegister → List Check
write_checks (Both p) = []
write_checks (Read r) = (false, Enxio) ∷ []
write_checks (Write w) = []
write_checks Unnamed = (false, Enxio) ∷ []

-- a PPI of a vCPU that is there, or an SPI, whose line ignores the index
unfoldable pub has_line : List ℕ → ℕ → ℕ → Bool
has_line s v id = cond (is_ppi id) (is_vcpu s v) (is_spi s id)

-- groups 1, 5, 6, 7
unfoldable pub register_checks : RegisterGroup → ℕ → List ℕ → List Check
register_checks q a s = (number_ok q a, Einval) ∷ (affinity_known q a s, Einval) ∷ phase Stopped s ∷ (known (item q a s), Enxio) ∷ []

unfoldable pub get_checks : AttributeGroup → ℕ → List ℕ → List Check
get_checks (Registers q) a s = register_checks q a s
get_checks Count a s = []
get_checks Initialise a s = (false, Enxio) ∷ []
get_checks Unknown a s = (false, Enxio) ∷ []

unfoldable pub set_checks : AttributeGroup → ℕ → ℕ → List ℕ → List Check
set_checks (Registers q) a x s = register_checks q a s ++ ((takes (item q a s) x, Einval) ∷ [])
set_checks Count a x s = (is_count x, Einval) ∷ (eqb (count s) 0 && not (is_initialised s), Ebusy) ∷ []
set_checks Initialise a x s = (eqb a 0, Enxio) ∷ (is_initialised s || ltb 0 (vcpus s), Enodev) ∷ []
set_checks Unknown a x s = (false, Enxio) ∷ []

-- ---- what a call that goes by a register or a group answers

unfoldable pub system_value : SystemRegister → ℕ → List ℕ → ℕ
system_value (Both p) v s = plain_read by.Guest s v p
system_value (Read r) v s = system_read s v r
system_value (Write w) v s = 0
system_value Unnamed v s = 0

unfoldable pub get_value : AttributeGroup → ℕ → List ℕ → ℕ
get_value (Registers q) a s = item_read s (item q a s)
get_value Count a s = count s
get_value Initialise a s = 0
get_value Unknown a s = 0

-- ---- the state that a call leaves

-- just made: all zero
unfoldable pub made : List ℕ
made = replicate state_length 0

-- SGI edge flags, BPR0 2 and BPR1 3 from a vCPU's adding on
unfoldable pub vcpu_added : List ℕ → ℕ → ℕ → List ℕ
vcpu_added s n a = set (set (set (set (set s (sgi_edges_at n) edge_bits) (affinity_at n) a) (bpr_at n 0) (least_bpr 0)) (bpr_at n 1) (least_bpr 1)) vcpus_at (n + 1)

-- no change if done already; an unset count becomes 256
unfoldable pub initialised_next : List ℕ → List ℕ
initialised_next s = cond (is_initialised s) s (set (set s count_at (cond (eqb (count s) 0) 256 (count s))) initialised_at 1)

unfoldable pub system_read_state : SystemRegister → ℕ → List ℕ → List ℕ
system_read_state (Both p) v s = s
system_read_state (Read r) v s = system_read_next s v r
system_read_state (Write w) v s = s
system_read_state Unnamed v s = s

unfoldable pub system_write_state : SystemRegister → ℕ → ℕ → List ℕ → List ℕ
system_write_state (Both p) v x s = plain_write by.Guest s v p x
system_write_state (Read r) v x s = s
system_write_state (Write w) v x s = system_write s v w x
system_write_state Unnamed v x s = s

unfoldable pub set_state : AttributeGroup → ℕ → ℕ → List ℕ → List ℕ
set_state (Registers q) a x s = item_write s (item q a s) x
set_state Count a x s = set s count_at x
set_state Initialise a x s = initialised_next s
set_state Unknown a x s = s

-- ---- a call, described

-- a call made at some words, whatever they are
pub record Description : Type 0 where
  -- the words are what it asks of the state that it is lent: EFAULT if not, before all else
  pub acceptable : Bool
  -- what it is lent beside the state, the numbers of each buffer
  pub lent : List (List ℕ)
  -- its tests, in their order
  pub tests : List Check
  -- what it answers, the state and the buffers that it leaves, where no test fails; derived words are put in after it
  pub answer : ℕ
  pub state : List ℕ
  pub left : List (List ℕ)

-- lent a device alone, after its tests it answers a number
abbrev pub answers : List ℕ → List Check → ℕ → Description
answers s tests x = record { acceptable = sound s; lent = []; tests = tests; answer = x; state = s; left = [] }

-- lent a device alone, after its tests it answers 0 and leaves another state
abbrev pub leaves : List ℕ → List Check → List ℕ → Description
leaves s tests t = record { acceptable = sound s; lent = []; tests = tests; answer = 0; state = t; left = [] }

unfoldable pub describe : Call → List ℕ → Description
-- of words of any content, and the right length
describe make s = record { acceptable = eqb (length s) state_length; lent = []; tests = []; answer = 0; state = made; left = [] }
describe (add_vcpu a) s = leaves s ((not (is_initialised s), Ebusy) ∷ (is_affinity a, Einval) ∷ (unused s a (vcpus s), Eexist) ∷ (ltb (vcpus s) most_vcpus, Enomem) ∷ []) (vcpu_added s (vcpus s) a)
describe (set_running v on) s = leaves s (vcpu_checks Initialised v s) (set s (running_at v) (val on))
describe (change_line v id level) s = leaves s (phase Changing s ∷ (has_line s v id, Einval) ∷ []) (line_changed s v id level)
describe (query_signal v) s = answers s (vcpu_checks Initialised v s) (signal s v)
describe (read_distributor v off size) s = answers s (guest_checks Initialised v s) (guest_read s view.Distributor off size)
describe (write_distributor v off size x) s = leaves s (guest_checks Changing v s) (guest_write s view.Distributor off size x)
describe (read_frame v f off size) s = answers s (frame_checks Initialised v f s) (guest_read s (view.Frame f) off size)
describe (write_frame v f off size x) s = leaves s (frame_checks Changing v f s) (guest_write s (view.Frame f) off size x)
describe (read_system v e) s = record {
  acceptable = sound s;
  lent = [];
  tests = guest_checks (read_phase (system e)) v s ++ read_checks (system e) v s;
  answer = system_value (system e) v s;
  state = system_read_state (system e) v s;
  left = [];
}
describe (write_system v e x) s = leaves s (guest_checks Changing v s ++ write_checks (system e)) (system_write_state (system e) v x s)
describe (get_attribute g a) s = answers s (get_checks (group_of g) a s) (get_value (group_of g) a s)
describe (set_attribute g a x) s = leaves s (set_checks (group_of g) a x s) (set_state (group_of g) a x s)
describe (save buf) s = record {
  acceptable = sound s;
  lent = buf ∷ [];
  tests = phase Stopped s ∷ (leb (length (record_of s)) (length buf), Enospc) ∷ [];
  answer = length (record_of s);
  state = s;
  left = saved s buf ∷ [];
}
describe (restore bytes) s = record {
  acceptable = sound s;
  lent = bytes ∷ [];
  tests = phase Stopped s ∷ (fresh s, Eexist) ∷ faults (restored s bytes);
  answer = 0;
  state = loaded_state s (restored s bytes);
  left = bytes ∷ [];
}

-- its parts by name
abbrev pub acceptable : Call → List ℕ → Bool
acceptable c s = (describe c s).acceptable

abbrev pub lent_to : Call → List ℕ → List (List ℕ)
lent_to c s = (describe c s).lent

abbrev pub checks : Call → List ℕ → List Check
checks c s = (describe c s).tests

abbrev pub value : Call → List ℕ → ℕ
value c s = (describe c s).answer

abbrev pub next_core : Call → List ℕ → List ℕ
next_core c s = (describe c s).state

-- the next state has the words that are derived from the others put in
abbrev pub next : Call → List ℕ → List ℕ
next c s = with_derived (next_core c s)

abbrev pub filled : Call → List ℕ → List (List ℕ)
filled c s = (describe c s).left

-- ---- a call made

unfoldable pub refusal : Call → List ℕ → Refusal
refusal c s = elim (acceptable c s) [ true ↦ first_failing (checks c s) | false ↦ Err Efault ]

pub record Outcome : Type 0 where
  pub answer : ℤ
  pub state : List ℕ
  pub buffers : List (List ℕ)

-- a refused call changes nothing
unfoldable pub settle : Refusal → Call → List ℕ → Outcome
settle (Ok tt) c s = record { answer = number (Ok (value c s)); state = next c s; buffers = filled c s }
settle (Err e) c s = record { answer = number (Err e); state = s; buffers = lent_to c s }

unfoldable pub call : Call → List ℕ → Outcome
call c s = settle (refusal c s) c s

-- what save hands back: the filled front part of its buffer, which is empty where it is refused
unfoldable pub front_of : ℤ → List ℕ → List ℕ
front_of (pos n) b = take n b
front_of (negsuc n) b = []

unfoldable pub handed_back : Outcome → List ℕ
handed_back o = front_of o.answer (get_or o.buffers 0 [])

-- what a function promises: it answers the number, and leaves the words and the buffers, of an outcome
pub record Does (o : Outcome) (r : ℤ) (t : List ℕ) (bs : List (List ℕ)) : Type 0 where
  pub answer : r ≡ o.answer
  pub state : t ≡ o.state
  pub buffers : bs ≡ o.buffers

-- what save promises its caller: the number of its answer, the words, and the part of the buffer that it hands back
pub record Saves (o : Outcome) (r : ℤ) (t : List ℕ) (front : List ℕ) : Type 0 where
  pub answer : r ≡ o.answer
  pub state : t ≡ o.state
  pub front_part : front ≡ handed_back o

-- ---- lists of calls: each call gets the state that the last one left

unfoldable pub after : List Call → List ℕ → List ℕ
after [] s = s
after (c ∷ cs) s = after cs (call c s).state

unfoldable pub trace : List Call → List ℕ → List Outcome
trace [] s = []
trace (c ∷ cs) s = let o = call c s in o ∷ trace cs o.state
