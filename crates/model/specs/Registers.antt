-- Memory-mapped registers: the distributor's and the frames' tables, and what guest and attribute read and write there.
use Rattle.std.specs.Prelude.{ℕ, ◌+◌, ◌*◌, ◌-◌, ◌/◌, ◌%◌, ◌^◌, Bool, true, false, not, cond, ◌&&◌, ◌||◌, List, [], ◌∷◌, eqb, ltb, leb, set, Option, Some, None}
use Rattle.model.specs.Words.{bit, gather}
use Rattle.model.specs.Values.{iidr, gicd_ctlr_fixed, gicd_typer_fixed}
use Rattle.model.specs.Layout.{word, count, vcpus, enables_at, distributor_status_at, frame_status_at, affinity, bank, group_field, enabled_field, latch_field, active_field, line_field, priority_field, edge_field, route_at}
use Rattle.model.specs.Interrupts.{is_private, is_spi, flag, edge, priority, route, pending}
use Rattle.model.specs.declared.By.{By}
use Rattle.model.specs.declared.By.TheVariants.{Guest, Attribute}
use Rattle.model.specs.declared.View.{View}
use Rattle.model.specs.declared.View.TheVariants.{Distributor, Frame}
use Rattle.model.specs.declared.Flags.{Flags}
use Rattle.model.specs.declared.Flags.TheVariants.{Group, SetEnable, ClearEnable, SetPending, ClearPending, SetActive, ClearActive, Lines}
use Rattle.model.specs.declared.Shown.{Shown}
use Rattle.model.specs.declared.Shown.TheVariants.{Nothing, Flag, Pending}
use Rattle.model.specs.declared.Rule.{Rule}
use Rattle.model.specs.declared.Rule.TheVariants.{Ignores, Replaces, Sets, Clears}
use Rattle.model.specs.declared.Register.{Register}
use Rattle.model.specs.declared.Register.TheVariants.{Fixed, Control, Typer, Iidr, Status, Bits, Priority, Config, Route, FrameTyper, FrameAffinity}

-- ---- the tables: from the first word's offset to the last one's

pub record Row : Type 0 where
  pub first : ℕ
  pub last : ℕ
  pub register : Register

abbrev pub row : ℕ → ℕ → Register → Row
row f l r = record { first = f; last = l; register = r }

abbrev pub distributor_rows : List Row
distributor_rows =
    row 0x0 0x0 Control
    ∷ row 0x4 0x4 Typer
    ∷ row 0x8 0x8 Iidr
    ∷ row 0x10 0x10 Status
    ∷ row 0x80 0xfc (Bits Group)
    ∷ row 0x100 0x17c (Bits SetEnable)
    ∷ row 0x180 0x1fc (Bits ClearEnable)
    ∷ row 0x200 0x27c (Bits SetPending)
    ∷ row 0x280 0x2fc (Bits ClearPending)
    ∷ row 0x300 0x37c (Bits SetActive)
    ∷ row 0x380 0x3fc (Bits ClearActive)
    ∷ row 0x400 0x7fc Priority
    ∷ row 0xc00 0xcfc Config
    ∷ row 0x6100 0x7fdc Route
    ∷ []

-- CTLR and WAKER are zero words; ICFGR is read-only
abbrev pub frame_rows : List Row
frame_rows =
    row 0x0 0x0 (Fixed 0)
    ∷ row 0x4 0x4 Iidr
    ∷ row 0x8 0x8 FrameTyper
    ∷ row 0xc 0xc FrameAffinity
    ∷ row 0x10 0x10 Status
    ∷ row 0x14 0x14 (Fixed 0)
    ∷ row 0x10080 0x10080 (Bits Group)
    ∷ row 0x10100 0x10100 (Bits SetEnable)
    ∷ row 0x10180 0x10180 (Bits ClearEnable)
    ∷ row 0x10200 0x10200 (Bits SetPending)
    ∷ row 0x10280 0x10280 (Bits ClearPending)
    ∷ row 0x10300 0x10300 (Bits SetActive)
    ∷ row 0x10380 0x10380 (Bits ClearActive)
    ∷ row 0x10400 0x1041c Priority
    ∷ row 0x10c00 0x10c00 (Fixed 0xaaaaaaaa)
    ∷ row 0x10c04 0x10c04 (Fixed 0)
    ∷ []

-- an offset lies in a row: in one of the four bytes of one of its words
unfoldable pub in_row : Row → ℕ → Bool
in_row r off = leb r.first off && ltb off (r.last + 4)

-- what an offset decodes to: a register and the number of its word, or nothing
abbrev pub Decoded : Type 0
Decoded = Option (Register × ℕ)

-- the register at an offset, and the number of the word there, counted from the row's first
unfoldable pub decode : List Row → ℕ → Decoded
decode [] off = None
decode (r ∷ rs) off = elim (in_row r off) [ true ↦ Some (r.register, ((off - r.first) / 4)) | false ↦ decode rs off ]

unfoldable pub rows : View → List Row
rows Distributor = distributor_rows
rows (Frame v) = frame_rows

-- how many banks of 32 interrupts a view has, and how many words of a register: IROUTER has two for each ID from 32 to 1019
unfoldable pub banks : View → ℕ
banks Distributor = 32
banks (Frame v) = 1

unfoldable pub words_of : View → Register → ℕ
words_of x (Fixed c) = 1
words_of x Control = 1
words_of x Typer = 1
words_of x Iidr = 1
words_of x Status = 1
words_of x (Bits f) = banks x
words_of x Priority = 8 * banks x
words_of x Config = 2 * banks x
words_of x Route = 1976
words_of x FrameTyper = 1
words_of x FrameAffinity = 1

-- ---- the registers with a bit for each of 32 interrupts

-- where the flag stands in the bank, the least ID that has it, and what guest and attribute read and write of it
pub record FlagRow : Type 0 where
  pub field : ℕ
  pub from : ℕ
  pub guest_shows : Shown
  pub guest_rule : Rule
  pub attribute_shows : Shown
  pub attribute_rule : Rule

abbrev pub flag_row : ℕ → ℕ → Shown → Rule → Shown → Rule → FlagRow
flag_row k f gs gr hs hr = record { field = k; from = f; guest_shows = gs; guest_rule = gr; attribute_shows = hs; attribute_rule = hr }

unfoldable pub flags : Flags → FlagRow
flags Group = flag_row group_field 0 Flag Replaces Flag Replaces
flags SetEnable = flag_row enabled_field 0 Flag Sets Flag Sets
flags ClearEnable = flag_row enabled_field 0 Flag Clears Flag Clears
flags SetPending = flag_row latch_field 0 Pending Sets Flag Replaces
flags ClearPending = flag_row latch_field 0 Pending Clears Nothing Ignores
flags SetActive = flag_row active_field 0 Flag Sets Flag Sets
flags ClearActive = flag_row active_field 0 Flag Clears Flag Clears
flags Lines = flag_row line_field 16 Nothing Ignores Flag Replaces

-- what a row shows to guest or attribute, and the rule of what they write
unfoldable pub shown_to : By → FlagRow → Shown
shown_to Guest r = r.guest_shows
shown_to Attribute r = r.attribute_shows

unfoldable pub rule_for : By → FlagRow → Rule
rule_for Guest r = r.guest_rule
rule_for Attribute r = r.attribute_rule

-- what is shown of an interrupt's flag in word k of the bank
unfoldable pub shows : Shown → ℕ → List ℕ → ℕ → ℕ → Bool
shows Nothing k s v id = false
shows Flag k s v id = flag k s v id
shows Pending k s v id = pending s v id

-- a flag after the bit b is written to it
unfoldable pub flag_after : Rule → Bool → Bool → Bool
flag_after Ignores old b = old
flag_after Replaces old b = b
flag_after Sets old b = old || b
flag_after Clears old b = old && not b

-- ---- which interrupts a view has: in the distributor IDs below 32 and absent IDs read 0 and ignore writes
unfoldable pub has : List ℕ → View → ℕ → Bool
has s Distributor id = is_spi s id
has s (Frame v) id = is_private id

-- the vCPU whose private interrupts a view has; SPIs are the same to all
unfoldable pub seen_by : View → ℕ
seen_by Distributor = 0
seen_by (Frame v) = v

-- ---- reading word k of a register

unfoldable pub read_flags : List ℕ → View → ℕ → ℕ → Shown → ℕ → ℕ
read_flags s x field from sh k = gather 32 (λ i. has s x (32 * k + i) && leb from (32 * k + i) && shows sh field s (seen_by x) (32 * k + i))

-- four interrupts, a byte each
unfoldable pub read_priority : List ℕ → View → ℕ → ℕ
read_priority s x k = gather 32 (λ i. has s x (4 * k + i / 8) && bit (priority s (seen_by x) (4 * k + i / 8)) (i % 8))

-- sixteen interrupts, two bits each: upper 1 = edge, lower reads 0
unfoldable pub read_config : List ℕ → View → ℕ → ℕ
read_config s x k = gather 32 (λ i. eqb (i % 2) 1 && has s x (16 * k + i / 2) && edge s (seen_by x) (16 * k + i / 2))

-- two words for each interrupt from 32 on: the route, and a high word that is zero
unfoldable pub read_route : List ℕ → View → ℕ → ℕ
read_route s x k = cond (eqb (k % 2) 0 && has s x (32 + k / 2)) (route s (32 + k / 2)) 0

unfoldable pub status_at : View → ℕ
status_at Distributor = distributor_status_at
status_at (Frame v) = frame_status_at v

-- index x 256, + 16 for the last vCPU
unfoldable pub frame_typer : List ℕ → ℕ → ℕ
frame_typer s v = v * 256 + cond (eqb (v + 1) (vcpus s)) 16 0

unfoldable pub read : By → List ℕ → View → Register → ℕ → ℕ
read by s x (Fixed c) k = c
read by s x Control k = gicd_ctlr_fixed + word s enables_at
read by s x Typer k = gicd_typer_fixed + count s / 32 - 1
read by s x Iidr k = iidr
read by s x Status k = word s (status_at x)
read by s x (Bits f) k = read_flags s x (flags f).field (flags f).from (shown_to by (flags f)) k
read by s x Priority k = read_priority s x k
read by s x Config k = read_config s x k
read by s x Route k = read_route s x k
read by s x FrameTyper k = frame_typer s (seen_by x)
read by s x FrameAffinity k = affinity s (seen_by x)

-- ---- writing word k of a register

unfoldable pub write_flags : List ℕ → View → ℕ → ℕ → Rule → ℕ → ℕ → List ℕ
write_flags s x field from rule k value =
    set s (bank (seen_by x) k + field)
    (gather 32 (λ i. cond (has s x (32 * k + i) && leb from (32 * k + i))
    (flag_after rule (flag field s (seen_by x) (32 * k + i)) (bit value i)) (flag field s (seen_by x) (32 * k + i))))

-- the bytes of the value that `meant` names are written, their low 3 bits dropped
unfoldable pub write_priority : List ℕ → View → (ℕ → Bool) → ℕ → ℕ → List ℕ
write_priority s x meant k value =
    set s (bank (seen_by x) (k / 8) + priority_field + k % 8)
    (gather 32 (λ i. cond (meant (i / 8) && has s x (4 * k + i / 8))
    (leb 3 (i % 8) && bit value i) (bit (priority s (seen_by x) (4 * k + i / 8)) (i % 8))))

-- the upper bit of each two is the edge flag; latch and line are kept
unfoldable pub write_config : List ℕ → View → ℕ → ℕ → List ℕ
write_config s x k value =
    set s (bank (seen_by x) (k / 2) + edge_field + k % 2)
    (gather 16 (λ i. cond (has s x (16 * k + i)) (bit value (2 * i + 1)) (edge s (seen_by x) (16 * k + i))))

-- bits 23-0 of the low word are kept
unfoldable pub write_route : List ℕ → View → ℕ → ℕ → List ℕ
write_route s x k value = cond (eqb (k % 2) 0 && has s x (32 + k / 2)) (set s (route_at (32 + k / 2)) (value % 2 ^ 24)) s

-- a guest's ones clear; an attribute stores bits 3-0
unfoldable pub written_status : By → ℕ → ℕ → ℕ
written_status Guest old value = gather 4 (λ i. bit old i && not (bit value i))
written_status Attribute old value = value % 16

unfoldable pub write : By → List ℕ → View → Register → ℕ → ℕ → List ℕ
write by s x (Fixed c) k value = s
write by s x Control k value = set s enables_at (value % 4)
write by s x Typer k value = s
write by s x Iidr k value = s
write by s x Status k value = set s (status_at x) (written_status by (word s (status_at x)) value)
write by s x (Bits f) k value = write_flags s x (flags f).field (flags f).from (rule_for by (flags f)) k value
write by s x Priority k value = write_priority s x (λ j. true) k value
write by s x Config k value = write_config s x k value
write by s x Route k value = write_route s x k value
write by s x FrameTyper k value = s
write by s x FrameAffinity k value = s

-- ---- a guest's access: 4 bytes aligned, or 1 byte in IPRIORITYR; all else reads 0 and ignores writes

-- what an access reaches of a word: all four bytes, one, or none
pub data Access : Type 0 where
  whole one none : Access

unfoldable pub access : ℕ → ℕ → Access
access off size = cond (eqb size 4 && eqb (off % 4) 0) whole (cond (eqb size 1) one none)

-- IPRIORITYR alone takes one byte
unfoldable pub by_byte : Register → Bool
by_byte (Fixed c) = false
by_byte Control = false
by_byte Typer = false
by_byte Iidr = false
by_byte Status = false
by_byte (Bits f) = false
by_byte Priority = true
by_byte Config = false
by_byte Route = false
by_byte FrameTyper = false
by_byte FrameAffinity = false

-- j is the byte of the word that the offset names
unfoldable pub read_access : Access → List ℕ → View → Decoded → ℕ → ℕ
read_access none s x d j = 0
read_access whole s x None j = 0
read_access whole s x (Some (r, k)) j = read Guest s x r k
read_access one s x None j = 0
read_access one s x (Some (r, k)) j = cond (by_byte r) (read Guest s x r k / 2 ^ (8 * j) % 256) 0

-- a write uses the low bits of its size
unfoldable pub write_access : Access → List ℕ → View → Decoded → ℕ → ℕ → List ℕ
write_access none s x d j value = s
write_access whole s x None j value = s
write_access whole s x (Some (r, k)) j value = write Guest s x r k (value % 2 ^ 32)
write_access one s x None j value = s
write_access one s x (Some (r, k)) j value = cond (by_byte r) (write_priority s x (λ i. eqb i j) k (value % 256 * 2 ^ (8 * j))) s

unfoldable pub guest_read : List ℕ → View → ℕ → ℕ → ℕ
guest_read s x off size = read_access (access off size) s x (decode (rows x) off) (off % 4)

unfoldable pub guest_write : List ℕ → View → ℕ → ℕ → ℕ → List ℕ
guest_write s x off size value = write_access (access off size) s x (decode (rows x) off) (off % 4) value
