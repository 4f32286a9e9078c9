-- The record as a table of parts, in the order of the record, and the values that each part has.
-- Proofs tie these to the entries of model's Record (proofs/Standing, proofs/Loading).
use Rattle.std.specs.Prelude.{ℕ, ◌+◌, ◌*◌, ◌-◌, ◌/◌, ◌%◌, ◌≤◌, Bool, true, false, cond, ◌&&◌, List, [], ◌∷◌, ◌++◌, ◌≡◌, eqb, ltb, leb, get_or, set, take, drop}
use Rattle.model.specs.Words.{each, spread}
use Rattle.model.specs.Values.{gicd_ctlr_fixed, gicd_ctlr_bits, icc_ctlr_fixed, icc_ctlr_bits, version, route_bits, statusr_bits, pmr_bits}
use Rattle.model.specs.Layout.{word, count, vcpus, initialised_at, count_at, enables_at, distributor_status_at, block, affinity_field, frame_status_field, pmr_field, ctlr_field, bpr_field, least_bpr, spi_bank, group_field, edge_field, route_at}
use Rattle.model.specs.Sound.{fits, block_bits, bank_bits, last_bank_bits}
use Rattle.model.specs.Record.{spi_words, spis, encode}
use Rattle.words.specs.Words.{collect}
use Rattle.record.specs.declared.table.Block.{Block}
use Rattle.record.specs.declared.table.Block.TheVariants.{Vcpu, Bank, LastBank}
use Rattle.record.specs.declared.table.Kind.{Kind}
use Rattle.record.specs.declared.table.Kind.TheVariants.{Exactly, SetUp, Within, Fields, Above, Edges}
use Rattle.record.specs.declared.table.Part.{Part}
use Rattle.record.specs.declared.shape.Shape.{Shape}

-- ---- the words that may be there, by the word f of a block: as in a sound state

unfoldable pub field_bits : Block → ℕ → ℕ
field_bits Vcpu f = get_or block_bits f 0
field_bits Bank f = get_or bank_bits f 0
field_bits LastBank f = get_or last_bank_bits f 0

-- BPR0 and BPR1 have a least value
unfoldable pub field_least : Block → ℕ → ℕ
field_least Vcpu f = cond (eqb f (bpr_field 0)) (least_bpr 0) (cond (eqb f (bpr_field 1)) (least_bpr 1) 0)
field_least Bank f = 0
field_least LastBank f = 0

-- ---- words as they are shown

unfoldable pub shown : Kind → ℕ → ℕ
shown (Exactly n) w = n
shown SetUp w = w
shown (Within m) w = w
shown (Fields b) w = w
shown (Above a m) w = a + w
shown (Edges b) w = spread w

-- the word that is shown as x
unfoldable pub hidden : Kind → ℕ → ℕ
hidden (Exactly n) x = x
hidden SetUp x = x
hidden (Within m) x = x
hidden (Fields b) x = x
hidden (Above a m) x = x - a
hidden (Edges b) x = collect x

-- the least word that may be there, which a fresh device has
unfoldable pub least_of : Kind → ℕ → ℕ
least_of (Exactly n) f = 0
least_of SetUp f = 0
least_of (Within m) f = 0
least_of (Fields b) f = field_least b f
least_of (Above a m) f = 0
least_of (Edges b) f = 0

-- the set-up fixes the number
unfoldable pub fixed : Kind → Bool
fixed (Exactly n) = true
fixed SetUp = true
fixed (Within m) = false
fixed (Fields b) = false
fixed (Above a m) = false
fixed (Edges b) = false

-- the word is shown as it is
unfoldable pub plain : Kind → Bool
plain (Exactly n) = false
plain SetUp = true
plain (Within m) = true
plain (Fields b) = true
plain (Above a m) = false
plain (Edges b) = false

-- ---- a value of the record: the place of a word, its kind, and which word of its block it is

pub data Slot : Type 0 where
  slot : ℕ → Kind → ℕ → Slot

unfoldable pub slot_read : List ℕ → Slot → ℕ
slot_read s (slot p k f) = shown k (word s p)

-- some device of the set-up of s shows x there
unfoldable pub takes : List ℕ → Slot → ℕ → Bool
takes s (slot p (Exactly n) f) x = eqb x n
takes s (slot p SetUp f) x = eqb x (word s p)
takes s (slot p (Within m) f) x = fits x m
takes s (slot p (Fields b) f) x = fits x (field_bits b f) && leb (field_least b f) x
takes s (slot p (Above a m) f) x = leb a x && fits (x - a) m
takes s (slot p (Edges b) f) x = eqb (spread (collect x)) x && fits (collect x) (field_bits b f)

-- of what the set-up fixes nothing is stored: the word w, and the word that is shown as x
unfoldable pub slot_set : List ℕ → Slot → ℕ → List ℕ
slot_set s (slot p k f) w = cond (fixed k) s (set s p w)

unfoldable pub slot_put : List ℕ → Slot → ℕ → List ℕ
slot_put s (slot p k f) x = cond (fixed k) s (set s p (hidden k x))

-- the fresh word in its place
unfoldable pub slot_clear : List ℕ → Slot → List ℕ
slot_clear s (slot p k f) = cond (fixed k) s (set s p (least_of k f))

unfoldable pub slot_bytes : List ℕ → List Slot → List ℕ
slot_bytes s [] = []
slot_bytes s (x ∷ xs) = encode (slot_read s x) ++ slot_bytes s xs

-- ---- the values of a part, and of parts one after the other

abbrev pub slot_at : Part → ℕ → Slot
slot_at p j = slot (p.base + p.first + j) p.kind (p.first + j)

abbrev pub slots_in : Part → List Slot
slots_in p = each (λ j. slot (p.base + p.first + j) p.kind (p.first + j) ∷ []) 0 p.len

unfoldable pub flat : List Part → List Slot
flat [] = []
flat (p ∷ ps) = slots_in p ++ flat ps

-- ---- the table, of a device of c interrupts and n vCPUs

abbrev pub row_of : ℕ → ℕ → ℕ → Kind → Part
row_of b f l k = record { base = b; first = f; len = l; kind = k }

-- no part
abbrev pub blank : Part
blank = row_of 0 0 0 SetUp

-- version; count and number of vCPUs; each affinity
unfoldable pub affinity_part : ℕ → Part
affinity_part v = row_of (block v) affinity_field 1 SetUp

abbrev pub header_part : ℕ → Part
header_part k = cond (eqb k 0) (row_of 0 initialised_at 1 (Exactly version)) (cond (eqb k 1) (row_of 0 count_at 2 SetUp) (affinity_part (k - 2)))

-- GICD CTLR, STATUSR
abbrev pub distributor_parts : List Part
distributor_parts = row_of 0 enables_at 1 (Above gicd_ctlr_fixed gicd_ctlr_bits) ∷ row_of 0 distributor_status_at 1 (Within statusr_bits) ∷ []

-- IGROUPR, ISENABLER, latch, ISACTIVER, lines, 8 IPRIORITYR; 2 ICFGR
abbrev pub bank_rows : ℕ → Block → List Part
bank_rows b block = row_of b group_field edge_field (Fields block) ∷ row_of b edge_field 2 (Edges block) ∷ []

unfoldable pub bank_parts : ℕ → List Part
bank_parts w = cond (eqb w 31) (bank_rows (spi_bank w) LastBank) (bank_rows (spi_bank w) Bank)

abbrev pub routes_part : ℕ → Part
routes_part c = row_of (route_at 32) 0 (spis c) (Within route_bits)

-- STATUSR; IGROUPR0, ISENABLER0, latch, ISACTIVER0, lines, 8 IPRIORITYR; PMR; CTLR; BPR0, BPR1, AP0R, AP1R, IGRPEN0, IGRPEN1
unfoldable pub vcpu_parts : ℕ → List Part
vcpu_parts v =
    row_of (block v) frame_status_field 1 (Within statusr_bits) ∷ row_of (block v) group_field edge_field (Fields Vcpu) ∷ row_of (block v) pmr_field 1 (Within pmr_bits)
    ∷ row_of (block v) ctlr_field 1 (Above icc_ctlr_fixed icc_ctlr_bits) ∷ row_of (block v) (bpr_field 0) 6 (Fields Vcpu) ∷ []

unfoldable pub parts : ℕ → ℕ → List Part
parts c n =
    header_part 0 ∷ header_part 1
    ∷ (each (λ v. affinity_part v ∷ []) 0 n ++ (distributor_parts ++ (each bank_parts 1 (spi_words c) ++ (routes_part c ∷ each vcpu_parts 0 n))))

abbrev pub slots : ℕ → ℕ → List Slot
slots c n = flat (parts c n)

-- of the device that has the shape h
abbrev pub table_of : Shape → List Part
table_of h = parts h.count h.vcpus

-- the parts after the distributor's, by their number
unfoldable pub interrupt_part : ℕ → ℕ → Part
interrupt_part c i =
    cond (ltb i (2 * spi_words c)) (get_or (bank_parts (1 + i / 2)) (i % 2) blank)
    (cond (eqb i (2 * spi_words c)) (routes_part c) (get_or (vcpu_parts ((i - (2 * spi_words c + 1)) / 5)) ((i - (2 * spi_words c + 1)) % 5) blank))

-- ---- what the functions of the table ask and answer

-- the shape of the device s
pub record ShapeOf (s : List ℕ) (h : Shape) : Type 0 where
  pub same_count : h.count ≡ count s
  pub same_vcpus : h.vcpus ≡ vcpus s

-- the words of a part
abbrev pub words_in : List ℕ → Part → List ℕ
words_in s p = take p.len (drop (p.base + p.first) s)

-- a part is within the words that may be used
pub record Inside (p : Part) : Type 0 where
  pub within : p.base + p.first + p.len ≤ 1756

-- ---- a place in the table: the values from word j of part k on
unfoldable pub left_at : List Part → ℕ → ℕ → List Slot
left_at ps k j = drop j (slots_in (get_or ps k blank)) ++ flat (drop (k + 1) ps)
