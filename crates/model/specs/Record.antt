-- The record: seven-bit numbers, the listed attributes in order, save, restore.
use Rattle.std.specs.Prelude.{ℕ, zero, suc, ◌+◌, ◌*◌, ◌-◌, ◌/◌, ◌%◌, ◌^◌, Bool, true, false, cond, ◌&&◌, List, [], ◌∷◌, ◌++◌, map, eqb, ltb, length, drop}
use Rattle.model.specs.Values.{version}
use Rattle.model.specs.Words.{each}
use Rattle.model.specs.Layout.{count, vcpus, affinity}
use Rattle.model.specs.Interrupts.{ids_below}
use Rattle.model.specs.Attributes.{Attribute, attr, item_of, item_read, item_write, takes}
use Rattle.model.specs.Refusals.{Check}
use Rattle.model.specs.declared.Errno.{Errno}
use Rattle.model.specs.declared.Errno.TheVariants.{Einval, Ebadmsg}

-- ---- numbers in seven-bit groups, lowest first, high bit meaning more, shortest form, at most 2^32 - 1

-- the groups of n, at most k + 1 of them
unfoldable pub groups_of : ℕ → ℕ → List ℕ
groups_of zero n = n ∷ []
groups_of (suc k) n = elim (ltb n 128) [ true ↦ n ∷ [] | false ↦ (n % 128 + 128) ∷ groups_of k (n / 128) ]

-- a number below 2^32 has at most five
unfoldable pub encode : ℕ → List ℕ
encode n = groups_of 4 n

-- what stands at the front of some bytes: a number and the bytes after it, or no number
pub data Number : Type 0 where
  decoded : ℕ → List ℕ → Number
  broken : Number

-- the byte b, and more after it: what follows is not 0, or the form were not the shortest, and the whole is at most 2^32 - 1
unfoldable pub more : ℕ → Number → Number
more b broken = broken
more b (decoded v r) = cond (ltb 0 v && ltb (b - 128 + 128 * v) (2 ^ 32)) (decoded (b - 128 + 128 * v) r) broken

-- a number of at most k groups
unfoldable pub read_groups : ℕ → List ℕ → Number
read_groups k [] = broken
read_groups zero (b ∷ r) = broken
read_groups (suc k) (b ∷ r) = elim (ltb b 128) [ true ↦ decoded b r | false ↦ more b (read_groups k r) ]

unfoldable pub decode_number : List ℕ → Number
decode_number bytes = read_groups 5 bytes

-- ---- the listed attributes of a device, in the record's order

abbrev pub spi_words : ℕ → ℕ
spi_words c = c / 32 - 1

abbrev pub spis : ℕ → ℕ
spis c = ids_below c - 32

-- bits 63-32 of an attribute of vCPU v
abbrev pub of_vcpu : List ℕ → ℕ → ℕ → ℕ
of_vcpu s v a = affinity s v * 2 ^ 32 + a

-- IGROUPR, ISENABLER, latch, ISACTIVER, lines, 8 IPRIORITYR, 2 ICFGR of SPI word w
unfoldable pub of_spi_word : ℕ → List Attribute
of_spi_word w =
    attr 1 (0x80 + 4 * w) ∷ attr 1 (0x100 + 4 * w) ∷ attr 1 (0x200 + 4 * w) ∷ attr 1 (0x300 + 4 * w) ∷ attr 7 (32 * w)
    ∷ (each (λ j. attr 1 (0x400 + 32 * w + 4 * j) ∷ []) 0 8 ++ each (λ j. attr 1 (0xc00 + 8 * w + 4 * j) ∷ []) 0 2)

unfoldable pub of_route : ℕ → List Attribute
of_route id = attr 1 (0x6000 + 8 * id) ∷ []

-- STATUSR, IGROUPR0, ISENABLER0, latch, ISACTIVER0, lines, 8 IPRIORITYR, PMR, CTLR, BPR0, BPR1, AP0R, AP1R, IGRPEN0, IGRPEN1 of vCPU v
unfoldable pub of_vcpu_block : List ℕ → ℕ → List Attribute
of_vcpu_block s v =
    attr 5 (of_vcpu s v 0x10) ∷ attr 5 (of_vcpu s v 0x10080) ∷ attr 5 (of_vcpu s v 0x10100) ∷ attr 5 (of_vcpu s v 0x10200)
    ∷ attr 5 (of_vcpu s v 0x10300) ∷ attr 7 (of_vcpu s v 0)
    ∷ (each (λ j. attr 5 (of_vcpu s v (0x10400 + 4 * j)) ∷ []) 0 8
    ++ (attr 6 (of_vcpu s v 0xc230) ∷ attr 6 (of_vcpu s v 0xc664) ∷ attr 6 (of_vcpu s v 0xc643) ∷ attr 6 (of_vcpu s v 0xc663)
    ∷ attr 6 (of_vcpu s v 0xc644) ∷ attr 6 (of_vcpu s v 0xc648) ∷ attr 6 (of_vcpu s v 0xc666) ∷ attr 6 (of_vcpu s v 0xc667) ∷ []))

-- GICD CTLR, STATUSR; per SPI word; each SPI's route; per vCPU
unfoldable pub listed : List ℕ → List Attribute
listed s =
    attr 1 0x0 ∷ attr 1 0x10
    ∷ (each of_spi_word 1 (spi_words (count s)) ++ (each of_route 32 (spis (count s)) ++ each (of_vcpu_block s) 0 (vcpus s)))

-- ---- the values of the record

-- a number that the set-up fixes, or a listed attribute
pub data Entry : Type 0 where
  header : ℕ → Entry
  attribute_of : Attribute → Entry

-- version, count, vCPUs, each affinity, then the listed attributes
unfoldable pub entries : List ℕ → List Entry
entries s =
    header version ∷ header (count s) ∷ header (vcpus s)
    ∷ (each (λ v. header (affinity s v) ∷ []) 0 (vcpus s) ++ map attribute_of (listed s))

-- values as attributes read
unfoldable pub entry_read : List ℕ → Entry → ℕ
entry_read s (header x) = x
entry_read s (attribute_of a) = item_read s (item_of a s)

unfoldable pub entry_bytes : List ℕ → List Entry → List ℕ
entry_bytes s [] = []
entry_bytes s (e ∷ es) = encode (entry_read s e) ++ entry_bytes s es

unfoldable pub record_of : List ℕ → List ℕ
record_of s = entry_bytes s (entries s)

-- ---- save: the filled front part; the rest keeps its bytes
unfoldable pub saved : List ℕ → List ℕ → List ℕ
saved s buf = let r = record_of s in r ++ drop (length r) buf

-- ---- restore

-- Some device of the target's count and affinities reads v there: for the header, v is the target's own number; for an attribute, a put of v to the
-- target is taken and reads back as v (proved in proofs/ReadsBack, `readable-exactly`: so it is exactly where some such device reads v).
unfoldable pub readable : List ℕ → Entry → ℕ → Bool
readable t (header x) v = eqb v x
readable t (attribute_of a) v = let i = item_of a t in takes i v && eqb (item_read (item_write t i v) i) v

unfoldable pub entry_put : List ℕ → Entry → ℕ → List ℕ
entry_put s (header x) v = s
entry_put s (attribute_of a) v = item_write s (item_of a s) v

pub data Loaded : Type 0 where
  done : List ℕ → Loaded
  fault : Errno → Loaded

-- a number is taken, or the record is broken
unfoldable pub taking : Number → (ℕ → List ℕ → Loaded) → Loaded
taking broken f = fault Ebadmsg
taking (decoded v r) f = f v r

-- each number is read or faulted before the next; bytes that follow the last are a fault. t is the target, s what was put into it so far
unfoldable pub load : List ℕ → List Entry → List ℕ → List ℕ → Loaded
load t [] [] s = done s
load t [] (b ∷ bytes) s = fault Ebadmsg
load t (e ∷ es) bytes s = taking (decode_number bytes) (λ v r. elim (readable t e v) [ true ↦ load t es r (entry_put s e v) | false ↦ fault Einval ])

unfoldable pub restored : List ℕ → List ℕ → Loaded
restored t bytes = load t (entries t) bytes t

unfoldable pub faults : Loaded → List Check
faults (done s) = []
faults (fault e) = (false, e) ∷ []

unfoldable pub loaded_state : List ℕ → Loaded → List ℕ
loaded_state t (done s) = s
loaded_state t (fault e) = t
