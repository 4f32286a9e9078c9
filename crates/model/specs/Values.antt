-- The numbers that definitions and code share, each by one name.
use Rattle.std.specs.Prelude.{ℕ}

-- ---- what a register reads beside the bits that it keeps, and those bits

-- GICD_IIDR and GICR_IIDR
abbrev pub iidr : ℕ
iidr = 0x01001000

-- GICD_CTLR: DS and ARE are set; the group enables are kept
abbrev pub gicd_ctlr_fixed : ℕ
gicd_ctlr_fixed = 0x50

abbrev pub gicd_ctlr_bits : ℕ
gicd_ctlr_bits = 3

-- GICD_TYPER without ITLinesNumber
abbrev pub gicd_typer_fixed : ℕ
gicd_typer_fixed = 0x02480000

-- ICC_CTLR_EL1: five priority bits are set; EOImode is kept
abbrev pub icc_ctlr_fixed : ℕ
icc_ctlr_fixed = 0x400

abbrev pub icc_ctlr_bits : ℕ
icc_ctlr_bits = 2

-- ICC_SRE_EL1
abbrev pub icc_sre : ℕ
icc_sre = 7

-- ---- interrupts

-- a rank is priority x id_span + ID: every ID is below it
abbrev pub id_span : ℕ
id_span = 1024

-- the ID that IAR and HPPIR give where there is no interrupt
abbrev pub spurious : ℕ
spurious = 1023

-- ---- the record

abbrev pub version : ℕ
version = 1

-- ---- the bits that a word of the state may have

-- 32 flags, and the same of the interrupts 992 to 1023, of which those from 1020 on do not exist
abbrev pub flag_bits : ℕ
flag_bits = 0xffffffff

abbrev pub last_flag_bits : ℕ
last_flag_bits = 0x0fffffff

-- the flags of PPIs, in the words where SGIs have none
abbrev pub ppi_bits : ℕ
ppi_bits = 0xffff0000

-- four priorities, each a multiple of 8
abbrev pub priority_bits : ℕ
priority_bits = 0xf8f8f8f8

-- sixteen edge flags, and the same of the interrupts 1008 to 1023
abbrev pub edge_bits : ℕ
edge_bits = 0xffff

abbrev pub last_edge_bits : ℕ
last_edge_bits = 0x0fff

-- a route: Aff2.Aff1.Aff0
abbrev pub route_bits : ℕ
route_bits = 0x00ffffff

-- a vCPU's affinity: Aff3 is 0 and Aff0 at most 15
abbrev pub affinity_bits : ℕ
affinity_bits = 0x00ffff0f

abbrev pub statusr_bits : ℕ
statusr_bits = 15

abbrev pub pmr_bits : ℕ
pmr_bits = 0xf8

abbrev pub bpr_bits : ℕ
bpr_bits = 7

abbrev pub apr_bits : ℕ
apr_bits = 0xffffffff

-- one flag: a vCPU's running mark, IGRPEN0, IGRPEN1
abbrev pub one_bit : ℕ
one_bit = 1
