-- Where each field stands in the lent state: 1,760 words of 32 bits.
--     0            initialised (0 or 1)
--     1            interrupt count (0: unset)
--     2            number of vCPUs
--     3            GICD group enables (bits 0 and 1)
--     4            GICD STATUSR
--     5 - 15       zero
--     16 + 32 v    block of vCPU v, v below 8: the bank of its SGIs and PPIs, then + 16 affinity, + 17 running, + 18 STATUSR, + 19 PMR,
--                  + 20 ICC CTLR's bits (EOImode is bit 1), + 21 BPR0, + 22 BPR1, + 23 AP0R, + 24 AP1R, + 25 IGRPEN0, + 26 IGRPEN1, the rest zero
--     256 + 16 w   bank of the SPIs 32 w to 32 w + 31, w from 1 to 31
--     736 + id     route of the SPI id, from 32 to 1019
--     1756 - 1759  zero
-- A bank is 16 words for 32 interrupts: + 0 group, + 1 enabled, + 2 latch, + 3 active, + 4 line (a bit each), + 5 to + 12 priorities (a byte each),
-- + 13 edge flags of the first 16, + 14 of the last 16, + 15 zero.
use Rattle.std.specs.Prelude.{ℕ, zero, suc, ◌+◌, ◌*◌, Bool, List, eqb, get_or}

abbrev pub state_length : ℕ
state_length = 1760

abbrev pub most_vcpus : ℕ
most_vcpus = 8

abbrev pub word : List ℕ → ℕ → ℕ
word s at = get_or s at 0

-- ---- the device
abbrev pub initialised_at : ℕ
initialised_at = 0

abbrev pub count_at : ℕ
count_at = 1

abbrev pub vcpus_at : ℕ
vcpus_at = 2

abbrev pub initialised : List ℕ → ℕ
initialised s = word s initialised_at

abbrev pub is_initialised : List ℕ → Bool
is_initialised s = eqb (initialised s) 1

abbrev pub count : List ℕ → ℕ
count s = word s count_at

abbrev pub vcpus : List ℕ → ℕ
vcpus s = word s vcpus_at

-- the places of the distributor's group enables and of its STATUSR
abbrev pub enables_at : ℕ
enables_at = 3

abbrev pub distributor_status_at : ℕ
distributor_status_at = 4

-- ---- the block of vCPU v
abbrev pub block : ℕ → ℕ
block v = 16 + 32 * v

-- the words of a block after its bank, from the block's first on; a number g is the interrupt group
abbrev pub affinity_field : ℕ
affinity_field = 16

abbrev pub running_field : ℕ
running_field = 17

abbrev pub frame_status_field : ℕ
frame_status_field = 18

abbrev pub pmr_field : ℕ
pmr_field = 19

abbrev pub ctlr_field : ℕ
ctlr_field = 20

abbrev pub bpr_field : ℕ → ℕ
bpr_field g = 21 + g

abbrev pub apr_field : ℕ → ℕ
apr_field g = 23 + g

abbrev pub igrpen_field : ℕ → ℕ
igrpen_field g = 25 + g

abbrev pub affinity_at : ℕ → ℕ
affinity_at v = block v + affinity_field

abbrev pub affinity : List ℕ → ℕ → ℕ
affinity s v = word s (affinity_at v)

abbrev pub running_at : ℕ → ℕ
running_at v = block v + running_field

abbrev pub running : List ℕ → ℕ → ℕ
running s v = word s (running_at v)

-- the places of its other words
abbrev pub frame_status_at : ℕ → ℕ
frame_status_at v = block v + frame_status_field

abbrev pub pmr_at : ℕ → ℕ
pmr_at v = block v + pmr_field

abbrev pub ctlr_at : ℕ → ℕ
ctlr_at v = block v + ctlr_field

abbrev pub bpr_at : ℕ → ℕ → ℕ
bpr_at v g = block v + bpr_field g

-- BPR0's least value is 2, BPR1's 3; they are the fresh values too
abbrev pub least_bpr : ℕ → ℕ
least_bpr g = 2 + g

abbrev pub apr_at : ℕ → ℕ → ℕ
apr_at v g = block v + apr_field g

abbrev pub igrpen_at : ℕ → ℕ → ℕ
igrpen_at v g = block v + igrpen_field g

-- ---- the bank of the interrupts 32 w to 32 w + 31

-- of SPIs, w from 1 on
abbrev pub spi_bank : ℕ → ℕ
spi_bank w = 256 + 16 * w

-- as vCPU v sees it
abbrev pub bank : ℕ → ℕ → ℕ
bank v zero = block v
bank v (suc w) = spi_bank (suc w)

-- the words of a bank, from its first on
abbrev pub group_field : ℕ
group_field = 0

abbrev pub enabled_field : ℕ
enabled_field = 1

abbrev pub latch_field : ℕ
latch_field = 2

abbrev pub active_field : ℕ
active_field = 3

abbrev pub line_field : ℕ
line_field = 4

abbrev pub priority_field : ℕ
priority_field = 5

abbrev pub edge_field : ℕ
edge_field = 13

-- the edge flags of a vCPU's SGIs
abbrev pub sgi_edges_at : ℕ → ℕ
sgi_edges_at v = block v + edge_field

-- the place of the route of an SPI
abbrev pub route_at : ℕ → ℕ
route_at id = 736 + id
