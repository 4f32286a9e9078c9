-- Rules of document 01 that are easily read otherwise, as more tables of worked rows. Each table has one start, which its rows share.
use Prim.Native.Nat.{ℕ}
use mathlib.Core.Path.{◌≡◌, refl}
use mathlib.Core.Bool.{true, false}
use mathlib.Core.List.{List, [], ◌∷◌, ◌++◌}
use lib.IntN.{pos}
use lib.ListN.{replicate}
use Rattle.model.specs.Calls.{Call, make, add_vcpu, change_line, query_signal, read_distributor, write_distributor, read_frame, write_frame, write_system, get_attribute, set_attribute, save, restore, after}
use Rattle.model.proofs.Rows.{Row, answer, fills, keeps, unmet}
use Rattle.model.proofs.Worked.{irqs, init, run, stop, dr, dw, sr, sw, no, ok, device, ready, three, fresh_record, busy_record}

-- ---- short names for what the rows ask

-- a word of vCPU 0's own frame
abbrev fr : ℕ → Call
fr off = read_frame 0 0 off 4

abbrev fw : ℕ → ℕ → Call
fw off x = write_frame 0 0 off 4 x

abbrev sig : Call
sig = query_signal 0

abbrev get : ℕ → ℕ → Call
get g a = get_attribute g a

abbrev set : ℕ → ℕ → ℕ → Call
set g a x = set_attribute g a x

-- ISPENDR of frame f, read by vCPU 1
abbrev pends : ℕ → Call
pends f = read_frame 1 f 0x10200 4

-- a device of n interrupts and one vCPU, of affinity 0, that does not run
abbrev halted : ℕ → List Call
halted n = make ∷ irqs n ∷ add_vcpu 0 ∷ init ∷ []

-- ---- on a device of 64 interrupts and one vCPU that runs

-- one byte of IPRIORITYR, in the distributor and in a frame: bits 7-0 of the value, the low 3 dropped; the other three bytes stay
abbrev bytes : List Row
bytes =
    answer (dw 0x420 0x08101820 ∷ write_distributor 0 0x421 1 0xffffffa7 ∷ dr 0x420 ∷ read_distributor 0 0x421 1 ∷ read_distributor 0 0x422 1
    ∷ fw 0x1041c 0x08101820 ∷ write_frame 0 0 0x1041f 1 0xffffffa7 ∷ fr 0x1041c ∷ read_frame 0 0 0x1041f 1 ∷ read_frame 0 0 0x1041c 1 ∷ [])
    (ok ∷ ok ∷ pos 0x0810a020 ∷ pos 0xa0 ∷ pos 0x10
    ∷ ok ∷ ok ∷ pos 0xa0101820 ∷ pos 0xa0 ∷ pos 0x20 ∷ [])
    -- one byte after IPRIORITYR or in another register, sizes 0, 2 and 8, four bytes not aligned: read 0 and ignore writes
    ∷ answer (dw 0x420 0xa0a0a0a0 ∷ dw 0x104 0x1 ∷ read_distributor 0 0x800 1 ∷ read_frame 0 0 0x10420 1 ∷ read_distributor 0 0x104 1
    ∷ read_distributor 0 0x420 0 ∷ read_distributor 0 0x420 2 ∷ read_distributor 0 0x420 8 ∷ read_distributor 0 0x421 4 ∷ read_distributor 0 0x6 4
    ∷ write_distributor 0 0x104 1 0xff ∷ write_distributor 0 0x420 0 0 ∷ write_distributor 0 0x420 2 0 ∷ write_distributor 0 0x420 8 0
    ∷ write_distributor 0 0x421 4 0 ∷ dr 0x420 ∷ dr 0x104 ∷ [])
    (ok ∷ ok ∷ pos 0 ∷ pos 0 ∷ pos 0
    ∷ pos 0 ∷ pos 0 ∷ pos 0 ∷ pos 0 ∷ pos 0
    ∷ ok ∷ ok ∷ ok ∷ ok
    ∷ ok ∷ pos 0xa0a0a0a0 ∷ pos 0x1 ∷ [])
    ∷ keeps [] (write_distributor 0 0x800 1 0xa0)
    ∷ keeps [] (write_frame 0 0 0x10420 1 0xa0)
    ∷ []

-- a memory-mapped offset that is not listed is never 6; encodings are whole numbers: 0x1C660 is 6
abbrev unlisted : List Row
unlisted =
    answer (dr 0xc ∷ dw 0xc 1 ∷ dr 0x60f8 ∷ fr 0x18 ∷ fw 0x18 1 ∷ sr 0x1c660 ∷ sw 0x1c661 0 ∷ [])
    (pos 0 ∷ ok ∷ pos 0 ∷ pos 0 ∷ ok ∷ no 6 ∷ no 6 ∷ [])
    -- ICFGR of a frame is read-only
    ∷ answer (fr 0x10c00 ∷ fr 0x10c04 ∷ fw 0x10c00 0 ∷ fw 0x10c04 0xffffffff ∷ fr 0x10c00 ∷ fr 0x10c04 ∷ [])
    (pos 0xaaaaaaaa ∷ pos 0 ∷ ok ∷ ok ∷ pos 0xaaaaaaaa ∷ pos 0 ∷ [])
    ∷ keeps [] (fw 0x10c04 0xffffffff)
    ∷ []

-- a guest writes bit 1 of CTLR only, and nothing of SRE
abbrev control : List Row
control =
    answer (sr 0xc664 ∷ sw 0xc664 0xffffffffffffffff ∷ sr 0xc664 ∷ sw 0xc664 0xfffffffffffffffd ∷ sr 0xc664 ∷ sr 0xc665 ∷ [])
    (pos 0x400 ∷ ok ∷ pos 0x402 ∷ ok ∷ pos 0x400 ∷ pos 7 ∷ [])
    ∷ keeps [] (sw 0xc665 0)
    -- BPR0 is raised to 2 and BPR1 to 3; PMR keeps bits 7-3, IGRPEN bit 0
    ∷ answer (sw 0xc643 0 ∷ sr 0xc643 ∷ sw 0xc643 1 ∷ sr 0xc643 ∷ sw 0xc643 2 ∷ sr 0xc643 ∷ sw 0xc643 3 ∷ sr 0xc643
    ∷ sw 0xc643 4 ∷ sr 0xc643 ∷ sw 0xc643 5 ∷ sr 0xc643 ∷ sw 0xc643 6 ∷ sr 0xc643 ∷ sw 0xc643 7 ∷ sr 0xc643
    ∷ sw 0xc663 0 ∷ sr 0xc663 ∷ sw 0xc663 1 ∷ sr 0xc663 ∷ sw 0xc663 2 ∷ sr 0xc663 ∷ sw 0xc663 3 ∷ sr 0xc663
    ∷ sw 0xc663 4 ∷ sr 0xc663 ∷ sw 0xc663 5 ∷ sr 0xc663 ∷ sw 0xc663 6 ∷ sr 0xc663 ∷ sw 0xc663 7 ∷ sr 0xc663
    ∷ sw 0xc230 0xff ∷ sr 0xc230 ∷ sw 0xc666 3 ∷ sr 0xc666 ∷ sw 0xc667 3 ∷ sr 0xc667 ∷ [])
    (ok ∷ pos 2 ∷ ok ∷ pos 2 ∷ ok ∷ pos 2 ∷ ok ∷ pos 3
    ∷ ok ∷ pos 4 ∷ ok ∷ pos 5 ∷ ok ∷ pos 6 ∷ ok ∷ pos 7
    ∷ ok ∷ pos 3 ∷ ok ∷ pos 3 ∷ ok ∷ pos 3 ∷ ok ∷ pos 3
    ∷ ok ∷ pos 4 ∷ ok ∷ pos 5 ∷ ok ∷ pos 6 ∷ ok ∷ pos 7
    ∷ ok ∷ pos 0xf8 ∷ ok ∷ pos 1 ∷ ok ∷ pos 1 ∷ [])
    -- both AP registers have the running level: each EOIR clears its own
    ∷ answer (sw 0xc644 0x00300000 ∷ sw 0xc648 0x00100000 ∷ sr 0xc65b ∷ sw 0xc641 39 ∷ sr 0xc644 ∷ sr 0xc648
    ∷ sw 0xc661 39 ∷ sr 0xc644 ∷ sr 0xc648 ∷ sr 0xc65b ∷ [])
    (ok ∷ ok ∷ pos 0xa0 ∷ ok ∷ pos 0x00200000 ∷ pos 0x00100000
    ∷ ok ∷ pos 0x00200000 ∷ pos 0 ∷ pos 0xa8 ∷ [])
    ∷ []

-- an SPI line ignores the index; an SGI or an absent ID is 22 whatever the index; a PPI line needs its vCPU
abbrev line_changes : List Row
line_changes =
    answer (change_line 99 39 true ∷ dr 0x204 ∷ change_line 0 15 true ∷ change_line 99 15 true ∷ change_line 0 64 true
    ∷ change_line 99 64 true ∷ change_line 1 16 true ∷ change_line 0 16 true ∷ fr 0x10200 ∷ [])
    (ok ∷ pos 0x80 ∷ no 22 ∷ no 22 ∷ no 22
    ∷ no 22 ∷ no 22 ∷ ok ∷ pos 0x10000 ∷ [])
    -- clearing the edge flag while the line is high makes it pending at once
    ∷ answer (dw 0xc08 0x8000 ∷ change_line 0 39 true ∷ dw 0x284 0x80 ∷ dr 0x204 ∷ dw 0xc08 0 ∷ dr 0x204 ∷ [])
    (ok ∷ ok ∷ ok ∷ pos 0 ∷ ok ∷ pos 0x80 ∷ [])
    ∷ []

-- an unknown group is 6; a bad number or an unknown affinity 22; then 16, before an unknown register; lines from 32 on ignore the affinity
abbrev attributes_while_running : List Row
attributes_while_running =
    answer (get 2 0 ∷ set 2 0 0 ∷ get 7 1024 ∷ get 7 33 ∷ get 5 0x100000010 ∷ get 6 0x10000c230 ∷ get 7 0x100000000
    ∷ get 7 0x100000020 ∷ get 1 0xc ∷ get 5 0x18 ∷ get 6 0xc640 ∷ [])
    (no 6 ∷ no 6 ∷ no 22 ∷ no 22 ∷ no 22 ∷ no 22 ∷ no 22
    ∷ no 16 ∷ no 16 ∷ no 16 ∷ no 16 ∷ [])
    ∷ []

-- IROUTER keeps bits 23-0, its high word nothing
abbrev routes : List Row
routes =
    answer (dw 0x6138 0xff123456 ∷ dr 0x6138 ∷ dw 0x6138 0x80000000 ∷ dr 0x6138 ∷ dw 0x613c 1 ∷ dr 0x613c ∷ [])
    (ok ∷ pos 0x123456 ∷ ok ∷ pos 0 ∷ ok ∷ pos 0 ∷ [])
    ∷ []

-- initialise a second time answers 0 and changes nothing
abbrev initialised_again : List Row
initialised_again =
    answer (init ∷ [])
    (ok ∷ [])
    ∷ keeps (dw 0x0 3 ∷ []) init
    ∷ []

pub on_running : List Row
on_running = bytes ++ (unlisted ++ (control ++ (line_changes ++ (attributes_while_running ++ (routes ++ initialised_again)))))

pub on-running-met : unmet (after (device 64) (replicate 1760 7)) 1 on_running ≡ 0
unfolding unmet on_running
on-running-met = refl

-- ---- the same, with SPIs 39 and 40 of group 1 enabled, of priorities 0xA0 and 0x98, and PMR 0xF8

-- DIR in EOImode 0 does nothing
abbrev eoi_mode : List Row
eoi_mode =
    answer (dw 0x204 0x80 ∷ sr 0xc660 ∷ sw 0xc659 39 ∷ sr 0xc648 ∷ dr 0x304 ∷ [])
    (ok ∷ pos 39 ∷ ok ∷ pos 0x00100000 ∷ pos 0x80 ∷ [])
    -- in EOImode 1 EOIR drops the priority and leaves the interrupt active; DIR makes it inactive
    ∷ answer (sw 0xc664 2 ∷ dw 0x204 0x80 ∷ sr 0xc660 ∷ sr 0xc65b ∷ sw 0xc661 39 ∷ sr 0xc65b ∷ dr 0x304 ∷ sw 0xc659 39 ∷ dr 0x304 ∷ [])
    (ok ∷ ok ∷ pos 39 ∷ pos 0xa0 ∷ ok ∷ pos 255 ∷ pos 0x80 ∷ ok ∷ pos 0 ∷ [])
    ∷ []

-- EOIR of an ID that does not exist does nothing; bits above 23 are ignored
abbrev endings : List Row
endings =
    answer (dw 0x204 0x80 ∷ sr 0xc660 ∷ sw 0xc661 64 ∷ sw 0xc661 1023 ∷ sw 0xc661 0x800027 ∷ sr 0xc648 ∷ dr 0x304
    ∷ sw 0xc661 0xff000027 ∷ sr 0xc648 ∷ dr 0x304 ∷ [])
    (ok ∷ pos 39 ∷ ok ∷ ok ∷ ok ∷ pos 0x00100000 ∷ pos 0x80
    ∷ ok ∷ pos 0 ∷ pos 0 ∷ [])
    -- EOIR of an existing, inactive ID drops the priority all the same
    ∷ answer (dw 0x204 0x80 ∷ sr 0xc660 ∷ sw 0xc661 40 ∷ sr 0xc648 ∷ dr 0x304 ∷ [])
    (ok ∷ pos 39 ∷ ok ∷ pos 0 ∷ pos 0x80 ∷ [])
    ∷ []

-- the best is over both groups: SPI 39 of group 0 and priority 0x90 hides SPI 40 of group 1 and priority 0x98
abbrev best_of_both : List Row
best_of_both =
    answer (dw 0 3 ∷ sw 0xc666 1 ∷ dw 0x84 0x100 ∷ dw 0x424 0x90000000 ∷ dw 0x204 0x180
    ∷ sr 0xc660 ∷ sr 0xc662 ∷ sr 0xc642 ∷ sig ∷ sr 0xc640 ∷ sr 0xc644 ∷ sr 0xc662 ∷ sig ∷ [])
    (ok ∷ ok ∷ ok ∷ ok ∷ ok
    ∷ pos 1023 ∷ pos 1023 ∷ pos 39 ∷ pos 2 ∷ pos 39 ∷ pos 0x00040000 ∷ pos 40 ∷ pos 0 ∷ [])
    -- of two equal priorities the least ID: SPI 39 of group 1 hides SPI 40 of group 0
    ∷ answer (dw 0 3 ∷ sw 0xc666 1 ∷ dw 0x84 0x80 ∷ dw 0x424 0x98000000 ∷ dw 0x204 0x180 ∷ sr 0xc640 ∷ sr 0xc642 ∷ sig ∷ [])
    (ok ∷ ok ∷ ok ∷ ok ∷ ok ∷ pos 1023 ∷ pos 1023 ∷ pos 1 ∷ [])
    -- PMR 0xFF is kept as 0xF8, so that priority 248 is never given; HPPIR ignores PMR; RPR is 255 when idle
    ∷ answer (sw 0xc230 0xff ∷ dw 0x424 0xff000000 ∷ dw 0x204 0x80 ∷ sr 0xc660 ∷ sig ∷ sr 0xc65b ∷ sr 0xc662 ∷ [])
    (ok ∷ ok ∷ ok ∷ pos 1023 ∷ pos 0 ∷ pos 255 ∷ pos 39 ∷ [])
    -- the signal query answers for a stopped vCPU as for a running one
    ∷ answer (dw 0x204 0x80 ∷ sig ∷ stop ∷ sig ∷ [])
    (ok ∷ pos 1 ∷ ok ∷ pos 1 ∷ [])
    -- an SPI routed to an affinity that nobody has is no candidate
    ∷ answer (dw 0x204 0x80 ∷ dw 0x6138 1 ∷ sig ∷ sr 0xc662 ∷ dw 0x6138 0x80000000 ∷ sig ∷ [])
    (ok ∷ ok ∷ pos 0 ∷ pos 1023 ∷ ok ∷ pos 1 ∷ [])
    ∷ []

pub on_ready : List Row
on_ready = eoi_mode ++ (endings ++ best_of_both)

pub on-ready-met : unmet (after (device 64 ++ ready 0xf8 3) (replicate 1760 7)) 1 on_ready ≡ 0
unfolding unmet on_ready
on-ready-met = refl

-- ---- on a device of 64 interrupts and one vCPU that does not run

-- a missing vCPU or frame is 22 before 1, and 1 comes before 6
abbrev guest_order : List Row
guest_order =
    answer (read_frame 0 1 0x4 4 ∷ read_frame 1 0 0x4 4 ∷ dr 0x4 ∷ fr 0x4 ∷ sr 0xc641 ∷ run ∷ sr 0xc641 ∷ [])
    (no 22 ∷ no 22 ∷ no 1 ∷ no 1 ∷ no 1 ∷ ok ∷ no 6 ∷ [])
    ∷ []

-- an unknown register is 6, also with a bad value; group 1 ignores bits 63-32
abbrev attribute_order : List Row
attribute_order =
    answer (get 1 0xc ∷ get 5 0x18 ∷ get 6 0xc640 ∷ get 6 0x1c230 ∷ set 1 0xc 0x100000000 ∷ get 1 0x100000004 ∷ [])
    (no 6 ∷ no 6 ∷ no 6 ∷ no 6 ∷ no 6 ∷ pos 0x02480001 ∷ [])
    -- above 2^32 - 1 is 22 in groups 1, 5 and 7, also where writes are ignored: ICPENDR, a high word of IROUTER, WAKER, absent lines
    ∷ answer (set 1 0x284 0x100000000 ∷ set 1 0x6104 0x100000000 ∷ set 5 0x14 0x100000000 ∷ set 7 64 0x100000000 ∷ set 1 0x284 0xffffffff
    ∷ set 5 0x14 0xffffffff ∷ [])
    (no 22 ∷ no 22 ∷ no 22 ∷ no 22 ∷ ok ∷ ok ∷ [])
    -- group 6 takes the value and keeps the register's bits: PMR 2^32 + 0xA8
    ∷ answer (set 6 0xc230 0x1000000a8 ∷ get 6 0xc230 ∷ [])
    (ok ∷ pos 0xa8 ∷ [])
    -- CTLR takes 0x400 and 0x402, SRE 7, of all 64 bits
    ∷ answer (set 6 0xc664 0x402 ∷ get 6 0xc664 ∷ set 6 0xc664 0x401 ∷ set 6 0xc664 0x100000400 ∷ set 6 0xc664 0x400 ∷ get 6 0xc664
    ∷ set 6 0xc665 7 ∷ set 6 0xc665 6 ∷ set 6 0xc665 0x100000007 ∷ [])
    (ok ∷ pos 0x402 ∷ no 22 ∷ no 22 ∷ ok ∷ pos 0x400
    ∷ ok ∷ no 22 ∷ no 22 ∷ [])
    ∷ []

-- words exist also where their IDs are below 32 or absent: IGROUPR 0x80 and 0x88, ICFGR 0xC00, IROUTER of SPI 64 and a high word, lines 64
abbrev attribute_words : List Row
attribute_words =
    answer (set 1 0x80 0xffffffff ∷ get 1 0x80 ∷ set 1 0x88 0xffffffff ∷ get 1 0x88 ∷ set 1 0xc00 0xffffffff ∷ get 1 0xc00
    ∷ set 1 0x6200 1 ∷ get 1 0x6200 ∷ set 1 0x6104 1 ∷ get 1 0x6104 ∷ set 7 64 0xffffffff ∷ get 7 64 ∷ [])
    (ok ∷ pos 0 ∷ ok ∷ pos 0 ∷ ok ∷ pos 0
    ∷ ok ∷ pos 0 ∷ ok ∷ pos 0 ∷ ok ∷ pos 0 ∷ [])
    ∷ keeps [] (set 1 0x80 0xffffffff)
    ∷ keeps [] (set 1 0x88 0xffffffff)
    ∷ keeps [] (set 1 0xc00 0xffffffff)
    ∷ keeps [] (set 1 0x6200 1)
    ∷ keeps [] (set 1 0x6104 1)
    ∷ keeps [] (set 7 64 0xffffffff)
    -- IROUTER of an ID below 32 or from 1020 on, and an offset that is not aligned, are unknown
    ∷ answer (get 1 0x60fc ∷ get 1 0x7fe0 ∷ get 1 0x81 ∷ [])
    (no 6 ∷ no 6 ∷ no 6 ∷ [])
    -- ISENABLER and ISACTIVER set and ICENABLER and ICACTIVER clear where the bit is 1
    ∷ answer (set 1 0x104 0x80 ∷ set 1 0x104 0x100 ∷ get 1 0x104 ∷ set 1 0x184 0x80 ∷ get 1 0x184
    ∷ set 1 0x304 0x80 ∷ set 1 0x304 0x100 ∷ get 1 0x304 ∷ set 1 0x384 0x80 ∷ get 1 0x384 ∷ [])
    (ok ∷ ok ∷ pos 0x180 ∷ ok ∷ pos 0x100
    ∷ ok ∷ ok ∷ pos 0x180 ∷ ok ∷ pos 0x100 ∷ [])
    -- ISPENDR replaces; ICPENDR reads 0 and ignores writes
    ∷ answer (set 1 0x204 0x80 ∷ set 1 0x204 0x100 ∷ get 1 0x204 ∷ set 1 0x284 0x100 ∷ get 1 0x204 ∷ get 1 0x284 ∷ [])
    (ok ∷ ok ∷ pos 0x100 ∷ ok ∷ pos 0x100 ∷ pos 0 ∷ [])
    -- STATUSR: an attribute stores bits 3-0, a guest's ones clear
    ∷ answer (set 1 0x10 0xff ∷ get 1 0x10 ∷ set 5 0x10 0xff ∷ get 5 0x10 ∷ run ∷ dw 0x10 0x5 ∷ dr 0x10 ∷ fr 0x10 ∷ fw 0x10 0x5 ∷ fr 0x10 ∷ [])
    (ok ∷ pos 0xf ∷ ok ∷ pos 0xf ∷ ok ∷ ok ∷ pos 0xa ∷ pos 0xf ∷ ok ∷ pos 0xa ∷ [])
    -- a frame's IIDR refuses another value; GICD CTLR takes any 32 bits and keeps two
    ∷ answer (set 5 0x4 0 ∷ set 5 0x4 0x01001000 ∷ get 5 0x4 ∷ set 1 0x0 0xffffffff ∷ get 1 0x0 ∷ [])
    (no 22 ∷ ok ∷ pos 0x01001000 ∷ ok ∷ pos 0x53 ∷ [])
    -- latch and line are kept when the edge flag changes, both ways
    ∷ answer (set 1 0x204 0x80 ∷ set 7 32 0x180 ∷ set 1 0xc08 0x28000 ∷ get 1 0xc08 ∷ get 1 0x204 ∷ get 7 32
    ∷ set 1 0xc08 0 ∷ get 1 0xc08 ∷ get 1 0x204 ∷ get 7 32 ∷ [])
    (ok ∷ ok ∷ ok ∷ pos 0x28000 ∷ pos 0x80 ∷ pos 0x180
    ∷ ok ∷ pos 0 ∷ pos 0x80 ∷ pos 0x180 ∷ [])
    ∷ []

-- a line raised and lowered again leaves a fresh device fresh
abbrev records : List Row
records =
    answer (change_line 0 39 true ∷ restore [] ∷ change_line 0 39 false ∷ restore fresh_record ∷ [])
    (ok ∷ no 17 ∷ ok ∷ ok ∷ [])
    -- a number above 2^32 - 1 is 74, and so is one not in its shortest form; 2^32 - 1 is a number, and no version
    ∷ answer (restore (0xff ∷ 0xff ∷ 0xff ∷ 0xff ∷ 0x10 ∷ []) ∷ restore (0x01 ∷ 0xc0 ∷ 0x00 ∷ 0x02 ∷ [])
    ∷ restore (0xff ∷ 0xff ∷ 0xff ∷ 0xff ∷ 0x0f ∷ []) ∷ [])
    (no 74 ∷ no 74 ∷ no 22 ∷ [])
    -- a byte after the record of a busy device is 74 and leaves every word
    ∷ answer (restore (busy_record ++ (0 ∷ [])) ∷ [])
    (no 74 ∷ [])
    ∷ keeps [] (restore (busy_record ++ (0 ∷ [])))
    -- save of a longer buffer: the rest keeps its bytes; too short a buffer keeps all of them
    ∷ fills [] (save (replicate 80 7)) (fresh_record ++ replicate 4 7)
    ∷ fills [] (save (replicate 75 7)) (replicate 75 7)
    ∷ []

pub on_stopped : List Row
on_stopped = guest_order ++ (attribute_order ++ (attribute_words ++ records))

pub on-stopped-met : unmet (after (halted 64) (replicate 1760 7)) 1 on_stopped ≡ 0
unfolding unmet on_stopped
on-stopped-met = refl

-- ---- on three vCPUs of affinities 0, 1 and 0x100; the second runs

-- SGI0R latches only where the SGI is in group 0: not at vCPU 0, whose SGI 3 is in group 1
abbrev sgis : List Row
sgis =
    answer (write_frame 1 0 0x10080 4 8 ∷ write_system 1 0xc65f 0x03000003 ∷ pends 0 ∷ pends 1 ∷ pends 2
    ∷ write_system 1 0xc65f 0x10003000000 ∷ pends 0 ∷ pends 1 ∷ pends 2 ∷ [])
    (ok ∷ ok ∷ pos 0 ∷ pos 8 ∷ pos 0
    ∷ ok ∷ pos 0 ∷ pos 8 ∷ pos 8 ∷ [])
    -- Aff3 not 0 matches nobody without bit 40
    ∷ keeps [] (write_system 1 0xc65d 0x1000003000003)
    ∷ answer (write_system 1 0xc65d 0x1010003000000 ∷ pends 0 ∷ pends 1 ∷ pends 2 ∷ [])
    (ok ∷ pos 8 ∷ pos 0 ∷ pos 8 ∷ [])
    -- bits 47-44 are ignored; bits 23-16 are Aff1
    ∷ answer (write_system 1 0xc65d 0xf00003000003 ∷ pends 0 ∷ pends 1 ∷ pends 2 ∷ write_system 1 0xc65d 0x05010001 ∷ pends 0 ∷ pends 1 ∷ pends 2 ∷ [])
    (ok ∷ pos 8 ∷ pos 8 ∷ pos 0 ∷ ok ∷ pos 8 ∷ pos 8 ∷ pos 0x20 ∷ [])
    ∷ []

-- offsets of a frame from 0x20000 on read 0 and ignore writes
abbrev frames : List Row
frames =
    answer (read_frame 1 0 0x20008 4 ∷ read_frame 1 0 0x2000c 4 ∷ read_frame 1 0 0x30c00 4 ∷ [])
    (pos 0 ∷ pos 0 ∷ pos 0 ∷ [])
    ∷ keeps [] (write_frame 1 0 0x30080 4 0xffffffff)
    -- TYPER: index x 256, + 16 for the last vCPU, and the affinity
    ∷ answer (read_frame 1 0 0x8 4 ∷ read_frame 1 2 0x8 4 ∷ read_frame 1 0 0xc 4 ∷ read_frame 1 2 0xc 4 ∷ [])
    (pos 0 ∷ pos 0x210 ∷ pos 0 ∷ pos 0x100 ∷ [])
    ∷ []

pub on_three : List Row
on_three = sgis ++ frames

pub on-three-met : unmet (after three (replicate 1760 7)) 1 on_three ≡ 0
unfolding unmet on_three
on-three-met = refl

-- ---- on 1,760 words of 7, which are no device

-- with eight vCPUs a bad affinity is 22, one in use 17, any other 12
abbrev vcpus : List Row
vcpus =
    answer (make ∷ add_vcpu 0 ∷ add_vcpu 1 ∷ add_vcpu 2 ∷ add_vcpu 3 ∷ add_vcpu 4 ∷ add_vcpu 5 ∷ add_vcpu 6 ∷ add_vcpu 7
    ∷ add_vcpu 0x10 ∷ add_vcpu 0x1000000 ∷ add_vcpu 3 ∷ add_vcpu 8 ∷ [])
    (ok ∷ ok ∷ ok ∷ ok ∷ ok ∷ ok ∷ ok ∷ ok ∷ ok
    ∷ no 22 ∷ no 22 ∷ no 17 ∷ no 12 ∷ [])
    ∷ []

-- initialise with no vCPU and no count is 19 and leaves the count unset; an unset count becomes 256
abbrev initialising : List Row
initialising =
    answer (make ∷ init ∷ get 3 0 ∷ add_vcpu 0 ∷ init ∷ get 3 0 ∷ [])
    (ok ∷ no 19 ∷ pos 0 ∷ ok ∷ ok ∷ pos 256 ∷ [])
    ∷ keeps (make ∷ []) init
    -- the count is given in every phase; a bad count is 22 before 16
    ∷ answer (make ∷ get 3 0 ∷ irqs 96 ∷ get 3 5 ∷ irqs 64 ∷ irqs 32 ∷ add_vcpu 0 ∷ init ∷ get 3 0 ∷ run ∷ get 3 0 ∷ irqs 64 ∷ irqs 32 ∷ [])
    (ok ∷ pos 0 ∷ ok ∷ pos 96 ∷ no 16 ∷ no 22 ∷ ok ∷ ok ∷ pos 96 ∷ ok ∷ pos 96 ∷ no 16 ∷ no 22 ∷ [])
    -- attributes before initialising: 22 for the number or the affinity, then 16, before an unknown register
    ∷ answer (make ∷ get 2 0 ∷ get 7 33 ∷ get 5 0x10 ∷ get 1 0xc ∷ add_vcpu 0 ∷ get 5 0x18 ∷ [])
    (ok ∷ no 6 ∷ no 22 ∷ no 22 ∷ no 16 ∷ ok ∷ no 16 ∷ [])
    ∷ []

-- a record's affinities in another order are 22; in their own order the next number is read, and it is missing
abbrev affinity_order : List Row
affinity_order =
    answer (make ∷ irqs 64 ∷ add_vcpu 0 ∷ add_vcpu 1 ∷ init ∷ restore (0x01 ∷ 0x40 ∷ 0x02 ∷ 0x01 ∷ 0x00 ∷ [])
    ∷ restore (0x01 ∷ 0x40 ∷ 0x02 ∷ 0x00 ∷ 0x01 ∷ []) ∷ [])
    (ok ∷ ok ∷ ok ∷ ok ∷ ok ∷ no 22 ∷ no 74 ∷ [])
    ∷ []

pub on_no_device : List Row
on_no_device = vcpus ++ (initialising ++ affinity_order)

pub on-no-device-met : unmet (replicate 1760 7) 1 on_no_device ≡ 0
unfolding unmet on_no_device
on-no-device-met = refl

-- ---- on a state of wrong length: making a device is refused and changes nothing

abbrev wrong_length : List Row
wrong_length =
    answer (make ∷ []) (no 14 ∷ [])
    ∷ keeps [] make
    ∷ []

pub too_short : unmet (replicate 1759 7) 1 wrong_length ≡ 0
unfolding unmet
too_short = refl

pub too_long : unmet (replicate 1761 7) 1 wrong_length ≡ 0
unfolding unmet
too_long = refl
