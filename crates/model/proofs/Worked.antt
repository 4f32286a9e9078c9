-- The worked examples of document 01 as one table, computed through `call` from 1,760 words of 7, which are no device.
use Prim.Native.Nat.{ℕ, ◌-◌, ◌^◌}
use mathlib.Core.Path.{◌≡◌, refl}
use mathlib.Core.Bool.{true, false}
use mathlib.Core.List.{List, [], ◌∷◌, ◌++◌}
use lib.IntN.{ℤ, pos, negsuc}
use lib.ListN.{replicate, take}
use Rattle.model.specs.Record.{groups_of, encode}
use Rattle.model.specs.Calls.{Call, make, add_vcpu, set_running, change_line, query_signal, read_distributor, write_distributor, read_frame, read_system, write_system, get_attribute, set_attribute, save, restore}
use Rattle.model.proofs.Rows.{Row, hands, keeps, same, unmet, answer}

-- ---- short names for what the rows ask

abbrev pub irqs : ℕ → Call
irqs n = set_attribute 3 0 n

abbrev pub init : Call
init = set_attribute 4 0 0

abbrev pub run : Call
run = set_running 0 true

abbrev pub stop : Call
stop = set_running 0 false

abbrev pub dr : ℕ → Call
dr off = read_distributor 0 off 4

abbrev pub dw : ℕ → ℕ → Call
dw off x = write_distributor 0 off 4 x

abbrev pub sr : ℕ → Call
sr e = read_system 0 e

abbrev pub sw : ℕ → ℕ → Call
sw e x = write_system 0 e x

-- -e
abbrev pub no : ℕ → ℤ
no e = negsuc (e - 1)

abbrev pub ok : ℤ
ok = pos 0

-- a device of n interrupts and one vCPU, of affinity 0, that runs
abbrev pub device : ℕ → List Call
device n = make ∷ irqs n ∷ add_vcpu 0 ∷ init ∷ run ∷ []

abbrev device_ok : List ℤ
device_ok = ok ∷ ok ∷ ok ∷ ok ∷ ok ∷ []

-- group 1 enabled, PMR and BPR1 given; SPIs 39 and 40 in group 1, enabled, of priorities 0xA0 and 0x98
abbrev pub ready : ℕ → ℕ → List Call
ready pmr bpr1 =
    dw 0 2 ∷ sw 0xc667 1 ∷ sw 0xc230 pmr ∷ sw 0xc663 bpr1
    ∷ dw 0x84 0x180 ∷ dw 0x104 0x180 ∷ dw 0x424 0xa0000000 ∷ dw 0x428 0x98 ∷ []

abbrev ready_ok : List ℤ
ready_ok = ok ∷ ok ∷ ok ∷ ok ∷ ok ∷ ok ∷ ok ∷ ok ∷ []

-- three vCPUs of affinities 0, 1 and 0x100; the second runs
abbrev pub three : List Call
three = make ∷ irqs 64 ∷ add_vcpu 0 ∷ add_vcpu 1 ∷ add_vcpu 0x100 ∷ init ∷ set_running 1 true ∷ []

-- ---- the table

abbrev p1 : List Row
p1 =
    answer (make ∷ irqs 32 ∷ irqs 100 ∷ irqs 1056 ∷ irqs 64 ∷ []) (ok ∷ no 22 ∷ no 22 ∷ no 22 ∷ ok ∷ [])
    ∷ answer (make ∷ irqs 1024 ∷ get_attribute 3 0 ∷ []) (ok ∷ ok ∷ pos 1024 ∷ [])
    ∷ []

abbrev p2 : List Row
p2 =
    answer (device 64 ++ (dr 4 ∷ [])) (device_ok ++ (pos 0x02480001 ∷ []))
    ∷ answer (device 1024 ++ (dr 4 ∷ [])) (device_ok ++ (pos 0x0248001f ∷ []))
    ∷ []

-- level SPI 39, line 1, latch 0: guest ISPENDR bit 1, attribute 0; ICPENDR leaves it pending
abbrev p3 : List Row
p3 =
    answer (device 64 ++ (change_line 0 39 true ∷ dr 0x204 ∷ dw 0x284 0x80 ∷ dr 0x204 ∷ dr 0x284 ∷ stop ∷ get_attribute 1 0x204 ∷ get_attribute 1 0x284 ∷ get_attribute 7 32 ∷ []))
    (device_ok ++ (ok ∷ pos 0x80 ∷ ok ∷ pos 0x80 ∷ pos 0x80 ∷ ok ∷ ok ∷ ok ∷ pos 0x80 ∷ []))
    ∷ []

-- priority 0xA0: PMR 0xA0 gives 1023, 0xA8 gives the ID and AP1R 0x00100000; the line is high, so it stays pending and is given again after its end
abbrev p4 : List Row
p4 =
    answer (device 64 ++ (ready 0xa0 3 ++ (change_line 0 39 true ∷ sr 0xc660 ∷ sr 0xc662 ∷ []))) (device_ok ++ (ready_ok ++ (ok ∷ pos 1023 ∷ pos 39 ∷ [])))
    ∷ answer (device 64 ++ (ready 0xa8 3 ++ (change_line 0 39 true ∷ sr 0xc660 ∷ sr 0xc648 ∷ sr 0xc644 ∷ dr 0x304 ∷ dr 0x204 ∷ sw 0xc661 39 ∷ sr 0xc660 ∷ [])))
    (device_ok ++ (ready_ok ++ (ok ∷ pos 39 ∷ pos 0x00100000 ∷ ok ∷ pos 0x80 ∷ pos 0x80 ∷ ok ∷ pos 39 ∷ [])))
    ∷ []

-- 0xA0 acknowledged, then 0x98 pending: BPR1 3 or 5 preempts, 6 does not
abbrev p5 : ℕ → ℤ → Row
p5 bpr1 id =
    answer (device 64 ++ (ready 0xf8 bpr1 ++ (dw 0x204 0x80 ∷ sr 0xc660 ∷ dw 0x204 0x100 ∷ sr 0xc660 ∷ [])))
    (device_ok ++ (ready_ok ++ (ok ∷ pos 39 ∷ ok ∷ id ∷ [])))

-- EOIR0 while only AP1R has bits: no change; EOIR1 ends it
abbrev p6 : List Row
p6 =
    keeps (device 64 ++ (ready 0xf8 3 ++ (dw 0x204 0x80 ∷ sr 0xc660 ∷ []))) (sw 0xc641 39)
    ∷ answer (device 64 ++ (ready 0xf8 3 ++ (dw 0x204 0x80 ∷ sr 0xc660 ∷ sw 0xc641 39 ∷ sr 0xc648 ∷ sw 0xc661 39 ∷ sr 0xc648 ∷ dr 0x304 ∷ [])))
    (device_ok ++ (ready_ok ++ (ok ∷ pos 39 ∷ ok ∷ pos 0x00100000 ∷ ok ∷ ok ∷ ok ∷ [])))
    ∷ []

-- 1024 is 80 08, 2^32 - 1 is FF FF FF FF 0F; 80 00 is -74
abbrev p7 : List Row
p7 =
    same (encode 1024) (0x80 ∷ 0x08 ∷ [])
    ∷ same (encode (2 ^ 32 - 1)) (0xff ∷ 0xff ∷ 0xff ∷ 0xff ∷ 0x0f ∷ [])
    ∷ answer (device 64 ++ (stop ∷ restore (0x80 ∷ 0x00 ∷ []) ∷ [])) (device_ok ++ (ok ∷ no 74 ∷ []))
    ∷ []

-- SGI1R 0x03000003 latches SGI 3 at affinities 0 and 1, the writer too; 0x10003000000 at all others
abbrev p8 : List Row
p8 =
    answer (three ++ (write_system 1 0xc65d 0x03000003 ∷ read_frame 1 0 0x10200 4 ∷ read_frame 1 1 0x10200 4 ∷ read_frame 1 2 0x10200 4 ∷ []))
    (ok ∷ ok ∷ ok ∷ ok ∷ ok ∷ ok ∷ ok ∷ ok ∷ pos 8 ∷ pos 8 ∷ ok ∷ [])
    ∷ answer (three ++ (write_system 1 0xc65d 0x10003000000 ∷ read_frame 1 0 0x10200 4 ∷ read_frame 1 1 0x10200 4 ∷ read_frame 1 2 0x10200 4 ∷ []))
    (ok ∷ ok ∷ ok ∷ ok ∷ ok ∷ ok ∷ ok ∷ ok ∷ pos 8 ∷ ok ∷ pos 8 ∷ [])
    ∷ []

-- fresh, count 64, one vCPU 0: 76 bytes; a buffer of 75 is too short, and the rest of a longer one is not handed back
abbrev pub fresh_record : List ℕ
fresh_record = 0x01 ∷ 0x40 ∷ 0x01 ∷ 0x00 ∷ 0x50 ∷ 0x00 ∷ (replicate 61 0 ++ (0x00 ∷ 0x80 ∷ 0x08 ∷ 0x02 ∷ 0x03 ∷ 0x00 ∷ 0x00 ∷ 0x00 ∷ 0x00 ∷ []))

abbrev record76 : List Row
record76 =
    hands (device 64 ++ (stop ∷ [])) (save (replicate 80 7)) fresh_record
    ∷ answer (device 64 ++ (save [] ∷ stop ∷ save (replicate 75 7) ∷ save (replicate 76 7) ∷ restore fresh_record ∷ restore (fresh_record ++ (0 ∷ [])) ∷ []))
    (device_ok ++ (no 16 ∷ ok ∷ no 28 ∷ pos 76 ∷ ok ∷ no 74 ∷ []))
    ∷ keeps (device 64 ++ (stop ∷ [])) (restore fresh_record)
    ∷ []

-- document 01's session of twenty lines, after make
abbrev session_calls : List Call
session_calls =
    make ∷ irqs 0x40 ∷ add_vcpu 0 ∷ init ∷ run ∷ sr 0xc660 ∷ dw 0 2 ∷ dw 0x84 0x80 ∷ dw 0x424 0xa0000000 ∷ dw 0x104 0x80 ∷ sw 0xc667 1
    ∷ sw 0xc230 0xa8 ∷ change_line 0 0x27 true ∷ query_signal 0 ∷ sr 0xc660 ∷ dr 0x204 ∷ sr 0xc65b ∷ sw 0xc661 0x27 ∷ query_signal 0
    ∷ change_line 0 0x27 false ∷ query_signal 0 ∷ []

abbrev session : List Row
session =
    answer session_calls
    (ok ∷ ok ∷ ok ∷ ok ∷ ok ∷ pos 0x3ff ∷ ok ∷ ok ∷ ok ∷ ok ∷ ok
    ∷ ok ∷ ok ∷ pos 1 ∷ pos 0x27 ∷ pos 0x80 ∷ pos 0xa0 ∷ ok ∷ pos 1
    ∷ ok ∷ ok ∷ [])
    ∷ []

-- the record of the session's device after its acknowledge: the latch is 0 and the line 1. Restored, it reads and behaves so
abbrev pub busy_record : List ℕ
busy_record =
    0x01 ∷ 0x40 ∷ 0x01 ∷ 0x00 ∷ 0x52 ∷ 0x00
    ∷ 0x80 ∷ 0x01 ∷ 0x80 ∷ 0x01 ∷ 0x00 ∷ 0x80 ∷ 0x01 ∷ 0x80 ∷ 0x01 ∷ 0x00 ∷ 0x80 ∷ 0x80 ∷ 0x80 ∷ 0x80 ∷ 0x0a
    ∷ (replicate 54 0 ++ (0xa8 ∷ 0x01 ∷ 0x80 ∷ 0x08 ∷ 0x02 ∷ 0x03 ∷ 0x00 ∷ 0x80 ∷ 0x80 ∷ 0x40 ∷ 0x00 ∷ 0x01 ∷ []))

abbrev busy : List Row
busy =
    hands (take 15 session_calls ++ (stop ∷ [])) (save (replicate 100 7)) busy_record
    ∷ answer (device 64 ++ (stop ∷ restore busy_record ∷ get_attribute 1 0x84 ∷ get_attribute 1 0x204 ∷ get_attribute 1 0x304 ∷ get_attribute 7 32 ∷ get_attribute 1 0x424
    ∷ get_attribute 6 0xc648 ∷ restore busy_record ∷ run ∷ dr 0x204 ∷ sr 0xc65b ∷ sw 0xc661 39 ∷ query_signal 0 ∷ []))
    (device_ok ++ (ok ∷ ok ∷ pos 0x80 ∷ ok ∷ pos 0x80 ∷ pos 0x80 ∷ pos 0xa0000000
    ∷ pos 0x00100000 ∷ no 17 ∷ ok ∷ pos 0x80 ∷ pos 0xa0 ∷ ok ∷ pos 1 ∷ []))
    -- another version, count, number of vCPUs or affinity; a missing number; a BPR0 that no device reads
    ∷ answer (device 64 ++ (stop ∷ restore (2 ∷ []) ∷ restore (1 ∷ 0x60 ∷ []) ∷ restore (1 ∷ 0x40 ∷ 2 ∷ []) ∷ restore (1 ∷ 0x40 ∷ 1 ∷ 1 ∷ []) ∷ restore (1 ∷ 0x40 ∷ 1 ∷ 0 ∷ 0x50 ∷ [])
    ∷ restore (take 70 fresh_record ++ (1 ∷ [])) ∷ restore [] ∷ []))
    (device_ok ++ (ok ∷ no 22 ∷ no 22 ∷ no 22 ∷ no 22 ∷ no 74 ∷ no 22 ∷ no 74 ∷ []))
    ∷ []

-- at count 1024 the IDs 1020 to 1023 do not exist
abbrev absent : List Row
absent =
    answer (device 1024 ++ (dw 0x17c 0xffffffff ∷ dr 0x17c ∷ dw 0xcfc 0xffffffff ∷ dr 0xcfc ∷ dw 0x7fc 0xffffffff ∷ dr 0x7fc ∷ dw 0x7f8 0xffffffff ∷ dr 0x7f8
    ∷ change_line 0 1019 true ∷ change_line 0 1020 true ∷ stop ∷ set_attribute 7 992 0xffffffff ∷ get_attribute 7 992
    ∷ get_attribute 1 0x7fd8 ∷ get_attribute 1 0x7fdc ∷ get_attribute 1 0x7fe0 ∷ []))
    (device_ok ++ (ok ∷ pos 0x0fffffff ∷ ok ∷ pos 0x00aaaaaa ∷ ok ∷ ok ∷ ok ∷ pos 0xf8f8f8f8
    ∷ ok ∷ no 22 ∷ ok ∷ ok ∷ pos 0x0fffffff ∷ ok ∷ ok ∷ no 6 ∷ []))
    ∷ []

-- ICFGR before lines: group 7 latches nothing, also where the interrupt is edge already; a line change latches
abbrev lines : List Row
lines =
    answer (device 64 ++ (stop ∷ set_attribute 1 0xc08 0x8000 ∷ set_attribute 7 32 0x80 ∷ get_attribute 7 32 ∷ get_attribute 1 0x204 ∷ run ∷ dr 0x204
    ∷ change_line 0 39 false ∷ change_line 0 39 true ∷ dr 0x204 ∷ change_line 0 39 false ∷ dr 0x204 ∷ dw 0xc08 0 ∷ dw 0x284 0x80 ∷ dr 0x204 ∷ []))
    (device_ok ++ (ok ∷ ok ∷ ok ∷ pos 0x80 ∷ ok ∷ ok ∷ ok ∷ ok ∷ ok ∷ pos 0x80 ∷ ok ∷ pos 0x80 ∷ ok ∷ ok ∷ ok ∷ []))
    ∷ []

-- each refusal of the table but EIO, which a sound state never gives
abbrev refusals : List Row
refusals =
    answer (make ∷ init ∷ dr 0 ∷ add_vcpu 0x10 ∷ add_vcpu 0 ∷ add_vcpu 0 ∷ add_vcpu 1 ∷ add_vcpu 2 ∷ add_vcpu 3 ∷ add_vcpu 4 ∷ add_vcpu 5 ∷ add_vcpu 6 ∷ add_vcpu 7
    ∷ add_vcpu 8 ∷ init ∷ add_vcpu 8 ∷ get_attribute 3 9 ∷ dr 0 ∷ read_distributor 8 0 4 ∷ get_attribute 2 0 ∷ get_attribute 4 0 ∷ get_attribute 1 0xc ∷ run
    ∷ sr 0xc641 ∷ sw 0xc640 0 ∷ get_attribute 1 0 ∷ stop ∷ set_attribute 1 8 0 ∷ set_attribute 1 8 0x01001000 ∷ [])
    (ok ∷ no 19 ∷ no 16 ∷ no 22 ∷ ok ∷ no 17 ∷ ok ∷ ok ∷ ok ∷ ok ∷ ok ∷ ok ∷ ok
    ∷ no 12 ∷ ok ∷ no 16 ∷ pos 256 ∷ no 1 ∷ no 22 ∷ no 6 ∷ no 6 ∷ no 6 ∷ ok
    ∷ no 6 ∷ no 6 ∷ no 16 ∷ ok ∷ no 22 ∷ ok ∷ [])
    ∷ answer (get_attribute 3 0 ∷ init ∷ save [] ∷ []) (no 14 ∷ no 14 ∷ no 14 ∷ [])
    ∷ answer (device 64 ++ (stop ∷ set_attribute 1 0x10 1 ∷ restore fresh_record ∷ [])) (device_ok ++ (ok ∷ ok ∷ no 17 ∷ []))
    ∷ []

pub table : List Row
table =
    p1 ++ (p2 ++ (p3 ++ (p4 ++ (p5 3 (pos 40) ∷ p5 5 (pos 40) ∷ p5 6 (pos 1023) ∷ (p6 ++ (p7 ++ (p8 ++ (record76 ++ (session ++ (busy ++ (absent ++ (lines ++ refusals))))))))))))

pub worked : unmet (replicate 1760 7) 1 table ≡ 0
unfolding unmet table groups_of encode
worked = refl
