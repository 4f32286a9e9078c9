-- A random session of calls: from each state the calls give these answers and leave the next state.
-- Made by: tests/sessions.py ORACLE 7 7000 --chunk 8 --counts 64 --calls 1-5,39-43,63-64,119-120,127,154-159,339-340,359-364,479,497,600-602,613-618,629-632,722-727,755,786-791,863,887-888,916,938-940,958-960,1118,1151-1153,1769-1770,1778,1805-1806,2017-2022,2112-2113,2147-2152,2182-2183,2196-2197,2306,2364,2397,2513-2515,2530-2531,2729,2825-2829,3113,3197-3202,3949-3950,4002-4003,4337,4356-4358,4360-4362,4385-4387,4465,4741,5266-5270,5305,5481-5484,5546-5547,5710,5730-5735,5924-5925,5982,6028-6029,6162,6168-6169,6172,6282,6367-6369,6390,6477,6492-6493,6618,6629,6672-6673
-- 171 calls in 69 theorems. ORACLE's model of the device, in Python, gave the answers and the states.
use mathlib.Core.Path.{◌≡◌, refl}
use Prim.Native.Nat.{ℕ}
use mathlib.Core.Bool.{true, false}
use mathlib.Core.List.{List, [], ◌∷◌, ◌++◌}
use lib.ListN.{replicate}
use Rattle.model.specs.Calls.{make, add_vcpu, set_running, change_line, query_signal, read_distributor, write_distributor, read_frame, write_frame, read_system, write_system, get_attribute, set_attribute, restore}
use Rattle.worked.proofs.Rows.{Row, gives, refuses, saves, words, changed, differs}

abbrev session-7-state-1 : List ℕ
session-7-state-1 = words 1760 []

abbrev session-7-rows-1 : List Row
session-7-rows-1 =
    gives make 0
    ∷ gives (set_attribute 3 0x115d87f699656e46 0x40) 0
    ∷ gives (add_vcpu 0) 0
    ∷ gives (set_attribute 4 0 0x4d5af1b35d87443c) 0
    ∷ refuses (set_attribute 3 0 0x64) 22
    ∷ []

session-7-chunk-1 : differs session-7-rows-1 session-7-state-1 (changed session-7-state-1 ((0, 1) ∷ (1, 0x40) ∷ (2, 1) ∷ (29, 0xffff) ∷ (37, 2) ∷ (38, 3) ∷ [])) ≡ 0
unfolding differs
session-7-chunk-1 = refl

abbrev session-7-state-2 : List ℕ
session-7-state-2 = words 1760 (
    (0, 1) ∷ (1, 0x40) ∷ (2, 1) ∷ (3, 3) ∷ (16, 0x32ae33a7) ∷ (17, 1) ∷ (21, 0xb0589090) ∷ (28, 0x10000000) ∷ (29, 0xffff) ∷ (35, 0xa8) ∷ (37, 2) ∷
    (38, 3) ∷ (41, 1) ∷ (42, 1) ∷ (272, 0xa24d2778) ∷ (273, 0x80000000) ∷ (284, 0xa8c048d0) ∷ []
    )

abbrev session-7-rows-2 : List Row
session-7-rows-2 =
    gives (get_attribute 7 0) 0
    ∷ gives (set_attribute 6 0xc667 0xa8) 0
    ∷ gives (get_attribute 1 4) 0x2480001
    ∷ gives (set_attribute 7 0 1) 0
    ∷ refuses (get_attribute 5 0x6108) 6
    ∷ []

session-7-chunk-2 : differs session-7-rows-2 session-7-state-2 (changed session-7-state-2 ((42, 0) ∷ [])) ≡ 0
unfolding differs
session-7-chunk-2 = refl

abbrev session-7-state-3 : List ℕ
session-7-state-3 = words 1760 (
    (0, 1) ∷ (1, 0x40) ∷ (2, 1) ∷ (3, 3) ∷ (16, 0x32ae33a7) ∷ (17, 1) ∷ (18, 1) ∷ (19, 1) ∷ (21, 0xb0589090) ∷ (28, 0x10000000) ∷ (29, 0xffff) ∷
    (33, 1) ∷ (35, 0xa8) ∷ (37, 6) ∷ (38, 3) ∷ (41, 1) ∷ (42, 1) ∷ (272, 0xa24d2778) ∷ (273, 0x80000000) ∷ (276, 0x80000000) ∷ (284, 0xa8c048d0) ∷ []
    )

abbrev session-7-rows-3 : List Row
session-7-rows-3 =
    gives (read_system 0 0xc642) 0x3ff
    ∷ gives (read_system 0 0xc660) 0x3ff
    ∷ []

session-7-chunk-3 : differs session-7-rows-3 session-7-state-3 session-7-state-3 ≡ 0
unfolding differs
session-7-chunk-3 = refl

abbrev session-7-state-4 : List ℕ
session-7-state-4 = words 1760 ((0, 1) ∷ (1, 0x40) ∷ (2, 1) ∷ (29, 0xffff) ∷ (37, 2) ∷ (38, 3) ∷ [])

abbrev session-7-rows-4 : List Row
session-7-rows-4 =
    refuses (restore ((1 ∷ 0x40 ∷ 1 ∷ 0 ∷ 0x53 ∷ 0 ∷ 0xf8 ∷ 0xce ∷ 0xb4 ∷ 0x92 ∷ 0xa ∷ 0x80 ∷ 0x80 ∷ 0x80 ∷ 0x80 ∷ 8 ∷ 0 ∷ 0x80 ∷ 0x80 ∷ 0x80 ∷ 0x80 ∷ 8 ∷ 0x80 ∷ 0x80 ∷ 0x80 ∷ 0x80 ∷ 8 ∷ []) ++ replicate 7 0 ++ (0xd0 ∷ 0x91 ∷ 0x81 ∷ 0xc6 ∷ 9 ∷ []) ++ replicate 35 0 ++ (0xa7 ∷ 0xe7 ∷ 0xb8 ∷ 0x95 ∷ 3 ∷ 1 ∷ 0 ∷ 1 ∷ 0x40 ∷ 0x90 ∷ 0xa1 ∷ 0xe2 ∷ 0x82 ∷ 0xb ∷ []) ++ replicate 6 0 ++ (0x80 ∷ 0x80 ∷ 0x80 ∷ 0x80 ∷ 1 ∷ 0xa8 ∷ 1 ∷ 0x80 ∷ 8 ∷ 6 ∷ 3 ∷ 0 ∷ 0x80 ∷ 0x80 ∷ 0x20 ∷ 1 ∷ 1 ∷ []))) 22
    ∷ refuses (restore ((1 ∷ 0x40 ∷ 0x81 ∷ 0x80 ∷ 0x80 ∷ 0x80 ∷ 0 ∷ 0 ∷ 0x53 ∷ 0 ∷ 0xf8 ∷ 0xce ∷ 0xb4 ∷ 0x92 ∷ 0xa ∷ 0x80 ∷ 0x80 ∷ 0x80 ∷ 0x80 ∷ 8 ∷ 0 ∷ 0x80 ∷ 0x80 ∷ 0x80 ∷ 0x80 ∷ 8 ∷ 0x80 ∷ 0x80 ∷ 0x80 ∷ 0x80 ∷ 8 ∷ []) ++ replicate 7 0 ++ (0xd0 ∷ 0x91 ∷ 0x81 ∷ 0xc6 ∷ 9 ∷ []) ++ replicate 35 0 ++ (0xa7 ∷ 0xe7 ∷ 0xb8 ∷ 0x95 ∷ 3 ∷ 1 ∷ 0 ∷ 1 ∷ 0 ∷ 0x90 ∷ 0xa1 ∷ 0xe2 ∷ 0x82 ∷ 0xb ∷ []) ++ replicate 6 0 ++ (0x80 ∷ 0x80 ∷ 0x80 ∷ 0x80 ∷ 1 ∷ 0xa8 ∷ 1 ∷ 0x80 ∷ 8 ∷ 6 ∷ 3 ∷ 0 ∷ 0x80 ∷ 0x80 ∷ 0x20 ∷ 1 ∷ 1 ∷ []))) 74
    ∷ []

session-7-chunk-4 : differs session-7-rows-4 session-7-state-4 session-7-state-4 ≡ 0
unfolding differs
session-7-chunk-4 = refl

abbrev session-7-state-5 : List ℕ
session-7-state-5 = words 1760 (
    (0, 1) ∷ (1, 0x40) ∷ (2, 1) ∷ (3, 3) ∷ (16, 0x32ae33a7) ∷ (17, 1) ∷ (18, 0x8000) ∷ (19, 1) ∷ (21, 0xb0589090) ∷ (28, 0x10000000) ∷ (29, 0xffff) ∷
    (33, 1) ∷ (35, 0xa8) ∷ (37, 6) ∷ (38, 3) ∷ (40, 0x80000) ∷ (41, 1) ∷ (42, 1) ∷ (272, 0xa24d2778) ∷ (273, 0x80000000) ∷ (275, 0x80000000) ∷
    (276, 0x80000000) ∷ (284, 0x98c048d0) ∷ []
    )

abbrev session-7-rows-5 : List Row
session-7-rows-5 =
    gives (write_system 0 0xc661 0x20) 0
    ∷ []

session-7-chunk-5 : differs session-7-rows-5 session-7-state-5 (changed session-7-state-5 ((40, 0) ∷ [])) ≡ 0
unfolding differs
session-7-chunk-5 = refl

abbrev session-7-state-6 : List ℕ
session-7-state-6 = words 1760 (
    (0, 1) ∷ (1, 0x40) ∷ (2, 1) ∷ (3, 3) ∷ (16, 0x32ae33a7) ∷ (17, 0x10001) ∷ (18, 0x800a) ∷ (19, 0x10001) ∷ (21, 0xb0589090) ∷ (28, 0x10000000) ∷
    (29, 0xffff) ∷ (33, 1) ∷ (35, 0xf8) ∷ (37, 6) ∷ (38, 3) ∷ (39, 1) ∷ (41, 1) ∷ (42, 1) ∷ (272, 0xa24d2778) ∷ (273, 0x80000000) ∷ (275, 0x80000000) ∷
    (276, 0x80000000) ∷ (284, 0x98c048d0) ∷ (286, 0x1000) ∷ []
    )

abbrev session-7-rows-6 : List Row
session-7-rows-6 =
    gives (read_distributor 0 0x10082 1) 0
    ∷ gives (write_distributor 0 0x84 4 0x961547fd) 0
    ∷ gives (write_system 0 0xc65d 0x8010001000001) 0
    ∷ gives (write_distributor 0 0x420 1 0x88) 0
    ∷ gives (write_distributor 0 0x6100 4 0) 0
    ∷ gives (write_distributor 0 0x7fe0 4 0) 0
    ∷ []

session-7-chunk-6 : differs session-7-rows-6 session-7-state-6 (changed session-7-state-6 ((272, 0x961547fd) ∷ (277, 0x88) ∷ [])) ≡ 0
unfolding differs
session-7-chunk-6 = refl

abbrev session-7-state-7 : List ℕ
session-7-state-7 = words 1760 (
    (0, 1) ∷ (1, 0x40) ∷ (2, 1) ∷ (3, 3) ∷ (16, 0xb29ebd9e) ∷ (17, 0x10001) ∷ (18, 0x800a) ∷ (20, 0x10000) ∷ (21, 0xb0589090) ∷ (25, 0x98e0c010) ∷
    (28, 0x10000000) ∷ (29, 0xffff) ∷ (33, 1) ∷ (35, 0xa8) ∷ (36, 2) ∷ (37, 2) ∷ (38, 3) ∷ (41, 1) ∷ (42, 1) ∷ (272, 0xb3a6ff33) ∷ (273, 0xd8750f29) ∷
    (274, 0x10000000) ∷ (275, 0x80000001) ∷ (276, 0x80000000) ∷ (277, 0xa0a090) ∷ (284, 0x98c04830) ∷ (285, 0x2bd3) ∷ (286, 0x1000) ∷ []
    )

abbrev session-7-rows-7 : List Row
session-7-rows-7 =
    gives (set_running 0 false) 0
    ∷ saves 132 ((1 ∷ 0x40 ∷ 1 ∷ 0 ∷ 0x53 ∷ 0 ∷ 0xb3 ∷ 0xfe ∷ 0x9b ∷ 0x9d ∷ 0xb ∷ 0xa9 ∷ 0x9e ∷ 0xd4 ∷ 0xc3 ∷ 0xd ∷ 0x80 ∷ 0x80 ∷ 0x80 ∷ 0x80 ∷ 1 ∷ 0x81 ∷ 0x80 ∷ 0x80 ∷ 0x80 ∷ 8 ∷ 0x80 ∷ 0x80 ∷ 0x80 ∷ 0x80 ∷ 8 ∷ 0x90 ∷ 0xc1 ∷ 0x82 ∷ 5 ∷ []) ++ replicate 6 0 ++ (0xb0 ∷ 0x90 ∷ 0x81 ∷ 0xc6 ∷ 9 ∷ 0x8a ∷ 0xc4 ∷ 0xaa ∷ 0x44 ∷ 0x80 ∷ 0x80 ∷ 0x80 ∷ 0x10 ∷ []) ++ replicate 33 0 ++ (0x9e ∷ 0xfb ∷ 0xfa ∷ 0x94 ∷ 0xb ∷ 0x81 ∷ 0x80 ∷ 4 ∷ 0x8a ∷ 0x80 ∷ 2 ∷ 0 ∷ 0x80 ∷ 0x80 ∷ 4 ∷ 0x90 ∷ 0xa1 ∷ 0xe2 ∷ 0x82 ∷ 0xb ∷ 0 ∷ 0 ∷ 0 ∷ 0x90 ∷ 0x80 ∷ 0x83 ∷ 0xc7 ∷ 9 ∷ 0 ∷ 0 ∷ 0x80 ∷ 0x80 ∷ 0x80 ∷ 0x80 ∷ 1 ∷ 0xa8 ∷ 1 ∷ 0x82 ∷ 8 ∷ 2 ∷ 3 ∷ 0 ∷ 0 ∷ 1 ∷ 1 ∷ []))
    ∷ []

session-7-chunk-7 : differs session-7-rows-7 session-7-state-7 (changed session-7-state-7 ((33, 0) ∷ [])) ≡ 0
unfolding differs
session-7-chunk-7 = refl

abbrev session-7-state-8 : List ℕ
session-7-state-8 = words 1760 (
    (0, 1) ∷ (1, 0x40) ∷ (2, 1) ∷ (3, 2) ∷ (16, 0xffffffff) ∷ (17, 0xffffffff) ∷ (21, 0x98e8a010) ∷ (25, 0xa0f08080) ∷ (28, 0x6878d068) ∷ (29, 0xffff) ∷
    (37, 2) ∷ (38, 3) ∷ (279, 0x10000840) ∷ (281, 0x60b0c8e8) ∷ (774, 0x400) ∷ (778, 0x402) ∷ (782, 0xffffff) ∷ (798, 0xffffff) ∷ []
    )

abbrev session-7-rows-8 : List Row
session-7-rows-8 =
    refuses (get_attribute 6 0x41d72d541ebe90dd) 22
    ∷ gives (set_attribute 1 0x100000000000418 0x6a7035ab) 0
    ∷ gives (get_attribute 1 0x100000000000418) 0
    ∷ gives (set_attribute 7 0 0x20000) 0
    ∷ gives (set_attribute 5 8 0x400) 0
    ∷ gives (get_attribute 5 8) 0x10
    ∷ []

session-7-chunk-8 : differs session-7-rows-8 session-7-state-8 (changed session-7-state-8 ((20, 0x20000) ∷ [])) ≡ 0
unfolding differs
session-7-chunk-8 = refl

abbrev session-7-state-9 : List ℕ
session-7-state-9 = words 1760 (
    (0, 1) ∷ (1, 0x40) ∷ (2, 1) ∷ (3, 3) ∷ (16, 0xffffffff) ∷ (17, 0xffffffff) ∷ (18, 0xa1db6c06) ∷ (19, 0x3d0) ∷ (20, 0x80000000) ∷ (21, 0x98e8a010) ∷
    (25, 0x10a0a008) ∷ (28, 0x6878d068) ∷ (29, 0xffff) ∷ (35, 0xa8) ∷ (37, 5) ∷ (38, 3) ∷ (41, 1) ∷ (42, 1) ∷ (272, 0x4764161f) ∷ (273, 0x88020000) ∷
    (275, 0x20000) ∷ (276, 0x80020000) ∷ (279, 0x10000840) ∷ (281, 0x60b040e8) ∷ (283, 0x85848c0) ∷ (774, 0x400) ∷ (778, 0x402) ∷ (782, 0xffffff) ∷
    (798, 0xffffff) ∷ []
    )

abbrev session-7-rows-9 : List Row
session-7-rows-9 =
    gives (set_attribute 5 0x10280 0x7910fb0c) 0
    ∷ []

session-7-chunk-9 : differs session-7-rows-9 session-7-state-9 session-7-state-9 ≡ 0
unfolding differs
session-7-chunk-9 = refl

abbrev session-7-state-10 : List ℕ
session-7-state-10 = words 1760 (
    (0, 1) ∷ (1, 0x40) ∷ (2, 1) ∷ (3, 3) ∷ (16, 0xffffffff) ∷ (17, 0xffffffff) ∷ (18, 0xa1db6c06) ∷ (19, 0x3d0) ∷ (20, 0x20000) ∷ (21, 0x98e8a010) ∷
    (25, 0x10a0a008) ∷ (28, 0x6878d068) ∷ (29, 0xffff) ∷ (35, 0xa8) ∷ (37, 5) ∷ (38, 3) ∷ (41, 1) ∷ (42, 1) ∷ (272, 0x4764161f) ∷ (273, 0x88020000) ∷
    (275, 0x20000) ∷ (276, 0x80020000) ∷ (279, 0x10000840) ∷ (281, 0x60b040e8) ∷ (283, 0x85848c0) ∷ (774, 0x400) ∷ (778, 0x402) ∷ (782, 0xffffff) ∷
    (798, 0xffffff) ∷ []
    )

abbrev session-7-rows-10 : List Row
session-7-rows-10 =
    refuses (read_frame 0 0xffffffff 0xd00 1) 22
    ∷ []

session-7-chunk-10 : differs session-7-rows-10 session-7-state-10 session-7-state-10 ≡ 0
unfolding differs
session-7-chunk-10 = refl

abbrev session-7-state-11 : List ℕ
session-7-state-11 = words 1760 (
    (0, 1) ∷ (1, 0x40) ∷ (2, 1) ∷ (3, 3) ∷ (16, 0xffffffff) ∷ (17, 0xffffffff) ∷ (18, 0xa1c90006) ∷ (19, 0x26f50) ∷ (20, 0x20000) ∷ (21, 0x98e8a010) ∷
    (25, 0x10a00008) ∷ (28, 0x6878d068) ∷ (29, 0xffff) ∷ (33, 1) ∷ (35, 0xa8) ∷ (37, 5) ∷ (38, 3) ∷ (41, 1) ∷ (42, 1) ∷ (272, 0x4764161f) ∷
    (273, 0x88020000) ∷ (274, 0x80000000) ∷ (275, 0x20000) ∷ (276, 0x20000) ∷ (279, 0x10000840) ∷ (281, 0x60b040e8) ∷ (283, 0x85848c0) ∷ (774, 0x400) ∷
    (778, 0x402) ∷ (782, 0xffffff) ∷ (798, 0xffffff) ∷ []
    )

abbrev session-7-rows-11 : List Row
session-7-rows-11 =
    gives (write_distributor 0 0x10 4 0xafd74) 0
    ∷ gives (read_distributor 0 0x10 4) 0
    ∷ gives (write_system 0 0xc641 0x400) 0
    ∷ []

session-7-chunk-11 : differs session-7-rows-11 session-7-state-11 session-7-state-11 ≡ 0
unfolding differs
session-7-chunk-11 = refl

abbrev session-7-state-12 : List ℕ
session-7-state-12 = words 1760 (
    (0, 1) ∷ (1, 0x40) ∷ (2, 1) ∷ (3, 3) ∷ (16, 0xffffffff) ∷ (17, 0xffffffff) ∷ (18, 0xa1c90006) ∷ (19, 0xef50) ∷ (20, 0x20000) ∷ (21, 0x98e8a010) ∷
    (25, 0x10a00008) ∷ (28, 0x6878d068) ∷ (29, 0xffff) ∷ (33, 1) ∷ (35, 0xa8) ∷ (37, 5) ∷ (38, 3) ∷ (40, 1) ∷ (41, 1) ∷ (42, 1) ∷ (272, 0x4764161f) ∷
    (273, 0x88020000) ∷ (274, 0x80000000) ∷ (275, 0x20000) ∷ (276, 0x20000) ∷ (279, 0x10000840) ∷ (281, 0x60b040e8) ∷ (283, 0x85848c0) ∷ (774, 0x400) ∷
    (778, 0x402) ∷ (782, 0xffffff) ∷ (798, 0xffffff) ∷ []
    )

abbrev session-7-rows-12 : List Row
session-7-rows-12 =
    gives (write_distributor 0 0x1fffd 4 0xe29fb58f) 0
    ∷ gives (read_distributor 0 0x1fffd 4) 0
    ∷ refuses (read_distributor 1 0xc04 4) 22
    ∷ gives (write_frame 0 0 0x10100 4 0x20000) 0
    ∷ gives (write_frame 0 0 0x10080 4 0xf654063b) 0
    ∷ gives (write_frame 0 0 0x10410 4 0x7df5f808) 0
    ∷ []

session-7-chunk-12 : differs session-7-rows-12 session-7-state-12 (changed session-7-state-12 ((16, 0xf654063b) ∷ (25, 0x78f0f808) ∷ [])) ≡ 0
unfolding differs
session-7-chunk-12 = refl

abbrev session-7-state-13 : List ℕ
session-7-state-13 = words 1760 (
    (0, 1) ∷ (1, 0x40) ∷ (2, 1) ∷ (3, 3) ∷ (16, 0xf654063b) ∷ (17, 0xffffffff) ∷ (18, 0xa1890006) ∷ (19, 0x40ef50) ∷ (20, 0x20000) ∷ (21, 0x98e8a010) ∷
    (25, 0x78f0f808) ∷ (28, 0x6878d068) ∷ (29, 0xffff) ∷ (33, 1) ∷ (35, 0xa8) ∷ (37, 5) ∷ (38, 3) ∷ (41, 1) ∷ (42, 1) ∷ (272, 0x4764161f) ∷
    (273, 0x88020000) ∷ (274, 0x80000000) ∷ (275, 0x20000) ∷ (276, 0x20000) ∷ (279, 0x10000840) ∷ (281, 0x60b040e8) ∷ (283, 0x85848c0) ∷ (774, 0x400) ∷
    (778, 0x402) ∷ (782, 0xffffff) ∷ (798, 0xffffff) ∷ []
    )

abbrev session-7-rows-13 : List Row
session-7-rows-13 =
    gives (read_system 0 0xc640) 0x17
    ∷ gives (write_system 0 0xc644 0) 0
    ∷ gives (write_system 0 0xc648 0) 0
    ∷ gives (read_system 0 0xc660) 0x3ff
    ∷ []

session-7-chunk-13 : differs session-7-rows-13 session-7-state-13 (changed session-7-state-13 ((18, 0xa1090006) ∷ (19, 0xc0ef50) ∷ [])) ≡ 0
unfolding differs
session-7-chunk-13 = refl

abbrev session-7-state-14 : List ℕ
session-7-state-14 = words 1760 (
    (0, 1) ∷ (1, 0x40) ∷ (2, 1) ∷ (3, 3) ∷ (16, 0xf654063b) ∷ (17, 0xffffffff) ∷ (18, 0x10000000) ∷ (19, 0x81c1ef50) ∷ (20, 0x250b0000) ∷
    (21, 0x98e8a010) ∷ (25, 0xf8f80000) ∷ (28, 0x6878d068) ∷ (29, 0xffff) ∷ (33, 1) ∷ (35, 0xa8) ∷ (37, 3) ∷ (38, 3) ∷ (39, 1) ∷ (41, 1) ∷ (42, 1) ∷
    (272, 0x4764161f) ∷ (273, 0x88020000) ∷ (275, 0x20000) ∷ (276, 0x80000000) ∷ (279, 0x10000840) ∷ (281, 0x60b040e8) ∷ (283, 0x85848c0) ∷
    (774, 0x400) ∷ (778, 0x402) ∷ (782, 0xffffff) ∷ (798, 0xffffff) ∷ []
    )

abbrev session-7-rows-14 : List Row
session-7-rows-14 =
    gives (write_frame 0 0 0xc09 4 0xf0000000) 0
    ∷ gives (read_frame 0 0 0xc09 4) 0
    ∷ gives (write_system 0 0xc664 0xffffffff) 0
    ∷ gives (read_system 0 0xc664) 0x402
    ∷ gives (write_distributor 0 0xc04 4 0xb64c7eca) 0
    ∷ gives (write_frame 0 0 0x10423 1 0xff) 0
    ∷ []

session-7-chunk-14 : differs session-7-rows-14 session-7-state-14 (changed session-7-state-14 ((36, 2) ∷ [])) ≡ 0
unfolding differs
session-7-chunk-14 = refl

abbrev session-7-state-15 : List ℕ
session-7-state-15 = words 1760 (
    (0, 1) ∷ (1, 0x40) ∷ (2, 1) ∷ (3, 3) ∷ (16, 0xf654063b) ∷ (17, 0xffffffff) ∷ (18, 0x10000000) ∷ (19, 0x81c3ef50) ∷ (20, 0x20000) ∷ (21, 0x98e8a010) ∷
    (25, 0xf8f80000) ∷ (28, 0x6878d068) ∷ (29, 0xffff) ∷ (35, 0xa8) ∷ (37, 3) ∷ (38, 3) ∷ (39, 1) ∷ (41, 1) ∷ (42, 1) ∷ (272, 0x4764161f) ∷
    (273, 0x88020000) ∷ (275, 0x20000) ∷ (276, 0x437222d1) ∷ (279, 0x10000840) ∷ (281, 0x60b040e8) ∷ (283, 0x85848c0) ∷ (774, 0x400) ∷ (778, 0x402) ∷
    (782, 0xffffff) ∷ (798, 0xffffff) ∷ []
    )

abbrev session-7-rows-15 : List Row
session-7-rows-15 =
    gives (get_attribute 7 0xffff0f000003e0) 0
    ∷ []

session-7-chunk-15 : differs session-7-rows-15 session-7-state-15 session-7-state-15 ≡ 0
unfolding differs
session-7-chunk-15 = refl

abbrev session-7-state-16 : List ℕ
session-7-state-16 = words 1760 (
    (0, 1) ∷ (1, 0x40) ∷ (2, 1) ∷ (3, 3) ∷ (16, 0xf654063b) ∷ (17, 0xffffffff) ∷ (18, 0x10008000) ∷ (19, 0x81c3ef50) ∷ (20, 0x20000) ∷ (21, 0x98e8a010) ∷
    (24, 0x88a01090) ∷ (25, 0xf8f80000) ∷ (28, 0xf0000000) ∷ (29, 0xffff) ∷ (35, 0xa8) ∷ (37, 3) ∷ (38, 3) ∷ (39, 1) ∷ (41, 1) ∷ (42, 1) ∷
    (272, 0x4764161f) ∷ (273, 0x88020000) ∷ (275, 0x20000) ∷ (276, 0x437222d1) ∷ (279, 0x10000840) ∷ (281, 0x60b040e8) ∷ (283, 0x85848c0) ∷
    (774, 0x400) ∷ (778, 0x402) ∷ (782, 0xffffff) ∷ (798, 0xffffff) ∷ []
    )

abbrev session-7-rows-16 : List Row
session-7-rows-16 =
    refuses (set_attribute 7 0 0x200000000000080) 22
    ∷ gives (get_attribute 3 0x35dcde1f) 0x40
    ∷ gives (get_attribute 5 0x10280) 0
    ∷ refuses (set_attribute 6 0xc65f 2) 6
    ∷ gives (get_attribute 5 0x10400) 0x98e8a010
    ∷ gives (set_attribute 5 0x10200 7) 0
    ∷ []

session-7-chunk-16 : differs session-7-rows-16 session-7-state-16 (changed session-7-state-16 ((18, 7) ∷ [])) ≡ 0
unfolding differs
session-7-chunk-16 = refl

abbrev session-7-state-17 : List ℕ
session-7-state-17 = words 1760 (
    (0, 1) ∷ (1, 0x40) ∷ (2, 1) ∷ (3, 3) ∷ (16, 0xf654063b) ∷ (17, 0xffffffff) ∷ (18, 0x8006) ∷ (19, 0x80c26001) ∷ (20, 0x20000) ∷ (21, 0x98e8a010) ∷
    (24, 0x88a01090) ∷ (25, 0xf8f80000) ∷ (28, 0xf0000000) ∷ (29, 0xffff) ∷ (33, 1) ∷ (35, 0xa8) ∷ (37, 3) ∷ (38, 3) ∷ (41, 1) ∷ (42, 1) ∷
    (272, 0x770e6b5d) ∷ (273, 0x89020000) ∷ (274, 0x1000000) ∷ (276, 0x427222d1) ∷ (279, 0x10000840) ∷ (281, 0x60b040e8) ∷ (283, 0xc88840a0) ∷
    (286, 0xffff) ∷ (774, 0x400) ∷ (778, 0x402) ∷ (782, 0xffffff) ∷ (798, 0xffffff) ∷ []
    )

abbrev session-7-rows-17 : List Row
session-7-rows-17 =
    gives (read_system 0 0xc640) 0xf
    ∷ []

session-7-chunk-17 : differs session-7-rows-17 session-7-state-17 (changed session-7-state-17 ((18, 6) ∷ (19, 0x80c2e001) ∷ (39, 0x10000) ∷ [])) ≡ 0
unfolding differs
session-7-chunk-17 = refl

abbrev session-7-state-18 : List ℕ
session-7-state-18 = words 1760 (
    (0, 1) ∷ (1, 0x40) ∷ (2, 1) ∷ (3, 3) ∷ (16, 0xf654063b) ∷ (17, 0xffffffff) ∷ (18, 6) ∷ (19, 0x80c26001) ∷ (21, 0x98e8a010) ∷ (24, 0x88a01090) ∷
    (25, 0xf8f80000) ∷ (28, 0xf0000000) ∷ (29, 0xffff) ∷ (35, 0xa8) ∷ (37, 3) ∷ (38, 5) ∷ (39, 0xd559b59d) ∷ (41, 1) ∷ (42, 1) ∷ (272, 0x770e6b5d) ∷
    (273, 0x89020000) ∷ (274, 0x1000000) ∷ (276, 0x427222d1) ∷ (279, 0x10000840) ∷ (281, 0x60b040e8) ∷ (283, 0xc88840a0) ∷ (286, 0xffff) ∷ (774, 0x400) ∷
    (778, 0x402) ∷ (782, 0xffffff) ∷ (798, 0xffffff) ∷ []
    )

abbrev session-7-rows-18 : List Row
session-7-rows-18 =
    refuses (set_attribute 6 0xc665 0x100000007) 22
    ∷ gives (set_attribute 5 0x10200 1) 0
    ∷ []

session-7-chunk-18 : differs session-7-rows-18 session-7-state-18 (changed session-7-state-18 ((18, 1) ∷ [])) ≡ 0
unfolding differs
session-7-chunk-18 = refl

abbrev session-7-state-19 : List ℕ
session-7-state-19 = words 1760 (
    (0, 1) ∷ (1, 0x40) ∷ (2, 1) ∷ (3, 3) ∷ (16, 0xf654063b) ∷ (17, 0xffffffff) ∷ (18, 0x8001) ∷ (19, 0x80c3e001) ∷ (20, 0x10000) ∷ (21, 0x98e8a010) ∷
    (24, 0x78a01090) ∷ (25, 0xf8f80000) ∷ (28, 0xf0000000) ∷ (29, 0xffff) ∷ (33, 1) ∷ (35, 0xa8) ∷ (37, 3) ∷ (38, 5) ∷ (39, 0x10000) ∷ (41, 1) ∷
    (42, 1) ∷ (272, 0x770e6b5d) ∷ (273, 0x89020000) ∷ (274, 0x1000000) ∷ (276, 0x427222d1) ∷ (279, 0x10000840) ∷ (281, 0x60b040e8) ∷ (283, 0xc8884098) ∷
    (286, 0xffff) ∷ (774, 0x400) ∷ (778, 0x402) ∷ (782, 0xffffff) ∷ (798, 0xffffff) ∷ []
    )

abbrev session-7-rows-19 : List Row
session-7-rows-19 =
    gives (read_system 0 0xc660) 0x3ff
    ∷ []

session-7-chunk-19 : differs session-7-rows-19 session-7-state-19 session-7-state-19 ≡ 0
unfolding differs
session-7-chunk-19 = refl

abbrev session-7-state-20 : List ℕ
session-7-state-20 = words 1760 (
    (0, 1) ∷ (1, 0x40) ∷ (2, 1) ∷ (3, 3) ∷ (16, 0xf654063b) ∷ (17, 0xffffffff) ∷ (18, 0x8001) ∷ (19, 0x80c3e001) ∷ (20, 0x10000) ∷ (21, 0x98e8a010) ∷
    (24, 0x78a01090) ∷ (25, 0xf8f80000) ∷ (28, 0xf0000000) ∷ (29, 0xffff) ∷ (35, 0xa8) ∷ (37, 3) ∷ (38, 5) ∷ (39, 0x10000) ∷ (41, 1) ∷ (42, 1) ∷
    (272, 0x770e6b5d) ∷ (273, 0x89020000) ∷ (274, 0x1000000) ∷ (276, 0x427222d1) ∷ (279, 0x10000840) ∷ (281, 0x60b040e8) ∷ (283, 0xc88840a0) ∷
    (286, 0xffff) ∷ (774, 0x400) ∷ (778, 0x402) ∷ (782, 0xffffff) ∷ (798, 0xffffff) ∷ []
    )

abbrev session-7-rows-20 : List Row
session-7-rows-20 =
    refuses (set_attribute 7 0xf00000020 0x400013390f78) 22
    ∷ gives (get_attribute 5 0x10200) 0x8001
    ∷ refuses (set_attribute 3 0x7d2a681d 0x3f) 22
    ∷ []

session-7-chunk-20 : differs session-7-rows-20 session-7-state-20 session-7-state-20 ≡ 0
unfolding differs
session-7-chunk-20 = refl

abbrev session-7-state-21 : List ℕ
session-7-state-21 = words 1760 ((2, 3) ∷ (29, 0xffff) ∷ (37, 2) ∷ (38, 3) ∷ (61, 0xffff) ∷ (64, 0xff0000) ∷ (69, 2) ∷ (70, 3) ∷ (93, 0xffff) ∷ (96, 1) ∷ (101, 2) ∷ (102, 3) ∷ [])

abbrev session-7-rows-21 : List Row
session-7-rows-21 =
    gives (add_vcpu 0xffff0f) 0
    ∷ gives (add_vcpu 0x10001) 0
    ∷ refuses (set_attribute 6 0x10000c667 0) 16
    ∷ []

session-7-chunk-21 : differs session-7-rows-21 session-7-state-21 (changed session-7-state-21 ((2, 5) ∷ (125, 0xffff) ∷ (128, 0xffff0f) ∷ (133, 2) ∷ (134, 3) ∷ (157, 0xffff) ∷ (160, 0x10001) ∷ (165, 2) ∷ (166, 3) ∷ [])) ≡ 0
unfolding differs
session-7-chunk-21 = refl

abbrev session-7-state-22 : List ℕ
session-7-state-22 = words 1760 (
    (0, 1) ∷ (1, 0x40) ∷ (2, 5) ∷ (3, 3) ∷ (17, 0x8000) ∷ (18, 0x8020) ∷ (29, 0xffff) ∷ (33, 1) ∷ (35, 0xa8) ∷ (36, 2) ∷ (37, 2) ∷ (38, 3) ∷ (41, 1) ∷
    (42, 1) ∷ (48, 0xa15b4d50) ∷ (49, 0x8000) ∷ (50, 0x8000) ∷ (56, 0xa0487098) ∷ (61, 0xffff) ∷ (64, 0xff0000) ∷ (65, 1) ∷ (67, 0xf8) ∷ (68, 2) ∷
    (69, 5) ∷ (70, 3) ∷ (71, 0x100000) ∷ (73, 1) ∷ (74, 1) ∷ (81, 0x8000) ∷ (82, 0x20) ∷ (83, 0x8000) ∷ (93, 0xffff) ∷ (96, 1) ∷ (97, 1) ∷ (99, 0xb0) ∷
    (101, 2) ∷ (102, 3) ∷ (103, 1) ∷ (105, 1) ∷ (106, 1) ∷ (114, 0x8020) ∷ (125, 0xffff) ∷ (128, 0xffff0f) ∷ (129, 1) ∷ (131, 0xf8) ∷ (132, 2) ∷
    (133, 2) ∷ (134, 3) ∷ (136, 0x40000000) ∷ (138, 1) ∷ (146, 0x8020) ∷ (157, 0xffff) ∷ (160, 0x10001) ∷ (161, 1) ∷ (163, 0xf8) ∷ (164, 2) ∷ (165, 2) ∷
    (166, 3) ∷ (168, 0x80) ∷ (169, 1) ∷ (170, 1) ∷ (272, 0xacd76cf0) ∷ (273, 0x8000003) ∷ (276, 0x8000003) ∷ (277, 0x880888) ∷ (283, 0x3870a8a0) ∷
    (286, 0x2bc) ∷ (795, 0xff0000) ∷ []
    )

abbrev session-7-rows-22 : List Row
session-7-rows-22 =
    gives (read_system 1 0xc660) 0x3b
    ∷ []

session-7-chunk-22 : differs session-7-rows-22 session-7-state-22 (changed session-7-state-22 ((72, 0x80) ∷ (275, 0x8000000) ∷ [])) ≡ 0
unfolding differs
session-7-chunk-22 = refl

abbrev session-7-state-23 : List ℕ
session-7-state-23 = words 1760 (
    (0, 1) ∷ (1, 0x40) ∷ (2, 5) ∷ (29, 0xffff) ∷ (37, 2) ∷ (38, 3) ∷ (61, 0xffff) ∷ (64, 0xff0000) ∷ (69, 2) ∷ (70, 3) ∷ (93, 0xffff) ∷ (96, 1) ∷
    (101, 2) ∷ (102, 3) ∷ (125, 0xffff) ∷ (128, 0xffff0f) ∷ (133, 2) ∷ (134, 3) ∷ (157, 0xffff) ∷ (160, 0x10001) ∷ (165, 2) ∷ (166, 3) ∷ []
    )

abbrev session-7-rows-23 : List Row
session-7-rows-23 =
    refuses (restore ((1 ∷ 0x40 ∷ 5 ∷ 0 ∷ 0x80 ∷ 0x80 ∷ 0xfc ∷ 7 ∷ 1 ∷ 0x8f ∷ 0xfe ∷ 0xff ∷ 7 ∷ 0x81 ∷ 0x80 ∷ 4 ∷ 0x53 ∷ 0 ∷ 0xf0 ∷ 0xd9 ∷ 0xdd ∷ 0xe6 ∷ 0xa ∷ 0x83 ∷ 0x80 ∷ 0x80 ∷ 0x40 ∷ 0 ∷ 0x80 ∷ 0x80 ∷ 0x80 ∷ 0x40 ∷ 0x81 ∷ 0x80 ∷ 0x80 ∷ 0x40 ∷ 0x88 ∷ 0x91 ∷ 0xa0 ∷ 4 ∷ 0 ∷ 0 ∷ 0 ∷ 0 ∷ 0 ∷ 0xa0 ∷ 0xd1 ∷ 0xc2 ∷ 0xc3 ∷ 3 ∷ 0 ∷ 0 ∷ 0xa0 ∷ 0x95 ∷ 0x22 ∷ []) ++ replicate 6 0 ++ (0x80 ∷ []) ++ replicate 20 0 ++ (0x80 ∷ 0x80 ∷ 0xfc ∷ 7 ∷ []) ++ replicate 6 0 ++ (0x80 ∷ 0x80 ∷ 2 ∷ 0xa0 ∷ 0x80 ∷ 2 ∷ []) ++ replicate 10 0 ++ (0xa8 ∷ 1 ∷ 0x82 ∷ 8 ∷ 2 ∷ 3 ∷ 0 ∷ 0 ∷ 1 ∷ 1 ∷ 0 ∷ 0xd0 ∷ 0x9a ∷ 0xed ∷ 0x8a ∷ 0xa ∷ 0x80 ∷ 0x80 ∷ 2 ∷ 0x80 ∷ 0x80 ∷ 2 ∷ 0 ∷ 0 ∷ 0 ∷ 0 ∷ 0 ∷ 0x98 ∷ 0xe1 ∷ 0xa1 ∷ 0x82 ∷ 0xa ∷ 0 ∷ 0 ∷ 0 ∷ 0 ∷ 0xf8 ∷ 1 ∷ 0x82 ∷ 8 ∷ 5 ∷ 3 ∷ 0x80 ∷ 0x80 ∷ 0x40 ∷ 0x80 ∷ 1 ∷ 1 ∷ 1 ∷ 0 ∷ 0 ∷ 0x80 ∷ 0x80 ∷ 2 ∷ 0x20 ∷ []) ++ replicate 10 0 ++ (0xb0 ∷ 1 ∷ 0x80 ∷ 8 ∷ 2 ∷ 3 ∷ 0 ∷ 0 ∷ 1 ∷ 1 ∷ 0 ∷ 0 ∷ 0 ∷ 0xa0 ∷ 0x80 ∷ 2 ∷ []) ++ replicate 10 0 ++ (0xf8 ∷ 1 ∷ 0x82 ∷ 8 ∷ 2 ∷ 3 ∷ 0 ∷ 0x80 ∷ 0x80 ∷ 0x80 ∷ 0x80 ∷ 4 ∷ 0 ∷ 1 ∷ 0 ∷ 0 ∷ 0 ∷ 0xa0 ∷ 0x80 ∷ 2 ∷ []) ++ replicate 10 0 ++ (0xf8 ∷ 1 ∷ 0x82 ∷ 8 ∷ 6 ∷ 3 ∷ 0 ∷ 0x80 ∷ 1 ∷ 1 ∷ 1 ∷ []))) 74
    ∷ refuses (restore ((1 ∷ 5 ∷ 0 ∷ 0x80 ∷ 0x80 ∷ 0xfc ∷ 7 ∷ 1 ∷ 0x8f ∷ 0xfe ∷ 0xff ∷ 7 ∷ 0x81 ∷ 0x80 ∷ 4 ∷ 0x53 ∷ 0 ∷ 0xf0 ∷ 0xd9 ∷ 0xdd ∷ 0xe6 ∷ 0xa ∷ 0x83 ∷ 0x80 ∷ 0x80 ∷ 0x40 ∷ 0 ∷ 0x80 ∷ 0x80 ∷ 0x80 ∷ 0x40 ∷ 0x81 ∷ 0x80 ∷ 0x80 ∷ 0x40 ∷ 0x88 ∷ 0x91 ∷ 0xa0 ∷ 4 ∷ 0 ∷ 0 ∷ 0 ∷ 0 ∷ 0 ∷ 0xa0 ∷ 0xd1 ∷ 0xc2 ∷ 0xc3 ∷ 3 ∷ 0 ∷ 0 ∷ 0xa0 ∷ 0x95 ∷ 0x22 ∷ []) ++ replicate 27 0 ++ (0x80 ∷ 0x80 ∷ 0xfc ∷ 7 ∷ []) ++ replicate 6 0 ++ (0x80 ∷ 0x80 ∷ 2 ∷ 0xa0 ∷ 0x80 ∷ 2 ∷ []) ++ replicate 10 0 ++ (0xa8 ∷ 1 ∷ 0x82 ∷ 8 ∷ 2 ∷ 3 ∷ 0 ∷ 0 ∷ 1 ∷ 1 ∷ 0 ∷ 0xd0 ∷ 0x9a ∷ 0xed ∷ 0x8a ∷ 0xa ∷ 0x80 ∷ 0x80 ∷ 2 ∷ 0x80 ∷ 0x80 ∷ 2 ∷ 0 ∷ 0 ∷ 0 ∷ 0 ∷ 0 ∷ 0x98 ∷ 0xe1 ∷ 0xa1 ∷ 0x82 ∷ 0xa ∷ 0 ∷ 0 ∷ 0 ∷ 0 ∷ 0xf8 ∷ 1 ∷ 0x82 ∷ 8 ∷ 5 ∷ 3 ∷ 0x80 ∷ 0x80 ∷ 0x40 ∷ 0x80 ∷ 1 ∷ 1 ∷ 1 ∷ 0 ∷ 0 ∷ 0x80 ∷ 0x80 ∷ 2 ∷ 0x20 ∷ []) ++ replicate 10 0 ++ (0xb0 ∷ 1 ∷ 0x80 ∷ 8 ∷ 2 ∷ 3 ∷ 0 ∷ 0 ∷ 1 ∷ 1 ∷ 0 ∷ 0 ∷ 0 ∷ 0xa0 ∷ 0x80 ∷ 2 ∷ []) ++ replicate 10 0 ++ (0xf8 ∷ 1 ∷ 0x82 ∷ 8 ∷ 2 ∷ 3 ∷ 0 ∷ 0x80 ∷ 0x80 ∷ 0x80 ∷ 0x80 ∷ 4 ∷ 0 ∷ 1 ∷ 0 ∷ 0 ∷ 0 ∷ 0xa0 ∷ 0x80 ∷ 2 ∷ []) ++ replicate 10 0 ++ (0xf8 ∷ 1 ∷ 0x82 ∷ 8 ∷ 6 ∷ 3 ∷ 0 ∷ 0x80 ∷ 1 ∷ 1 ∷ 1 ∷ []))) 22
    ∷ []

session-7-chunk-23 : differs session-7-rows-23 session-7-state-23 session-7-state-23 ≡ 0
unfolding differs
session-7-chunk-23 = refl

abbrev session-7-rows-24 : List Row
session-7-rows-24 =
    gives (restore ((1 ∷ 0x40 ∷ 5 ∷ 0 ∷ 0x80 ∷ 0x80 ∷ 0xfc ∷ 7 ∷ 1 ∷ 0x8f ∷ 0xfe ∷ 0xff ∷ 7 ∷ 0x81 ∷ 0x80 ∷ 4 ∷ 0x53 ∷ 0xf ∷ 0xf0 ∷ 0xd9 ∷ 0xdd ∷ 0xe6 ∷ 0xa ∷ 0x83 ∷ 0x80 ∷ 0x80 ∷ 0x40 ∷ 0 ∷ 0x80 ∷ 0x80 ∷ 0x80 ∷ 0x40 ∷ 0x81 ∷ 0x80 ∷ 0x80 ∷ 0x40 ∷ 0x88 ∷ 0x91 ∷ 0xa0 ∷ 4 ∷ 0 ∷ 0 ∷ 0 ∷ 0 ∷ 0 ∷ 0xa0 ∷ 0xd1 ∷ 0xc2 ∷ 0xc3 ∷ 3 ∷ 0 ∷ 0 ∷ 0xa0 ∷ 0x95 ∷ 0x22 ∷ []) ++ replicate 27 0 ++ (0x80 ∷ 0x80 ∷ 0xfc ∷ 7 ∷ []) ++ replicate 6 0 ++ (0x80 ∷ 0x80 ∷ 2 ∷ 0xa0 ∷ 0x80 ∷ 2 ∷ []) ++ replicate 10 0 ++ (0xa8 ∷ 1 ∷ 0x82 ∷ 8 ∷ 2 ∷ 3 ∷ 0 ∷ 0 ∷ 1 ∷ 1 ∷ 0 ∷ 0xd0 ∷ 0x9a ∷ 0xed ∷ 0x8a ∷ 0xa ∷ 0x80 ∷ 0x80 ∷ 2 ∷ 0x80 ∷ 0x80 ∷ 2 ∷ 0 ∷ 0 ∷ 0 ∷ 0 ∷ 0 ∷ 0x98 ∷ 0xe1 ∷ 0xa1 ∷ 0x82 ∷ 0xa ∷ 0 ∷ 0 ∷ 0 ∷ 0 ∷ 0xf8 ∷ 1 ∷ 0x82 ∷ 8 ∷ 5 ∷ 3 ∷ 0x80 ∷ 0x80 ∷ 0x40 ∷ 0x80 ∷ 1 ∷ 1 ∷ 1 ∷ 0 ∷ 0 ∷ 0x80 ∷ 0x80 ∷ 2 ∷ 0x20 ∷ []) ++ replicate 10 0 ++ (0xb0 ∷ 1 ∷ 0x80 ∷ 8 ∷ 2 ∷ 3 ∷ 0 ∷ 0 ∷ 1 ∷ 1 ∷ 0 ∷ 0 ∷ 0 ∷ 0xa0 ∷ 0x80 ∷ 2 ∷ []) ++ replicate 10 0 ++ (0xf8 ∷ 1 ∷ 0x82 ∷ 8 ∷ 2 ∷ 3 ∷ 0 ∷ 0x80 ∷ 0x80 ∷ 0x80 ∷ 0x80 ∷ 4 ∷ 0 ∷ 1 ∷ 0 ∷ 0 ∷ 0 ∷ 0xa0 ∷ 0x80 ∷ 2 ∷ []) ++ replicate 10 0 ++ (0xf8 ∷ 1 ∷ 0x82 ∷ 8 ∷ 6 ∷ 3 ∷ 0 ∷ 0x80 ∷ 1 ∷ 1 ∷ 1 ∷ []))) 0
    ∷ []

session-7-chunk-24 : differs session-7-rows-24 session-7-state-23 (changed session-7-state-23 (
    (3, 3) ∷ (4, 0xf) ∷ (17, 0x8000) ∷ (18, 0x8020) ∷ (35, 0xa8) ∷ (36, 2) ∷ (41, 1) ∷ (42, 1) ∷ (48, 0xa15b4d50) ∷ (49, 0x8000) ∷ (50, 0x8000) ∷
    (56, 0xa0487098) ∷ (67, 0xf8) ∷ (68, 2) ∷ (69, 5) ∷ (71, 0x100000) ∷ (72, 0x80) ∷ (73, 1) ∷ (74, 1) ∷ (81, 0x8000) ∷ (82, 0x20) ∷ (99, 0xb0) ∷
    (105, 1) ∷ (106, 1) ∷ (114, 0x8020) ∷ (131, 0xf8) ∷ (132, 2) ∷ (136, 0x40000000) ∷ (138, 1) ∷ (146, 0x8020) ∷ (163, 0xf8) ∷ (164, 2) ∷ (165, 6) ∷
    (168, 0x80) ∷ (169, 1) ∷ (170, 1) ∷ (272, 0xacd76cf0) ∷ (273, 0x8000003) ∷ (275, 0x8000000) ∷ (276, 0x8000001) ∷ (277, 0x880888) ∷
    (283, 0x3870a8a0) ∷ (286, 0x2bc) ∷ (795, 0xff0000) ∷ []
    )) ≡ 0
unfolding differs
session-7-chunk-24 = refl

abbrev session-7-state-25 : List ℕ
session-7-state-25 = words 1760 (
    (0, 1) ∷ (1, 0x40) ∷ (2, 5) ∷ (3, 3) ∷ (17, 0x10000) ∷ (18, 0x800b) ∷ (20, 0x10000) ∷ (25, 0xa0f8f870) ∷ (29, 0xffff) ∷ (33, 1) ∷ (35, 0x80) ∷
    (37, 2) ∷ (38, 3) ∷ (41, 1) ∷ (49, 0x10000) ∷ (51, 0x1e8e61d1) ∷ (52, 0x10000) ∷ (61, 0xffff) ∷ (64, 0xff0000) ∷ (65, 1) ∷ (67, 0xf8) ∷ (69, 2) ∷
    (70, 3) ∷ (73, 1) ∷ (74, 1) ∷ (82, 0x800a) ∷ (93, 0xffff) ∷ (96, 1) ∷ (101, 2) ∷ (102, 3) ∷ (113, 0xcb678973) ∷ (114, 8) ∷ (116, 0x10000) ∷
    (121, 0xa04098a8) ∷ (125, 0xffff) ∷ (128, 0xffff0f) ∷ (129, 1) ∷ (131, 0xa8) ∷ (133, 2) ∷ (134, 3) ∷ (137, 1) ∷ (138, 1) ∷ (146, 0xa) ∷
    (157, 0xffff) ∷ (160, 0x10001) ∷ (165, 2) ∷ (166, 3) ∷ (272, 0xb7d8d820) ∷ (273, 0x90000000) ∷ (275, 0x80000000) ∷ (276, 0x90000000) ∷
    (284, 0x70e8d0f0) ∷ (286, 0x668) ∷ (781, 0xd241c4) ∷ (796, 0xffff0f) ∷ []
    )

abbrev session-7-rows-25 : List Row
session-7-rows-25 =
    gives (read_system 3 0xc642) 0x10
    ∷ gives (read_system 3 0xc640) 0x3ff
    ∷ []

session-7-chunk-25 : differs session-7-rows-25 session-7-state-25 session-7-state-25 ≡ 0
unfolding differs
session-7-chunk-25 = refl

abbrev session-7-state-26 : List ℕ
session-7-state-26 = words 1760 (
    (0, 1) ∷ (1, 0x40) ∷ (2, 5) ∷ (3, 3) ∷ (17, 0x10000) ∷ (18, 0x800b) ∷ (20, 0x10000) ∷ (25, 0xa0f8f870) ∷ (29, 0xffff) ∷ (33, 1) ∷ (35, 0x80) ∷
    (37, 2) ∷ (38, 3) ∷ (41, 1) ∷ (49, 0x10000) ∷ (51, 0x1e8e61d1) ∷ (52, 0x10000) ∷ (61, 0xffff) ∷ (64, 0xff0000) ∷ (65, 1) ∷ (67, 0xf8) ∷ (69, 2) ∷
    (70, 3) ∷ (73, 1) ∷ (74, 1) ∷ (82, 0x800a) ∷ (93, 0xffff) ∷ (96, 1) ∷ (101, 2) ∷ (102, 3) ∷ (113, 0xcb678973) ∷ (114, 8) ∷ (116, 0x10000) ∷
    (121, 0xa04098a8) ∷ (125, 0xffff) ∷ (128, 0xffff0f) ∷ (129, 1) ∷ (131, 0xa8) ∷ (133, 5) ∷ (134, 3) ∷ (136, 0x4000) ∷ (137, 1) ∷ (138, 1) ∷
    (146, 0xa) ∷ (157, 0xffff) ∷ (160, 0x10001) ∷ (165, 2) ∷ (166, 3) ∷ (272, 0xb7d8d820) ∷ (273, 0x90000000) ∷ (275, 0x80000000) ∷ (276, 0x90000000) ∷
    (284, 0x70e8d0f0) ∷ (286, 0x668) ∷ (781, 0xd241c4) ∷ (796, 0xffff0f) ∷ (799, 0xffff0f) ∷ []
    )

abbrev session-7-rows-26 : List Row
session-7-rows-26 =
    gives (read_system 3 0xc642) 0x10
    ∷ []

session-7-chunk-26 : differs session-7-rows-26 session-7-state-26 session-7-state-26 ≡ 0
unfolding differs
session-7-chunk-26 = refl

abbrev session-7-state-27 : List ℕ
session-7-state-27 = words 1760 (
    (0, 1) ∷ (1, 0x40) ∷ (2, 5) ∷ (3, 3) ∷ (17, 0x10000) ∷ (18, 0x800b) ∷ (19, 0x10000) ∷ (20, 0x10000) ∷ (25, 0xa0f8f870) ∷ (29, 0xffff) ∷ (33, 1) ∷
    (35, 0xf8) ∷ (37, 2) ∷ (38, 3) ∷ (39, 0x4000) ∷ (41, 1) ∷ (42, 1) ∷ (49, 0x10000) ∷ (51, 0x1e8f61d1) ∷ (52, 0x10000) ∷ (61, 0xffff) ∷
    (64, 0xff0000) ∷ (65, 1) ∷ (67, 0xf8) ∷ (69, 2) ∷ (70, 3) ∷ (71, 1) ∷ (73, 1) ∷ (74, 1) ∷ (82, 0x800a) ∷ (93, 0xffff) ∷ (96, 1) ∷ (101, 2) ∷
    (102, 3) ∷ (113, 0xcb678973) ∷ (114, 8) ∷ (115, 0x10000) ∷ (116, 0x10000) ∷ (121, 0xa0409850) ∷ (125, 0xffff) ∷ (128, 0xffff0f) ∷ (129, 1) ∷
    (131, 0xa8) ∷ (133, 5) ∷ (134, 3) ∷ (135, 0x100) ∷ (137, 1) ∷ (138, 1) ∷ (146, 0xa) ∷ (157, 0xffff) ∷ (160, 0x10001) ∷ (165, 2) ∷ (166, 3) ∷
    (272, 0xb7d8d820) ∷ (273, 0x90000000) ∷ (284, 0x70e8d0f8) ∷ (286, 0x668) ∷ (781, 0xd241c4) ∷ (796, 0xff0000) ∷ (799, 0xffff0f) ∷ []
    )

abbrev session-7-rows-27 : List Row
session-7-rows-27 =
    gives (write_distributor 0 0x61f8 4 0x80ff0000) 0
    ∷ gives (set_running 2 true) 0
    ∷ []

session-7-chunk-27 : differs session-7-rows-27 session-7-state-27 (changed session-7-state-27 ((97, 1) ∷ (799, 0xff0000) ∷ [])) ≡ 0
unfolding differs
session-7-chunk-27 = refl

abbrev session-7-state-28 : List ℕ
session-7-state-28 = words 1760 (
    (0, 1) ∷ (1, 0x40) ∷ (2, 5) ∷ (17, 0x10000) ∷ (18, 0x800b) ∷ (19, 0x10000) ∷ (25, 0xa0f8f838) ∷ (29, 0xffff) ∷ (33, 1) ∷ (35, 0xf8) ∷ (37, 2) ∷
    (38, 3) ∷ (40, 0xe9ef930) ∷ (41, 1) ∷ (42, 1) ∷ (49, 0x10000) ∷ (50, 9) ∷ (51, 0x1e8f61d1) ∷ (52, 0x10000) ∷ (61, 0xffff) ∷ (64, 0xff0000) ∷
    (67, 0xf8) ∷ (69, 2) ∷ (70, 3) ∷ (71, 1) ∷ (73, 1) ∷ (74, 1) ∷ (82, 0x800b) ∷ (93, 0xffff) ∷ (96, 1) ∷ (101, 2) ∷ (102, 3) ∷ (113, 0xcb678973) ∷
    (114, 8) ∷ (116, 0x10000) ∷ (121, 0xa0f840f8) ∷ (125, 0xffff) ∷ (128, 0xffff0f) ∷ (129, 1) ∷ (131, 0xa8) ∷ (133, 3) ∷ (134, 7) ∷ (137, 1) ∷
    (138, 1) ∷ (146, 0xb) ∷ (157, 0xffff) ∷ (160, 0x10001) ∷ (165, 2) ∷ (166, 3) ∷ (272, 0xb7d8d820) ∷ (273, 0x90000000) ∷ (274, 0x80000000) ∷
    (276, 0x90000000) ∷ (284, 0xa8a00080) ∷ (286, 0x8c2a) ∷ (781, 0xd241c4) ∷ (796, 0xff0000) ∷ (799, 0xffff0f) ∷ []
    )

abbrev session-7-rows-28 : List Row
session-7-rows-28 =
    gives (read_frame 3 3 0x7c 1) 0
    ∷ gives (write_distributor 0 0x6000 4 0xffffffff) 0
    ∷ gives (read_distributor 0 0x6000 4) 0
    ∷ gives (write_distributor 3 0x184 4 0x10000000) 0
    ∷ gives (write_distributor 0 0x27c 4 0x80000000) 0
    ∷ gives make 0
    ∷ []

session-7-chunk-28 : differs session-7-rows-28 session-7-state-28 (words 1760 []) ≡ 0
unfolding differs
session-7-chunk-28 = refl

abbrev session-7-state-29 : List ℕ
session-7-state-29 = words 1760 (
    (0, 1) ∷ (1, 0x40) ∷ (2, 1) ∷ (3, 3) ∷ (16, 0xf654063b) ∷ (17, 0xffffffff) ∷ (18, 0x8000) ∷ (19, 0x30000) ∷ (20, 0x8030000) ∷ (21, 0x98e8a010) ∷
    (24, 0x88a01090) ∷ (25, 0xf8f80000) ∷ (28, 0xf0000000) ∷ (29, 0xffff) ∷ (33, 1) ∷ (35, 0xa8) ∷ (36, 2) ∷ (37, 2) ∷ (38, 3) ∷ (41, 1) ∷ (42, 1) ∷
    (272, 0x4764161f) ∷ (273, 0xc8020000) ∷ (275, 0x20000) ∷ (276, 0x437222d1) ∷ (279, 0x10000840) ∷ (281, 0x60b040e8) ∷ (283, 0x85848c0) ∷
    (774, 0x400) ∷ (778, 0x402) ∷ (782, 0xffffff) ∷ []
    )

abbrev session-7-rows-29 : List Row
session-7-rows-29 =
    gives (query_signal 0) 2
    ∷ gives (change_line 0xffffffff 0x3e false) 0
    ∷ []

session-7-chunk-29 : differs session-7-rows-29 session-7-state-29 (changed session-7-state-29 ((276, 0x37222d1) ∷ [])) ≡ 0
unfolding differs
session-7-chunk-29 = refl

abbrev session-7-state-30 : List ℕ
session-7-state-30 = words 1760 (
    (0, 1) ∷ (1, 0x40) ∷ (2, 1) ∷ (3, 3) ∷ (16, 0xf654063b) ∷ (17, 0xffffffff) ∷ (18, 0x8000) ∷ (19, 0x8030000) ∷ (20, 0x8030000) ∷ (21, 0x98e8a010) ∷
    (24, 0x88a01090) ∷ (25, 0xf8f80000) ∷ (28, 0xf0000000) ∷ (29, 0xffff) ∷ (33, 1) ∷ (35, 0xa8) ∷ (36, 2) ∷ (37, 2) ∷ (38, 3) ∷ (41, 1) ∷ (42, 1) ∷
    (272, 0x4764161f) ∷ (273, 0xc8020000) ∷ (275, 0x20000) ∷ (276, 0x37222d1) ∷ (279, 0x10000840) ∷ (281, 0x60b040e8) ∷ (283, 0x85848c0) ∷ (774, 0x400) ∷
    (778, 0x402) ∷ (782, 0xffffff) ∷ []
    )

abbrev session-7-rows-30 : List Row
session-7-rows-30 =
    gives (write_system 0 0xc661 0x3fb) 0
    ∷ gives (write_system 0 0xc659 0x3fb) 0
    ∷ gives (read_distributor 0 0x774c 4) 0
    ∷ refuses (change_line 0 0x3fb false) 22
    ∷ refuses (write_distributor 1 0 4 2) 22
    ∷ gives (read_distributor 0 0 4) 0x53
    ∷ []

session-7-chunk-30 : differs session-7-rows-30 session-7-state-30 session-7-state-30 ≡ 0
unfolding differs
session-7-chunk-30 = refl

abbrev session-7-state-31 : List ℕ
session-7-state-31 = words 1760 (
    (0, 1) ∷ (1, 0x40) ∷ (2, 1) ∷ (3, 3) ∷ (16, 0xf654063b) ∷ (17, 0xffffffff) ∷ (18, 0x8000) ∷ (19, 0x8030000) ∷ (20, 0x8030000) ∷ (21, 0x98e8a010) ∷
    (24, 0x88a01090) ∷ (25, 0xf8f80000) ∷ (28, 0xf0000000) ∷ (29, 0xffff) ∷ (33, 1) ∷ (35, 0xa8) ∷ (36, 2) ∷ (37, 2) ∷ (38, 3) ∷ (39, 1) ∷ (41, 1) ∷
    (42, 1) ∷ (272, 0x4764161f) ∷ (273, 0xc8020000) ∷ (274, 0x40000000) ∷ (275, 0x80020000) ∷ (276, 0x837222d1) ∷ (279, 0x10000840) ∷ (281, 0x60b040e8) ∷
    (283, 0x85848c0) ∷ (774, 0x400) ∷ (778, 0x402) ∷ (782, 0xffffff) ∷ []
    )

abbrev session-7-rows-31 : List Row
session-7-rows-31 =
    gives (query_signal 0) 0
    ∷ gives (read_system 0 0xc642) 0x3ff
    ∷ []

session-7-chunk-31 : differs session-7-rows-31 session-7-state-31 session-7-state-31 ≡ 0
unfolding differs
session-7-chunk-31 = refl

abbrev session-7-state-32 : List ℕ
session-7-state-32 = words 1760 (
    (0, 1) ∷ (1, 0x40) ∷ (2, 1) ∷ (3, 3) ∷ (16, 0xf654063b) ∷ (17, 0xffffffff) ∷ (18, 0x8000) ∷ (19, 0x8030000) ∷ (20, 0x8030000) ∷ (21, 0x98e8a010) ∷
    (24, 0x88a01090) ∷ (25, 0xf8f80000) ∷ (28, 0xf0000000) ∷ (29, 0xffff) ∷ (33, 1) ∷ (35, 0xa8) ∷ (36, 2) ∷ (37, 2) ∷ (38, 3) ∷ (40, 1) ∷ (41, 1) ∷
    (42, 1) ∷ (272, 0x4764161f) ∷ (273, 0xc8020000) ∷ (275, 0xc0020000) ∷ (276, 0xc37222d1) ∷ (279, 0x10000840) ∷ (281, 0x60b040e8) ∷ (283, 0x85848c0) ∷
    (774, 0x400) ∷ (778, 0x402) ∷ (782, 0xffffff) ∷ []
    )

abbrev session-7-rows-32 : List Row
session-7-rows-32 =
    gives (write_system 0 0xc661 0x30cdbd137700003e) 0
    ∷ gives (write_system 0 0xc659 0x30cdbd137700003e) 0
    ∷ []

session-7-chunk-32 : differs session-7-rows-32 session-7-state-32 (changed session-7-state-32 ((40, 0) ∷ (275, 0x80020000) ∷ [])) ≡ 0
unfolding differs
session-7-chunk-32 = refl

abbrev session-7-state-33 : List ℕ
session-7-state-33 = words 1760 (
    (0, 1) ∷ (1, 0x40) ∷ (2, 1) ∷ (3, 3) ∷ (16, 0xf654063b) ∷ (17, 0xffffffff) ∷ (18, 1) ∷ (19, 0x8030000) ∷ (20, 0x8030000) ∷ (21, 0x98e8a010) ∷
    (24, 0x88a01090) ∷ (25, 0xf8f80000) ∷ (28, 0xf0000000) ∷ (29, 0xffff) ∷ (33, 1) ∷ (35, 0xf8) ∷ (36, 2) ∷ (37, 7) ∷ (38, 3) ∷ (40, 1) ∷ (41, 1) ∷
    (42, 1) ∷ (272, 0x4764161f) ∷ (273, 0xc8020010) ∷ (275, 0x20010) ∷ (276, 0x437226d1) ∷ (278, 0x10) ∷ (279, 0x10000840) ∷ (281, 0x60b040e8) ∷
    (283, 0x85848c0) ∷ (284, 0x88a0f8f0) ∷ (774, 0x400) ∷ (778, 0x402) ∷ (782, 0xffffff) ∷ []
    )

abbrev session-7-rows-33 : List Row
session-7-rows-33 =
    gives (write_system 0 0xc661 0x326155e27100000f) 0
    ∷ []

session-7-chunk-33 : differs session-7-rows-33 session-7-state-33 (changed session-7-state-33 ((40, 0) ∷ [])) ≡ 0
unfolding differs
session-7-chunk-33 = refl

abbrev session-7-rows-34 : List Row
session-7-rows-34 =
    refuses (restore ((1 ∷ 0x40 ∷ 1 ∷ 0 ∷ 0x50 ∷ []) ++ replicate 9 0 ++ (0xf8 ∷ 0xf1 ∷ 0xe3 ∷ 0xc7 ∷ 0xf ∷ []) ++ replicate 7 0 ++ (0x80 ∷ 8 ∷ []) ++ replicate 45 0 ++ (0x80 ∷ 8 ∷ 2 ∷ 3 ∷ 0 ∷ 0 ∷ 0 ∷ 0 ∷ 1 ∷ []))) 74
    ∷ []

session-7-chunk-34 : differs session-7-rows-34 session-7-state-4 session-7-state-4 ≡ 0
unfolding differs
session-7-chunk-34 = refl

abbrev session-7-state-35 : List ℕ
session-7-state-35 = words 1760 (
    (0, 1) ∷ (1, 0x40) ∷ (2, 1) ∷ (3, 3) ∷ (29, 0xffff) ∷ (33, 1) ∷ (35, 0xf8) ∷ (37, 4) ∷ (38, 3) ∷ (41, 1) ∷ (273, 0x80000000) ∷ (276, 0x80000000) ∷
    (280, 0xf8f8f8f8) ∷ (769, 0x400) ∷ []
    )

abbrev session-7-rows-35 : List Row
session-7-rows-35 =
    gives (write_system 0 0xc663 2) 0
    ∷ []

session-7-chunk-35 : differs session-7-rows-35 session-7-state-35 session-7-state-35 ≡ 0
unfolding differs
session-7-chunk-35 = refl

abbrev session-7-state-36 : List ℕ
session-7-state-36 = words 1760 (
    (0, 1) ∷ (1, 0x40) ∷ (2, 1) ∷ (3, 3) ∷ (18, 8) ∷ (25, 0xa000) ∷ (29, 0xffff) ∷ (33, 1) ∷ (35, 0xf8) ∷ (37, 2) ∷ (38, 5) ∷ (39, 0x300000) ∷ (41, 1) ∷
    (42, 1) ∷ (273, 0xbb65918b) ∷ (276, 0x80000000) ∷ (280, 0xf8f8f8f8) ∷ (284, 0xa0000000) ∷ (769, 0x400) ∷ []
    )

abbrev session-7-rows-36 : List Row
session-7-rows-36 =
    gives (write_distributor 0 0x43c 4 0xa7000000) 0
    ∷ gives (write_system 0 0xc663 0) 0
    ∷ gives (read_system 0 0xc640) 0x3ff
    ∷ []

session-7-chunk-36 : differs session-7-rows-36 session-7-state-36 (changed session-7-state-36 ((38, 3) ∷ [])) ≡ 0
unfolding differs
session-7-chunk-36 = refl

abbrev session-7-state-37 : List ℕ
session-7-state-37 = words 1760 ((2, 1) ∷ (29, 0xffff) ∷ (37, 2) ∷ (38, 3) ∷ [])

abbrev session-7-rows-37 : List Row
session-7-rows-37 =
    refuses (add_vcpu 0) 17
    ∷ refuses (read_distributor 0 0x17c 4) 16
    ∷ []

session-7-chunk-37 : differs session-7-rows-37 session-7-state-37 session-7-state-37 ≡ 0
unfolding differs
session-7-chunk-37 = refl

abbrev session-7-state-38 : List ℕ
session-7-state-38 = words 1760 (
    (0, 1) ∷ (1, 0x40) ∷ (2, 5) ∷ (3, 2) ∷ (18, 8) ∷ (29, 0xffff) ∷ (37, 2) ∷ (38, 3) ∷ (50, 8) ∷ (61, 0xffff) ∷ (64, 0xf) ∷ (67, 0xf8) ∷ (69, 2) ∷
    (70, 3) ∷ (73, 1) ∷ (74, 1) ∷ (80, 0xa2bd8630) ∷ (81, 0x10000) ∷ (82, 7) ∷ (84, 0x10000) ∷ (93, 0xffff) ∷ (96, 3) ∷ (99, 0xf8) ∷ (101, 2) ∷
    (102, 3) ∷ (105, 1) ∷ (106, 1) ∷ (112, 0x2abf17ce) ∷ (113, 0x30000) ∷ (121, 0x58d08848) ∷ (125, 0xffff) ∷ (128, 0x7f0003) ∷ (131, 0xa8) ∷ (133, 2) ∷
    (134, 7) ∷ (136, 1) ∷ (137, 1) ∷ (138, 1) ∷ (145, 0x10000) ∷ (146, 1) ∷ (148, 0x10000) ∷ (157, 0xffff) ∷ (160, 0x100) ∷ (163, 0xf8) ∷ (164, 2) ∷
    (165, 2) ∷ (166, 3) ∷ (169, 1) ∷ (170, 1) ∷ (272, 0xafd16d22) ∷ (273, 0x88200100) ∷ (274, 0x8000001) ∷ (275, 0x3efdffdd) ∷ (276, 0x8200100) ∷
    (282, 0x88088f0) ∷ (283, 0x8081008) ∷ (284, 0xd0d820) ∷ (286, 0xffff) ∷ (768, 0x7f0003) ∷ (776, 0x7f0003) ∷ (795, 0xf) ∷ []
    )

abbrev session-7-rows-38 : List Row
session-7-rows-38 =
    refuses (set_attribute 6 0x30000c664 0x8400) 22
    ∷ []

session-7-chunk-38 : differs session-7-rows-38 session-7-state-38 session-7-state-38 ≡ 0
unfolding differs
session-7-chunk-38 = refl

abbrev session-7-state-39 : List ℕ
session-7-state-39 = words 1760 (
    (0, 1) ∷ (1, 0x40) ∷ (2, 5) ∷ (3, 3) ∷ (18, 8) ∷ (29, 0xffff) ∷ (33, 1) ∷ (37, 2) ∷ (38, 3) ∷ (49, 0x10000) ∷ (50, 0xa) ∷ (51, 0x10000) ∷
    (52, 0x10000) ∷ (61, 0xffff) ∷ (64, 0xf) ∷ (65, 1) ∷ (67, 0xf8) ∷ (69, 7) ∷ (70, 3) ∷ (73, 1) ∷ (74, 1) ∷ (80, 0xa2bd8630) ∷ (81, 0x10000) ∷
    (82, 7) ∷ (83, 0x10000) ∷ (84, 0x10000) ∷ (93, 0xffff) ∷ (96, 3) ∷ (97, 1) ∷ (99, 0xf8) ∷ (101, 2) ∷ (102, 3) ∷ (104, 1) ∷ (105, 1) ∷ (106, 1) ∷
    (112, 0x2abf17ce) ∷ (113, 0x30000) ∷ (114, 2) ∷ (121, 0x98a000f8) ∷ (125, 0xffff) ∷ (128, 0x7f0003) ∷ (129, 1) ∷ (131, 0xa8) ∷ (133, 2) ∷ (134, 7) ∷
    (137, 1) ∷ (138, 1) ∷ (145, 0x10000) ∷ (146, 0x20002) ∷ (157, 0xffff) ∷ (160, 0x100) ∷ (161, 1) ∷ (163, 0xf8) ∷ (164, 2) ∷ (165, 2) ∷ (166, 3) ∷
    (167, 1) ∷ (169, 1) ∷ (170, 1) ∷ (272, 0xafd16d22) ∷ (273, 0x88200101) ∷ (274, 0x8000000) ∷ (275, 0x3efffede) ∷ (276, 0x8000101) ∷
    (279, 0xa088a010) ∷ (282, 0x88088f0) ∷ (283, 0x8081008) ∷ (284, 0xd0d820) ∷ (286, 0xffff) ∷ (768, 0xf) ∷ (776, 0xf) ∷ (795, 0xf) ∷ []
    )

abbrev session-7-rows-39 : List Row
session-7-rows-39 =
    gives (write_system 0 0xc65d 0x7f0f000008) 0
    ∷ gives (write_distributor 1 0xc08 4 0x55555555) 0
    ∷ gives (set_attribute 4 0 0) 0
    ∷ gives (write_system 3 0xc65d 0x9017) 0
    ∷ gives (change_line 0 0x10 true) 0
    ∷ []

session-7-chunk-39 : differs session-7-rows-39 session-7-state-39 (changed session-7-state-39 ((18, 9) ∷ (20, 0x10000) ∷ (50, 0xb) ∷ (114, 0x8002) ∷ [])) ≡ 0
unfolding differs
session-7-chunk-39 = refl

abbrev session-7-rows-40 : List Row
session-7-rows-40 =
    gives (restore (1 ∷ 0x40 ∷ 5 ∷ 0 ∷ 0x80 ∷ 0x80 ∷ 0xfc ∷ 7 ∷ 1 ∷ 0x8f ∷ 0xfe ∷ 0xff ∷ 7 ∷ 0x81 ∷ 0x80 ∷ 4 ∷ 0x50 ∷ 0xf ∷ 0x80 ∷ 8 ∷ 0x82 ∷ 8 ∷ 0x89 ∷ 0xf2 ∷ 0xe5 ∷ 0xdd ∷ 0xc ∷ 0xff ∷ 0xff ∷ 0xff ∷ 0xff ∷ 0xf ∷ 0xd0 ∷ 0xa6 ∷ 0xa8 ∷ 0x93 ∷ 5 ∷ 0 ∷ 0 ∷ 0 ∷ 0 ∷ 0xa8 ∷ 0xd1 ∷ 0xa2 ∷ 0xc5 ∷ 0xa ∷ 0x98 ∷ 0xc1 ∷ 0xe0 ∷ 0x80 ∷ 3 ∷ 0 ∷ 0 ∷ 0 ∷ 0xaa ∷ 0xd5 ∷ 0xaa ∷ 0xd5 ∷ 0xa ∷ 0x82 ∷ 8 ∷ 0x80 ∷ 8 ∷ 0x82 ∷ 8 ∷ 0x80 ∷ 8 ∷ 0x80 ∷ 8 ∷ 0xff ∷ 0xff ∷ 3 ∷ 0x80 ∷ 8 ∷ 0x99 ∷ 0xc6 ∷ 0x85 ∷ 2 ∷ 0x82 ∷ 8 ∷ 1 ∷ 0x80 ∷ 8 ∷ 0x82 ∷ 8 ∷ 0xff ∷ 0xff ∷ 0xff ∷ 7 ∷ 0x80 ∷ 8 ∷ 0x82 ∷ 8 ∷ 0xff ∷ 0xff ∷ 0xff ∷ 7 ∷ 0x82 ∷ 8 ∷ 0x82 ∷ 8 ∷ 0xb5 ∷ 0x92 ∷ 0xee ∷ 2 ∷ 0x82 ∷ 8 ∷ 0xff ∷ 0xff ∷ 0xff ∷ 7 ∷ 0x80 ∷ 8 ∷ 0x82 ∷ 8 ∷ 0xff ∷ 0xff ∷ 0xff ∷ 7 ∷ 0xff ∷ 0xff ∷ 0xff ∷ 7 ∷ 0xf7 ∷ 0x9d ∷ 0x69 ∷ 0xff ∷ 0xff ∷ 0xff ∷ 7 ∷ 0x82 ∷ 8 ∷ 0x80 ∷ 8 ∷ 0x89 ∷ 0x95 ∷ 0xee ∷ 2 ∷ 0x80 ∷ 8 ∷ 0xa0 ∷ 0xc3 ∷ 0x9f ∷ 6 ∷ 2 ∷ 0x80 ∷ 8 ∷ 0xa0 ∷ 0xb1 ∷ 0xe2 ∷ 0xc4 ∷ 9 ∷ 0xff ∷ 0xff ∷ 0xff ∷ 0xff ∷ 0xf ∷ 0x80 ∷ 0x80 ∷ 0xfc ∷ 0xff ∷ 0xf ∷ 0x80 ∷ 0x80 ∷ 0xc4 ∷ 0x8f ∷ 9 ∷ 0 ∷ 0 ∷ 0xc0 ∷ 0x91 ∷ 0xa1 ∷ 0x82 ∷ 0xe ∷ 0xf0 ∷ 0xd0 ∷ 0xc0 ∷ 0x85 ∷ 0xa ∷ 0 ∷ 0xf8 ∷ 0xf1 ∷ 0xe3 ∷ 0xc7 ∷ 0xf ∷ 0xf8 ∷ 0xf1 ∷ 0xe3 ∷ 0x47 ∷ 0xe0 ∷ 0xc0 ∷ 0x80 ∷ 0xc2 ∷ 4 ∷ 0xd0 ∷ 1 ∷ 0x80 ∷ 8 ∷ 2 ∷ 7 ∷ 0x82 ∷ 8 ∷ 0x8c ∷ 0x8b ∷ 0xe5 ∷ 0xee ∷ 2 ∷ 0 ∷ 0 ∷ 0 ∷ 0x80 ∷ 8 ∷ 0xa2 ∷ 0xd1 ∷ 0xfc ∷ 0xbc ∷ 0xb ∷ 0x89 ∷ 0xd6 ∷ 0x8b ∷ 0xf6 ∷ 3 ∷ 0x80 ∷ 8 ∷ 0x80 ∷ 0x80 ∷ 0xb0 ∷ 0xc2 ∷ 8 ∷ 0 ∷ 0xf8 ∷ 0xf1 ∷ 0xe3 ∷ 0xc7 ∷ 0xf ∷ 0 ∷ 0xf8 ∷ 0xf1 ∷ 0xe3 ∷ 0xc7 ∷ 0xf ∷ 0xf8 ∷ 0xf1 ∷ 3 ∷ 0xb8 ∷ 0xb1 ∷ 0xa1 ∷ 0xc1 ∷ 9 ∷ 0 ∷ 0xa8 ∷ 0xf1 ∷ 0xa2 ∷ 0xc2 ∷ 9 ∷ 0xf8 ∷ 1 ∷ 0x82 ∷ 8 ∷ 7 ∷ 3 ∷ 0x82 ∷ 8 ∷ 0x80 ∷ 8 ∷ 1 ∷ 0 ∷ 0xf ∷ 0x80 ∷ 8 ∷ 0x82 ∷ 8 ∷ 0x80 ∷ 0x80 ∷ 4 ∷ 0x80 ∷ 8 ∷ 0 ∷ 0 ∷ 0xe8 ∷ 0xc0 ∷ 0xa0 ∷ 0xc6 ∷ 4 ∷ 0xf0 ∷ 0xf1 ∷ 0xa0 ∷ 0x81 ∷ 0xa ∷ 0 ∷ 0xd8 ∷ 0xf1 ∷ 0x80 ∷ 0x46 ∷ 0x80 ∷ 0x80 ∷ 0x80 ∷ 0x80 ∷ 0xf ∷ 0xc8 ∷ 0xc0 ∷ 0x82 ∷ 0xc4 ∷ 9 ∷ 0 ∷ 0 ∷ 0x82 ∷ 8 ∷ 7 ∷ 3 ∷ 0x89 ∷ 0xe4 ∷ 0xb1 ∷ 0xa6 ∷ 2 ∷ 0x80 ∷ 8 ∷ 1 ∷ 1 ∷ 0 ∷ 0x80 ∷ 8 ∷ 0xb4 ∷ 0xbe ∷ 0x8e ∷ 0x6e ∷ 0x82 ∷ 8 ∷ 0xf0 ∷ 0xd3 ∷ 0x9c ∷ 0xcc ∷ 5 ∷ 0x80 ∷ 0x80 ∷ 0xfc ∷ 0xff ∷ 0xf ∷ 0 ∷ 0 ∷ 0 ∷ 0 ∷ 0xf8 ∷ 0xf1 ∷ 0xe3 ∷ 0xc7 ∷ 0xf ∷ 0xa8 ∷ 0xb1 ∷ 0xa0 ∷ 0xc1 ∷ 0xb ∷ 0x98 ∷ 0xd0 ∷ 0xe3 ∷ 0xc1 ∷ 7 ∷ 0 ∷ 0xe8 ∷ 1 ∷ 0x82 ∷ 8 ∷ 2 ∷ 3 ∷ 0x80 ∷ 8 ∷ 0x80 ∷ 8 ∷ 1 ∷ 0 ∷ 0 ∷ 0xff ∷ 0xff ∷ 0xff ∷ 0xff ∷ 0xf ∷ 0x80 ∷ 8 ∷ 0xbc ∷ 0xf0 ∷ 0xc3 ∷ 3 ∷ 0x80 ∷ 8 ∷ 0x80 ∷ 0x80 ∷ 0xc4 ∷ 0xb5 ∷ 2 ∷ 0xf8 ∷ 0xf1 ∷ 0xe3 ∷ 0xc7 ∷ 0xf ∷ 0xf8 ∷ 0xf1 ∷ 0xe3 ∷ 0xc7 ∷ 0xf ∷ 0xa0 ∷ 0xc1 ∷ 0x82 ∷ 0x85 ∷ 0xa ∷ 0 ∷ 0 ∷ 0xb8 ∷ 0xd0 ∷ 0xc1 ∷ 0xc4 ∷ 0xc ∷ 0 ∷ 0xf8 ∷ 0xf1 ∷ 0xe3 ∷ 0xc7 ∷ 0xf ∷ 0 ∷ 0x82 ∷ 8 ∷ 2 ∷ 3 ∷ 0x80 ∷ 8 ∷ 0x82 ∷ 8 ∷ 1 ∷ 1 ∷ [])) 0
    ∷ []

session-7-chunk-40 : differs session-7-rows-40 session-7-state-23 (changed session-7-state-23 (
    (4, 0xf) ∷ (16, 0x400) ∷ (17, 0x989898a0) ∷ (18, 0xffffffff) ∷ (19, 0xffff0000) ∷ (20, 0x91f10000) ∷ (23, 0xe04848c0) ∷ (24, 0xa0b02870) ∷
    (26, 0xf8f8f8f8) ∷ (27, 0x8f8f8f8) ∷ (28, 0x48402060) ∷ (34, 2) ∷ (35, 0xd0) ∷ (38, 7) ∷ (39, 0x402) ∷ (40, 0x2dd9458c) ∷ (48, 0x400) ∷
    (49, 0xb79f28a2) ∷ (50, 0x3ec2eb09) ∷ (51, 0x400) ∷ (52, 0x884c0000) ∷ (54, 0xf8f8f8f8) ∷ (56, 0xf8f8f8f8) ∷ (57, 0xf8f8) ∷ (58, 0x982858b8) ∷
    (60, 0x9848b8a8) ∷ (67, 0xf8) ∷ (68, 2) ∷ (69, 7) ∷ (71, 0x402) ∷ (72, 0x400) ∷ (73, 1) ∷ (80, 0x400) ∷ (81, 0x402) ∷ (82, 0x10000) ∷ (83, 0x400) ∷
    (86, 0x48c82068) ∷ (87, 0xa02838f0) ∷ (89, 0x8c038d8) ∷ (90, 0xf0000000) ∷ (91, 0x9880a048) ∷ (98, 0xf) ∷ (100, 2) ∷ (101, 7) ∷ (103, 0x24cc7209) ∷
    (104, 0x400) ∷ (105, 1) ∷ (106, 1) ∷ (112, 0x400) ∷ (113, 0xdc39f34) ∷ (114, 0x402) ∷ (115, 0x598729f0) ∷ (116, 0xffff0000) ∷ (121, 0xf8f8f8f8) ∷
    (122, 0xb82818a8) ∷ (123, 0x7838e818) ∷ (131, 0xe8) ∷ (132, 2) ∷ (135, 0x400) ∷ (136, 0x400) ∷ (137, 1) ∷ (144, 0xffffffff) ∷ (145, 0x400) ∷
    (146, 0x70f83c) ∷ (147, 0x400) ∷ (148, 0x26b10000) ∷ (149, 0xf8f8f8f8) ∷ (150, 0xf8f8f8f8) ∷ (151, 0xa0a0a0a0) ∷ (154, 0xc8906838) ∷
    (156, 0xf8f8f8f8) ∷ (164, 2) ∷ (167, 0x400) ∷ (168, 0x402) ∷ (169, 1) ∷ (170, 1) ∷ (272, 0x400) ∷ (273, 0x402) ∷ (274, 0xcbb97909) ∷
    (275, 0xffffffff) ∷ (276, 0x526a1350) ∷ (281, 0xa8a8a8a8) ∷ (282, 0x30182098) ∷ (286, 0xffff) ∷ (768, 0x402) ∷ (769, 0x400) ∷ (770, 0x402) ∷
    (771, 0x400) ∷ (772, 0x400) ∷ (773, 0xffff) ∷ (774, 0x400) ∷ (775, 0x416319) ∷ (776, 0x402) ∷ (777, 1) ∷ (778, 0x400) ∷ (779, 0x402) ∷
    (780, 0xffffff) ∷ (781, 0x400) ∷ (782, 0x402) ∷ (783, 0xffffff) ∷ (784, 0x402) ∷ (785, 0x402) ∷ (786, 0x5b8935) ∷ (787, 0x402) ∷ (788, 0xffffff) ∷
    (789, 0x400) ∷ (790, 0x402) ∷ (791, 0xffffff) ∷ (792, 0xffffff) ∷ (793, 0x1a4ef7) ∷ (794, 0xffffff) ∷ (795, 0x402) ∷ (796, 0x400) ∷ (797, 0x5b8a89) ∷
    (798, 0x400) ∷ (799, 0xc7e1a0) ∷ []
    )) ≡ 0
unfolding differs
session-7-chunk-40 = refl

abbrev session-7-state-41 : List ℕ
session-7-state-41 = words 1760 (
    (0, 1) ∷ (1, 0x40) ∷ (2, 5) ∷ (3, 3) ∷ (4, 0xf) ∷ (16, 0x400) ∷ (17, 0x989a98a0) ∷ (18, 0xffffff5f) ∷ (19, 0xfffd0080) ∷ (20, 0x91f10000) ∷
    (23, 0xe04848c0) ∷ (24, 0xa0b02870) ∷ (26, 0xf8f8f8f8) ∷ (27, 0x8f8f8f8) ∷ (28, 0x48402060) ∷ (29, 0xffff) ∷ (33, 1) ∷ (34, 2) ∷ (35, 0xd0) ∷
    (37, 2) ∷ (38, 3) ∷ (39, 1) ∷ (41, 1) ∷ (42, 1) ∷ (48, 0x400) ∷ (49, 0xb79f28a2) ∷ (50, 0x3ec0e309) ∷ (51, 0x20c00) ∷ (52, 0x884c0000) ∷
    (54, 0xf8f8f8f8) ∷ (56, 0xf8f8f8f8) ∷ (57, 0xf8) ∷ (58, 0x982858b8) ∷ (60, 0x9848b8a8) ∷ (61, 0xffff) ∷ (64, 0xff0000) ∷ (65, 1) ∷ (67, 0xf8) ∷
    (68, 2) ∷ (69, 7) ∷ (70, 3) ∷ (71, 1) ∷ (73, 1) ∷ (80, 0x400) ∷ (81, 0x20402) ∷ (82, 0x10000) ∷ (83, 0x20400) ∷ (86, 0x48c82068) ∷ (87, 0xa02838f0) ∷
    (89, 0x8c038d8) ∷ (90, 0xf0000000) ∷ (91, 0x9880a048) ∷ (93, 0xffff) ∷ (96, 1) ∷ (97, 1) ∷ (98, 0xf) ∷ (99, 0xf0) ∷ (100, 2) ∷ (101, 7) ∷ (102, 3) ∷
    (103, 1) ∷ (105, 1) ∷ (106, 1) ∷ (112, 0x400) ∷ (113, 0xdc39f34) ∷ (114, 0x402) ∷ (115, 0x598729f0) ∷ (116, 0xffff0000) ∷ (121, 0xf8f8f8f8) ∷
    (122, 0xb82818a8) ∷ (123, 0x7838e818) ∷ (125, 0xffff) ∷ (128, 0xffff0f) ∷ (129, 1) ∷ (131, 0xe8) ∷ (132, 2) ∷ (133, 2) ∷ (134, 3) ∷ (136, 0x400) ∷
    (137, 1) ∷ (144, 0xffffffff) ∷ (145, 0x30400) ∷ (146, 0x70f83e) ∷ (147, 0x30400) ∷ (148, 0x26b30000) ∷ (149, 0xf8f8f8f8) ∷ (150, 0xf8f8f8f8) ∷
    (151, 0xa0a0a0a0) ∷ (154, 0xc8906838) ∷ (156, 0xf8f8f8f8) ∷ (157, 0xffff) ∷ (160, 0x10001) ∷ (161, 1) ∷ (163, 0xf8) ∷ (164, 2) ∷ (165, 2) ∷
    (166, 3) ∷ (169, 1) ∷ (170, 1) ∷ (272, 0x400) ∷ (273, 0x40000402) ∷ (274, 0xcbb97909) ∷ (275, 0xbfffffff) ∷ (276, 0x526a1352) ∷ (281, 0xa8a8a8a8) ∷
    (282, 0xa8a080) ∷ (286, 0xffff) ∷ (768, 0x402) ∷ (769, 0x400) ∷ (770, 0x402) ∷ (771, 0x400) ∷ (772, 0x400) ∷ (773, 0xffff) ∷ (774, 0x400) ∷
    (775, 0x416319) ∷ (776, 0x402) ∷ (777, 1) ∷ (778, 0x400) ∷ (779, 0x402) ∷ (780, 0xffffff) ∷ (781, 0x400) ∷ (782, 0x402) ∷ (783, 0xffffff) ∷
    (784, 0x402) ∷ (785, 0x402) ∷ (786, 0x5b8935) ∷ (787, 0x402) ∷ (788, 0xffffff) ∷ (789, 0x400) ∷ (790, 0xff0000) ∷ (791, 0xffffff) ∷ (792, 0xffffff) ∷
    (793, 0x1a4ef7) ∷ (794, 0xffffff) ∷ (795, 0x402) ∷ (796, 0x400) ∷ (797, 0x5b8a89) ∷ (799, 0xc7e1a0) ∷ []
    )

abbrev session-7-rows-41 : List Row
session-7-rows-41 =
    gives (write_distributor 3 0x104 4 0x400000) 0
    ∷ gives (write_distributor 3 0x384 4 0x400000) 0
    ∷ gives (write_distributor 3 0x61b0 4 0xffff0f) 0
    ∷ gives (write_distributor 3 0x204 4 0x400000) 0
    ∷ gives (read_system 3 0xc642) 0x16
    ∷ gives (read_system 3 0xc640) 0x16
    ∷ []

session-7-chunk-41 : differs session-7-rows-41 session-7-state-41 (changed session-7-state-41 ((115, 0x59c729f0) ∷ (135, 0x20) ∷ (273, 0x40400402) ∷ (274, 0xcbf97909) ∷ (275, 0xbfbfffff) ∷ (790, 0xffff0f) ∷ [])) ≡ 0
unfolding differs
session-7-chunk-41 = refl

abbrev session-7-state-42 : List ℕ
session-7-state-42 = words 1760 (
    (0, 1) ∷ (1, 0x40) ∷ (2, 4) ∷ (3, 3) ∷ (17, 0x8000000) ∷ (18, 0x202) ∷ (19, 0x8000000) ∷ (20, 0x8000000) ∷ (29, 0xffff) ∷ (32, 3) ∷ (35, 0xf8) ∷
    (36, 2) ∷ (37, 5) ∷ (38, 3) ∷ (41, 1) ∷ (42, 1) ∷ (49, 0x8000002) ∷ (50, 0xe18a5306) ∷ (51, 0x8000002) ∷ (52, 0x5d550000) ∷ (61, 0xffff) ∷
    (64, 0x10000) ∷ (67, 0xf8) ∷ (69, 6) ∷ (70, 3) ∷ (71, 5) ∷ (73, 1) ∷ (80, 0x69e74df5) ∷ (81, 0x8000002) ∷ (82, 0x200) ∷ (83, 0x8000002) ∷
    (84, 0x8000000) ∷ (85, 0x18609058) ∷ (91, 0xa0a040a0) ∷ (93, 0xffff) ∷ (96, 0x7f0003) ∷ (99, 0xf8) ∷ (101, 7) ∷ (102, 3) ∷ (103, 1) ∷ (105, 1) ∷
    (106, 1) ∷ (113, 0x8000002) ∷ (114, 0x200) ∷ (115, 2) ∷ (116, 0x80000000) ∷ (125, 0xffff) ∷ (128, 0x10f) ∷ (131, 0xf8) ∷ (132, 2) ∷ (133, 2) ∷
    (134, 5) ∷ (137, 1) ∷ (138, 1) ∷ (272, 0xfc9bb9d4) ∷ (273, 0xa5ea8890) ∷ (274, 0x80000000) ∷ (276, 0x80000000) ∷ (284, 0xf000a008) ∷ (286, 0x8000) ∷
    (799, 3) ∷ []
    )

abbrev session-7-rows-42 : List Row
session-7-rows-42 =
    gives (get_attribute 7 0x7f000300000020) 0x80000000
    ∷ gives (set_attribute 5 0x1000000010180 2) 0
    ∷ []

session-7-chunk-42 : differs session-7-rows-42 session-7-state-42 (changed session-7-state-42 ((49, 0x8000000) ∷ [])) ≡ 0
unfolding differs
session-7-chunk-42 = refl

abbrev session-7-state-43 : List ℕ
session-7-state-43 = words 1760 (
    (0, 1) ∷ (1, 0x40) ∷ (2, 4) ∷ (3, 3) ∷ (17, 0x8000000) ∷ (18, 0x222) ∷ (19, 0x8000000) ∷ (20, 0x8000000) ∷ (21, 0xf8a0f810) ∷ (27, 0xa0000000) ∷
    (29, 0xffff) ∷ (32, 3) ∷ (33, 1) ∷ (35, 0xf8) ∷ (36, 2) ∷ (37, 4) ∷ (38, 3) ∷ (41, 1) ∷ (42, 1) ∷ (49, 0x8000000) ∷ (50, 0xe18a5306) ∷
    (51, 0x8000002) ∷ (52, 0x5d550000) ∷ (53, 0xf0f08080) ∷ (61, 0xffff) ∷ (64, 0x10000) ∷ (65, 1) ∷ (67, 0xf8) ∷ (69, 2) ∷ (70, 3) ∷ (71, 4) ∷ (73, 1) ∷
    (80, 0x69e74df5) ∷ (81, 0x8000002) ∷ (82, 0x200) ∷ (83, 2) ∷ (84, 0x8000000) ∷ (85, 0x18609058) ∷ (91, 0xa0a040a0) ∷ (93, 0xffff) ∷ (96, 0x7f0003) ∷
    (97, 1) ∷ (99, 0xf8) ∷ (101, 7) ∷ (102, 3) ∷ (103, 1) ∷ (105, 1) ∷ (106, 1) ∷ (113, 0x8000002) ∷ (114, 0x200) ∷ (115, 2) ∷ (125, 0xffff) ∷
    (128, 0x10f) ∷ (129, 1) ∷ (131, 0xf8) ∷ (132, 2) ∷ (133, 2) ∷ (134, 5) ∷ (136, 0x10100000) ∷ (137, 1) ∷ (138, 1) ∷ (272, 0xfc9bb9d4) ∷
    (273, 0xa5ea8890) ∷ (276, 0x80000000) ∷ (284, 0xa000a008) ∷ (286, 0x8000) ∷ (799, 0x10f) ∷ []
    )

abbrev session-7-rows-43 : List Row
session-7-rows-43 =
    gives (write_distributor 0 0x308 4 1) 0
    ∷ gives (write_system 0 0xc230 0xaa18c937c93d7aff) 0
    ∷ []

session-7-chunk-43 : differs session-7-rows-43 session-7-state-43 session-7-state-43 ≡ 0
unfolding differs
session-7-chunk-43 = refl

abbrev session-7-state-44 : List ℕ
session-7-state-44 = words 1760 (
    (0, 1) ∷ (1, 0x40) ∷ (2, 3) ∷ (3, 3) ∷ (29, 0xffff) ∷ (32, 3) ∷ (37, 2) ∷ (38, 3) ∷ (61, 0xffff) ∷ (64, 0x10000) ∷ (69, 2) ∷ (70, 3) ∷
    (80, 0x87052beb) ∷ (93, 0xffff) ∷ (96, 0x7f0003) ∷ (97, 1) ∷ (99, 0xa8) ∷ (101, 2) ∷ (102, 3) ∷ (105, 1) ∷ (106, 1) ∷ (273, 0x80100000) ∷
    (274, 0x100000) ∷ (276, 0x88000000) ∷ (799, 0x7f0003) ∷ []
    )

abbrev session-7-rows-44 : List Row
session-7-rows-44 =
    gives (write_system 2 0xc65d 0xcde1edf49fc7c9e5) 0
    ∷ []

session-7-chunk-44 : differs session-7-rows-44 session-7-state-44 (changed session-7-state-44 ((18, 0x8000) ∷ (50, 0x8000) ∷ [])) ≡ 0
unfolding differs
session-7-chunk-44 = refl

abbrev session-7-state-45 : List ℕ
session-7-state-45 = words 1760 (
    (0, 1) ∷ (1, 0x40) ∷ (2, 3) ∷ (3, 3) ∷ (18, 0x8000) ∷ (29, 0xffff) ∷ (32, 3) ∷ (37, 2) ∷ (38, 3) ∷ (50, 0x8000) ∷ (61, 0xffff) ∷ (64, 0x10000) ∷
    (69, 2) ∷ (70, 3) ∷ (80, 0x87052beb) ∷ (93, 0xffff) ∷ (96, 0x7f0003) ∷ (97, 1) ∷ (99, 0xa8) ∷ (101, 2) ∷ (102, 7) ∷ (103, 1) ∷ (105, 1) ∷ (106, 1) ∷
    (273, 0x88100000) ∷ (275, 0x88100000) ∷ (276, 0x88000000) ∷ (788, 0x7f0003) ∷ (795, 0x7f0003) ∷ (799, 0x7f0003) ∷ []
    )

abbrev session-7-rows-45 : List Row
session-7-rows-45 =
    gives (write_system 2 0xc661 0x34) 0
    ∷ gives (write_system 2 0xc659 0x34) 0
    ∷ gives (change_line 0xffffffff 0x21 true) 0
    ∷ []

session-7-chunk-45 : differs session-7-rows-45 session-7-state-45 (changed session-7-state-45 ((276, 0x88000002) ∷ [])) ≡ 0
unfolding differs
session-7-chunk-45 = refl

abbrev session-7-state-46 : List ℕ
session-7-state-46 = words 1760 (
    (0, 1) ∷ (1, 0x40) ∷ (2, 3) ∷ (3, 3) ∷ (18, 0x8000) ∷ (29, 0xffff) ∷ (32, 3) ∷ (37, 2) ∷ (38, 3) ∷ (50, 0x8000) ∷ (61, 0xffff) ∷ (64, 0x10000) ∷
    (69, 2) ∷ (70, 3) ∷ (80, 0x87052beb) ∷ (93, 0xffff) ∷ (96, 0x7f0003) ∷ (97, 1) ∷ (99, 0xa8) ∷ (101, 2) ∷ (102, 7) ∷ (103, 1) ∷ (105, 1) ∷ (106, 1) ∷
    (273, 0x88100000) ∷ (275, 0x88100000) ∷ (276, 0x88000002) ∷ (788, 0x7f0003) ∷ (795, 0x7f0003) ∷ (799, 0x7f0003) ∷ []
    )

abbrev session-7-rows-46 : List Row
session-7-rows-46 =
    gives (write_system 2 0xc65d 8) 0
    ∷ gives (read_distributor 2 0x43c 4) 0
    ∷ gives (write_system 2 0xc643 2) 0
    ∷ []

session-7-chunk-46 : differs session-7-rows-46 session-7-state-46 (changed session-7-state-46 ((18, 0x8001) ∷ [])) ≡ 0
unfolding differs
session-7-chunk-46 = refl

abbrev session-7-state-47 : List ℕ
session-7-state-47 = words 1760 (
    (0, 1) ∷ (1, 0x40) ∷ (2, 3) ∷ (3, 3) ∷ (18, 0x8001) ∷ (29, 0xffff) ∷ (32, 3) ∷ (37, 2) ∷ (38, 3) ∷ (50, 0x8000) ∷ (61, 0xffff) ∷ (64, 0x10000) ∷
    (69, 2) ∷ (70, 3) ∷ (80, 0x87052beb) ∷ (93, 0xffff) ∷ (96, 0x7f0003) ∷ (97, 1) ∷ (99, 0xa8) ∷ (100, 2) ∷ (101, 2) ∷ (102, 7) ∷ (103, 1) ∷ (105, 1) ∷
    (106, 1) ∷ (273, 0x88000000) ∷ (275, 0x88100000) ∷ (276, 0x8000002) ∷ (788, 0x7f0003) ∷ (795, 0x7f0003) ∷ (799, 0x7f0003) ∷ []
    )

abbrev session-7-rows-47 : List Row
session-7-rows-47 =
    gives (write_system 2 0xc641 0x3f) 0
    ∷ gives (read_system 2 0xc65b) 0xff
    ∷ gives (write_frame 2 2 0x10 4 7) 0
    ∷ []

session-7-chunk-47 : differs session-7-rows-47 session-7-state-47 (changed session-7-state-47 ((103, 0) ∷ [])) ≡ 0
unfolding differs
session-7-chunk-47 = refl

abbrev session-7-state-48 : List ℕ
session-7-state-48 = words 1760 (
    (0, 1) ∷ (1, 0x40) ∷ (2, 3) ∷ (3, 3) ∷ (18, 0x8001) ∷ (29, 0xffff) ∷ (32, 3) ∷ (37, 2) ∷ (38, 3) ∷ (50, 0x8000) ∷ (52, 0x80000000) ∷ (61, 0xffff) ∷
    (64, 0x10000) ∷ (69, 2) ∷ (70, 3) ∷ (80, 0x87052beb) ∷ (84, 0x10000) ∷ (93, 0xffff) ∷ (96, 0x7f0003) ∷ (99, 0xa8) ∷ (100, 2) ∷ (101, 2) ∷ (102, 3) ∷
    (105, 1) ∷ (106, 1) ∷ (273, 0x88100000) ∷ (275, 0x88000000) ∷ (276, 0x100000) ∷ (286, 0x218) ∷ (788, 0x7f0003) ∷ (795, 0x7f0003) ∷ (799, 0x7f0003) ∷
    []
    )

abbrev session-7-rows-48 : List Row
session-7-rows-48 =
    gives (set_attribute 5 0x300010180 0x3a6d074d) 0
    ∷ []

session-7-chunk-48 : differs session-7-rows-48 session-7-state-48 session-7-state-48 ≡ 0
unfolding differs
session-7-chunk-48 = refl

abbrev session-7-state-49 : List ℕ
session-7-state-49 = words 1760 (
    (0, 1) ∷ (1, 0x40) ∷ (2, 4) ∷ (3, 3) ∷ (17, 0x10000) ∷ (18, 0x8000000) ∷ (19, 0x10000) ∷ (29, 0xffff) ∷ (35, 0xa8) ∷ (36, 2) ∷ (37, 2) ∷ (38, 3) ∷
    (39, 1) ∷ (41, 1) ∷ (42, 1) ∷ (48, 0x2ceb0649) ∷ (49, 0x8010000) ∷ (51, 0x10000) ∷ (52, 0x10000) ∷ (59, 0x88c888) ∷ (61, 0xffff) ∷ (64, 0x10f) ∷
    (65, 1) ∷ (67, 0xb0) ∷ (69, 4) ∷ (70, 3) ∷ (74, 1) ∷ (80, 0x208df7c6) ∷ (81, 0x8010000) ∷ (83, 0x8000000) ∷ (84, 0x8000000) ∷ (89, 0x60e89080) ∷
    (93, 0xffff) ∷ (96, 0xf) ∷ (99, 0xf8) ∷ (101, 6) ∷ (102, 3) ∷ (103, 1) ∷ (105, 1) ∷ (106, 1) ∷ (113, 0x8010000) ∷ (115, 0x4d0f6a29) ∷
    (116, 0x10000) ∷ (125, 0xffff) ∷ (128, 0x10000) ∷ (129, 1) ∷ (131, 0xf8) ∷ (133, 2) ∷ (134, 3) ∷ (135, 1) ∷ (137, 1) ∷ (138, 1) ∷ []
    )

abbrev session-7-rows-49 : List Row
session-7-rows-49 =
    gives (write_system 1 0xc65f 0x101010035dd) 0
    ∷ []

session-7-chunk-49 : differs session-7-rows-49 session-7-state-49 (changed session-7-state-49 ((18, 0x8000002) ∷ (114, 2) ∷ [])) ≡ 0
unfolding differs
session-7-chunk-49 = refl

abbrev session-7-state-50 : List ℕ
session-7-state-50 = words 1760 (
    (0, 1) ∷ (1, 0x40) ∷ (2, 4) ∷ (3, 3) ∷ (17, 0x8018002) ∷ (18, 0xfce8335d) ∷ (19, 0x10002) ∷ (20, 0x10000) ∷ (29, 0xffff) ∷ (33, 1) ∷ (35, 0xf8) ∷
    (37, 2) ∷ (38, 3) ∷ (41, 1) ∷ (42, 1) ∷ (48, 0x2ceb0649) ∷ (49, 0x8010000) ∷ (50, 0x136edf6) ∷ (52, 0x8010000) ∷ (59, 0xa08898a8) ∷ (61, 0xffff) ∷
    (64, 0x10f) ∷ (67, 0xb0) ∷ (69, 2) ∷ (70, 3) ∷ (74, 1) ∷ (80, 0x208df7c6) ∷ (81, 0x8018002) ∷ (82, 0x8000) ∷ (83, 0x8010002) ∷ (84, 0x10000) ∷
    (89, 0x60e89040) ∷ (93, 0xffff) ∷ (96, 0xf) ∷ (99, 0xf8) ∷ (101, 6) ∷ (102, 3) ∷ (104, 1) ∷ (105, 1) ∷ (106, 1) ∷ (112, 0x1001000) ∷
    (113, 0x8018002) ∷ (114, 0x88000003) ∷ (115, 0x450fea2b) ∷ (116, 0x10000) ∷ (121, 0xa8) ∷ (123, 0xa098f0a0) ∷ (125, 0xffff) ∷ (128, 0x10000) ∷
    (131, 0xa0) ∷ (133, 2) ∷ (134, 4) ∷ (135, 1) ∷ (137, 1) ∷ (138, 1) ∷ (273, 0x48000002) ∷ (274, 0x88000001) ∷ (275, 2) ∷ (276, 0xc8000002) ∷
    (284, 0xa8000000) ∷ (286, 0xffff) ∷ (798, 0x10000) ∷ []
    )

abbrev session-7-rows-50 : List Row
session-7-rows-50 =
    gives (write_system 0 0xc230 0) 0
    ∷ gives (read_frame 0 0 0x83 4) 0
    ∷ gives (write_system 0 0xc665 0) 0
    ∷ gives (change_line 0 0x3b true) 0
    ∷ gives (write_frame 0 0 0x10380 4 2) 0
    ∷ []

session-7-chunk-50 : differs session-7-rows-50 session-7-state-50 (changed session-7-state-50 ((19, 0x10000) ∷ (35, 0) ∷ [])) ≡ 0
unfolding differs
session-7-chunk-50 = refl

abbrev session-7-state-51 : List ℕ
session-7-state-51 = words 1760 (
    (0, 1) ∷ (1, 0x40) ∷ (2, 2) ∷ (29, 0xffff) ∷ (32, 0x100) ∷ (33, 1) ∷ (35, 0xf8) ∷ (36, 2) ∷ (37, 2) ∷ (38, 3) ∷ (41, 1) ∷ (42, 1) ∷ (61, 0xffff) ∷
    (64, 1) ∷ (65, 1) ∷ (69, 2) ∷ (70, 3) ∷ []
    )

abbrev session-7-rows-51 : List Row
session-7-rows-51 =
    gives (write_system 1 0xc230 0xff) 0
    ∷ []

session-7-chunk-51 : differs session-7-rows-51 session-7-state-51 (changed session-7-state-51 ((67, 0xf8) ∷ [])) ≡ 0
unfolding differs
session-7-chunk-51 = refl

abbrev session-7-state-52 : List ℕ
session-7-state-52 = words 1760 (
    (0, 1) ∷ (1, 0x40) ∷ (2, 2) ∷ (3, 3) ∷ (17, 0x20000) ∷ (18, 8) ∷ (20, 0x10000) ∷ (29, 0xffff) ∷ (32, 0x100) ∷ (33, 1) ∷ (35, 0xa8) ∷ (37, 2) ∷
    (38, 4) ∷ (41, 1) ∷ (50, 8) ∷ (61, 0xffff) ∷ (64, 1) ∷ (67, 0xf8) ∷ (69, 2) ∷ (70, 3) ∷ (71, 1) ∷ (73, 1) ∷ (272, 0x3e207e23) ∷ (273, 0xd8000000) ∷
    (274, 0x98000000) ∷ (276, 0xc8000000) ∷ (795, 0x100) ∷ (796, 0x100) ∷ (798, 0x100) ∷ (799, 0x100) ∷ []
    )

abbrev session-7-rows-52 : List Row
session-7-rows-52 =
    gives (write_system 0 0xc667 1) 0
    ∷ gives (read_system 0 0xc640) 0x3ff
    ∷ gives (write_frame 0 0 0x10200 4 0x20000) 0
    ∷ refuses (write_distributor 1 0x204 4 0xc72c1eb5) 1
    ∷ []

session-7-chunk-52 : differs session-7-rows-52 session-7-state-52 (changed session-7-state-52 ((18, 0x20008) ∷ (42, 1) ∷ [])) ≡ 0
unfolding differs
session-7-chunk-52 = refl

abbrev session-7-state-53 : List ℕ
session-7-state-53 = words 1760 (
    (0, 1) ∷ (1, 0x40) ∷ (2, 2) ∷ (3, 3) ∷ (17, 0x20000) ∷ (18, 8) ∷ (19, 0x20000) ∷ (20, 0x30000) ∷ (29, 0xffff) ∷ (32, 0x100) ∷ (33, 1) ∷ (35, 0xa8) ∷
    (37, 2) ∷ (38, 6) ∷ (40, 1) ∷ (41, 1) ∷ (42, 1) ∷ (50, 0xb) ∷ (61, 0xffff) ∷ (64, 1) ∷ (67, 0xf8) ∷ (69, 2) ∷ (70, 3) ∷ (71, 1) ∷ (73, 1) ∷
    (272, 0x3e207e23) ∷ (273, 0xd8000000) ∷ (274, 0x80000000) ∷ (276, 0xd8000000) ∷ (283, 0xf8000000) ∷ (795, 0x100) ∷ (796, 0x100) ∷ (798, 0x100) ∷
    (799, 0x100) ∷ []
    )

abbrev session-7-rows-53 : List Row
session-7-rows-53 =
    gives (write_system 0 0xc641 0xbcd6288fed000011) 0
    ∷ gives (write_system 0 0xc661 0x3c) 0
    ∷ []

session-7-chunk-53 : differs session-7-rows-53 session-7-state-53 (changed session-7-state-53 ((40, 0) ∷ [])) ≡ 0
unfolding differs
session-7-chunk-53 = refl

abbrev session-7-state-54 : List ℕ
session-7-state-54 = words 1760 (
    (0, 1) ∷ (1, 0x40) ∷ (2, 2) ∷ (3, 3) ∷ (16, 0xb5b99e22) ∷ (17, 0x20001) ∷ (18, 8) ∷ (19, 0x20001) ∷ (20, 0x10000) ∷ (25, 0xf8f898a0) ∷ (29, 0xffff) ∷
    (32, 0x100) ∷ (33, 1) ∷ (35, 0xf8) ∷ (37, 2) ∷ (38, 3) ∷ (41, 1) ∷ (42, 1) ∷ (50, 0xb) ∷ (61, 0xffff) ∷ (64, 1) ∷ (65, 1) ∷ (67, 0xf8) ∷ (69, 2) ∷
    (70, 3) ∷ (73, 1) ∷ (74, 1) ∷ (272, 0x3e207e23) ∷ (273, 0xca000000) ∷ (274, 0xc5c4029d) ∷ (275, 0x48000000) ∷ (276, 0xc0000000) ∷ (283, 0x8000000) ∷
    (284, 0xa0a0a010) ∷ (793, 0x100) ∷ (795, 0x100) ∷ (796, 1) ∷ (798, 0x100) ∷ (799, 0x100) ∷ []
    )

abbrev session-7-rows-54 : List Row
session-7-rows-54 =
    gives (write_system 0 0xc65f 0xf010003) 0
    ∷ []

session-7-chunk-54 : differs session-7-rows-54 session-7-state-54 session-7-state-54 ≡ 0
unfolding differs
session-7-chunk-54 = refl

abbrev session-7-state-55 : List ℕ
session-7-state-55 = words 1760 (
    (0, 1) ∷ (1, 0x40) ∷ (2, 2) ∷ (3, 3) ∷ (16, 0xb5b99e22) ∷ (17, 0x20001) ∷ (18, 8) ∷ (19, 0x20001) ∷ (20, 0x10000) ∷ (25, 0xf8f898a0) ∷ (29, 0xffff) ∷
    (32, 0x100) ∷ (35, 0xf8) ∷ (37, 2) ∷ (38, 3) ∷ (41, 1) ∷ (42, 1) ∷ (49, 0x8000) ∷ (50, 0xb) ∷ (51, 0x8000) ∷ (61, 0xffff) ∷ (64, 1) ∷ (67, 0xf8) ∷
    (69, 2) ∷ (70, 3) ∷ (71, 1) ∷ (73, 1) ∷ (74, 1) ∷ (272, 0x3e207e23) ∷ (273, 0xca000000) ∷ (274, 0xc5c4029d) ∷ (275, 0x48000000) ∷ (276, 0x40000000) ∷
    (283, 0x8000000) ∷ (284, 0xf8f8f8f8) ∷ (793, 0x100) ∷ (795, 0x100) ∷ (796, 1) ∷ (798, 0x100) ∷ (799, 0x100) ∷ []
    )

abbrev session-7-rows-55 : List Row
session-7-rows-55 =
    gives (get_attribute 5 0x10000010100) 0x20001
    ∷ gives (set_attribute 1 0x3000007fc 0) 0
    ∷ gives (set_attribute 6 0x10000c666 0xf8) 0
    ∷ gives (get_attribute 6 0x10000c666) 0
    ∷ gives (set_attribute 1 0x10000000008 0x1001000) 0
    ∷ gives (get_attribute 1 0x10000000008) 0x1001000
    ∷ []

session-7-chunk-55 : differs session-7-rows-55 session-7-state-55 (changed session-7-state-55 ((73, 0) ∷ [])) ≡ 0
unfolding differs
session-7-chunk-55 = refl

abbrev session-7-state-56 : List ℕ
session-7-state-56 = words 1760 (
    (0, 1) ∷ (1, 0x40) ∷ (2, 2) ∷ (3, 3) ∷ (16, 1) ∷ (17, 0xfafe937b) ∷ (18, 0x8001) ∷ (19, 0x28008) ∷ (20, 0x80000000) ∷ (25, 0xf8f898a0) ∷
    (29, 0xffff) ∷ (32, 0x100) ∷ (33, 1) ∷ (35, 0xf8) ∷ (37, 2) ∷ (38, 3) ∷ (41, 1) ∷ (42, 1) ∷ (49, 0x8001) ∷ (50, 0x800b) ∷ (51, 0x76ee6d05) ∷
    (52, 0x10000000) ∷ (56, 0xa0a08010) ∷ (61, 0xffff) ∷ (64, 1) ∷ (65, 1) ∷ (67, 0xf8) ∷ (69, 2) ∷ (70, 3) ∷ (73, 1) ∷ (74, 1) ∷ (272, 0x3e207e23) ∷
    (273, 0xca000000) ∷ (274, 0xc7c4029d) ∷ (275, 0x4dffffff) ∷ (276, 0x7c3529a) ∷ (283, 0x8000000) ∷ (284, 0xf8f8f8f8) ∷ (286, 0xffff) ∷ (793, 0x100) ∷
    (795, 0x100) ∷ (796, 1) ∷ (798, 0x100) ∷ (799, 0x100) ∷ []
    )

abbrev session-7-rows-56 : List Row
session-7-rows-56 =
    gives (read_distributor 0 0x1fc 4) 0
    ∷ gives (read_system 0 0xc660) 0
    ∷ []

session-7-chunk-56 : differs session-7-rows-56 session-7-state-56 (changed session-7-state-56 ((18, 0x8000) ∷ (19, 0x28009) ∷ (40, 1) ∷ [])) ≡ 0
unfolding differs
session-7-chunk-56 = refl

abbrev session-7-state-57 : List ℕ
session-7-state-57 = words 1760 (
    (0, 1) ∷ (1, 0x40) ∷ (2, 2) ∷ (3, 3) ∷ (16, 1) ∷ (17, 0xfafe937b) ∷ (18, 1) ∷ (19, 0x80020009) ∷ (20, 0x80000000) ∷ (25, 0xf8f898a0) ∷ (29, 0xffff) ∷
    (32, 0x100) ∷ (35, 0xf8) ∷ (37, 2) ∷ (38, 3) ∷ (41, 1) ∷ (42, 1) ∷ (49, 0x8001) ∷ (50, 0xb) ∷ (51, 0x76ee6d05) ∷ (52, 0x10000000) ∷
    (56, 0xa0a08010) ∷ (61, 0xffff) ∷ (64, 1) ∷ (65, 1) ∷ (67, 0xf8) ∷ (69, 2) ∷ (70, 3) ∷ (71, 1) ∷ (73, 1) ∷ (74, 1) ∷ (272, 0x3e207e23) ∷
    (273, 0xca000000) ∷ (274, 0x47c4029d) ∷ (276, 0x7c3529a) ∷ (283, 0x8000000) ∷ (284, 0x40f8f8f8) ∷ (793, 0x100) ∷ (795, 0x100) ∷ (796, 1) ∷
    (798, 0x100) ∷ (799, 0x100) ∷ []
    )

abbrev session-7-rows-57 : List Row
session-7-rows-57 =
    gives (read_frame 1 1 0x10280 1) 0
    ∷ []

session-7-chunk-57 : differs session-7-rows-57 session-7-state-57 session-7-state-57 ≡ 0
unfolding differs
session-7-chunk-57 = refl

abbrev session-7-state-58 : List ℕ
session-7-state-58 = words 1760 (
    (0, 1) ∷ (1, 0x40) ∷ (2, 2) ∷ (3, 3) ∷ (16, 1) ∷ (17, 0xfafe937b) ∷ (18, 0x8001) ∷ (19, 0x80020009) ∷ (20, 0x80000000) ∷ (25, 0xf8f898a0) ∷
    (29, 0xffff) ∷ (32, 0x100) ∷ (35, 0xf8) ∷ (37, 2) ∷ (38, 3) ∷ (41, 1) ∷ (42, 1) ∷ (49, 0x8001) ∷ (50, 0xb) ∷ (51, 0x76eeed05) ∷ (52, 0x10000000) ∷
    (56, 0x90a08010) ∷ (61, 0xffff) ∷ (64, 1) ∷ (65, 1) ∷ (67, 0xf8) ∷ (69, 2) ∷ (70, 3) ∷ (71, 0x140000) ∷ (73, 1) ∷ (74, 1) ∷ (272, 0x86a506ef) ∷
    (273, 0xca000000) ∷ (274, 0x45c4029d) ∷ (275, 0x80000000) ∷ (276, 0x87c3529a) ∷ (283, 0x8000000) ∷ (284, 0x40f8f8f8) ∷ (793, 1) ∷ (795, 0x100) ∷
    (796, 1) ∷ (798, 0x100) ∷ (799, 1) ∷ []
    )

abbrev session-7-rows-58 : List Row
session-7-rows-58 =
    gives (write_distributor 1 0x17c 4 0x10000000) 0
    ∷ gives (read_frame 1 1 7 1) 0
    ∷ []

session-7-chunk-58 : differs session-7-rows-58 session-7-state-58 session-7-state-58 ≡ 0
unfolding differs
session-7-chunk-58 = refl

abbrev session-7-state-59 : List ℕ
session-7-state-59 = words 1760 (
    (0, 1) ∷ (1, 0x40) ∷ (2, 1) ∷ (3, 3) ∷ (16, 0x2a820e25) ∷ (17, 0x8000000) ∷ (18, 0x20001) ∷ (20, 0x8000000) ∷ (27, 0x1050c810) ∷ (29, 0xffff) ∷
    (32, 0x1010f) ∷ (35, 0xb0) ∷ (36, 2) ∷ (37, 2) ∷ (38, 3) ∷ (39, 2) ∷ (41, 1) ∷ (42, 1) ∷ (272, 0x2f2f745) ∷ (273, 0x80000002) ∷ (275, 0x80000002) ∷
    (276, 0xa4625e9e) ∷ (277, 0x90c0a0b0) ∷ (284, 0x87870a8) ∷ (769, 0x1010f) ∷ (799, 0x1010f) ∷ []
    )

abbrev session-7-rows-59 : List Row
session-7-rows-59 =
    refuses (set_attribute 6 0x1010f0000c665 1) 22
    ∷ []

session-7-chunk-59 : differs session-7-rows-59 session-7-state-59 session-7-state-59 ≡ 0
unfolding differs
session-7-chunk-59 = refl

abbrev session-7-rows-60 : List Row
session-7-rows-60 =
    gives (set_attribute 5 0x1010f00010280 0x55555555) 0
    ∷ gives (get_attribute 5 0x1010f00010280) 0
    ∷ []

session-7-chunk-60 : differs session-7-rows-60 session-7-state-59 session-7-state-59 ≡ 0
unfolding differs
session-7-chunk-60 = refl

abbrev session-7-state-61 : List ℕ
session-7-state-61 = words 1760 (
    (0, 1) ∷ (1, 0x40) ∷ (2, 1) ∷ (3, 3) ∷ (16, 0x2a820e25) ∷ (17, 0x8000000) ∷ (18, 0x20001) ∷ (20, 0x8000000) ∷ (27, 0x1050c810) ∷ (29, 0xffff) ∷
    (32, 0x1010f) ∷ (35, 0xb0) ∷ (36, 2) ∷ (37, 2) ∷ (38, 3) ∷ (39, 2) ∷ (41, 1) ∷ (42, 1) ∷ (272, 0x2f2f745) ∷ (273, 0x80000002) ∷ (275, 0x80000002) ∷
    (276, 0xa4625e9e) ∷ (277, 0x90c0a0b0) ∷ (284, 0x87870a8) ∷ (286, 0x7032) ∷ (769, 0x1010f) ∷ (799, 0x1010f) ∷ []
    )

abbrev session-7-rows-61 : List Row
session-7-rows-61 =
    gives (set_attribute 1 0x1010f000061d0 0x4000000) 0
    ∷ []

session-7-chunk-61 : differs session-7-rows-61 session-7-state-61 session-7-state-61 ≡ 0
unfolding differs
session-7-chunk-61 = refl

abbrev session-7-state-62 : List ℕ
session-7-state-62 = words 1760 (
    (0, 1) ∷ (1, 0x40) ∷ (2, 1) ∷ (3, 3) ∷ (16, 0xfa7051c4) ∷ (17, 0x8000000) ∷ (27, 0x1030f878) ∷ (29, 0xffff) ∷ (32, 0x200) ∷ (33, 1) ∷ (35, 0xf8) ∷
    (37, 2) ∷ (38, 3) ∷ (40, 0x120000) ∷ (41, 1) ∷ (42, 1) ∷ (272, 0x3a113d20) ∷ (273, 0x2001000) ∷ (275, 0x1000) ∷ (276, 0x2000000) ∷
    (280, 0xd8e8c088) ∷ (283, 0x38880880) ∷ (285, 0xffff) ∷ (780, 0x200) ∷ (793, 0x200) ∷ []
    )

abbrev session-7-rows-62 : List Row
session-7-rows-62 =
    gives (read_system 0 0xc662) 0x39
    ∷ []

session-7-chunk-62 : differs session-7-rows-62 session-7-state-62 session-7-state-62 ≡ 0
unfolding differs
session-7-chunk-62 = refl

abbrev session-7-state-63 : List ℕ
session-7-state-63 = words 1760 (
    (0, 1) ∷ (1, 0x40) ∷ (2, 1) ∷ (3, 3) ∷ (16, 0xfa7051c4) ∷ (17, 0x8020002) ∷ (18, 0x20000) ∷ (19, 2) ∷ (25, 0xf800) ∷ (27, 0x1030f878) ∷
    (29, 0xffff) ∷ (32, 0x200) ∷ (33, 1) ∷ (35, 0xf8) ∷ (37, 2) ∷ (38, 3) ∷ (41, 1) ∷ (42, 1) ∷ (272, 0x3a113d20) ∷ (273, 0x2001000) ∷ (275, 0x2001000) ∷
    (276, 0x2001000) ∷ (280, 0xd8e8c080) ∷ (283, 0xf890a0a0) ∷ (285, 0xffff) ∷ (780, 0x200) ∷ (793, 0x200) ∷ []
    )

abbrev session-7-rows-63 : List Row
session-7-rows-63 =
    gives (read_system 0 0xc65b) 0xff
    ∷ gives (set_attribute 4 0 0) 0
    ∷ gives (write_frame 0 0 0x10410 4 0x7c00) 0
    ∷ []

session-7-chunk-63 : differs session-7-rows-63 session-7-state-63 (changed session-7-state-63 ((25, 0x7800) ∷ [])) ≡ 0
unfolding differs
session-7-chunk-63 = refl

abbrev session-7-state-64 : List ℕ
session-7-state-64 = words 1760 (
    (0, 1) ∷ (1, 0x40) ∷ (2, 1) ∷ (3, 3) ∷ (16, 0xfa7051c4) ∷ (17, 0x8020002) ∷ (18, 2) ∷ (25, 0x9800a0a0) ∷ (27, 0x1030f878) ∷ (29, 0xffff) ∷
    (32, 0x200) ∷ (33, 1) ∷ (35, 0xf8) ∷ (37, 2) ∷ (38, 5) ∷ (41, 1) ∷ (42, 1) ∷ (272, 0x3a113d20) ∷ (273, 0x2101000) ∷ (275, 0x2001000) ∷
    (276, 0x2101000) ∷ (280, 0xd8e8c080) ∷ (283, 0xf890a0a0) ∷ (285, 0xffff) ∷ (780, 0x200) ∷ (788, 0x200) ∷ (793, 0x200) ∷ []
    )

abbrev session-7-rows-64 : List Row
session-7-rows-64 =
    gives (read_system 0 0xc662) 0x3ff
    ∷ []

session-7-chunk-64 : differs session-7-rows-64 session-7-state-64 session-7-state-64 ≡ 0
unfolding differs
session-7-chunk-64 = refl

abbrev session-7-state-65 : List ℕ
session-7-state-65 = words 1760 (
    (0, 1) ∷ (1, 0x40) ∷ (2, 1) ∷ (3, 3) ∷ (16, 0xfa7051c4) ∷ (17, 0x8020002) ∷ (19, 0x20002) ∷ (20, 0x30000) ∷ (21, 0xa000) ∷ (25, 0x980038a0) ∷
    (27, 0x1030f878) ∷ (29, 0xffff) ∷ (32, 0x200) ∷ (33, 1) ∷ (35, 0xf8) ∷ (37, 2) ∷ (38, 5) ∷ (39, 0x100000) ∷ (41, 1) ∷ (42, 1) ∷ (272, 0x3a113d20) ∷
    (273, 0x2101000) ∷ (274, 0x100000) ∷ (275, 0x2001000) ∷ (276, 0x2101000) ∷ (280, 0xd8e8c080) ∷ (282, 0xa008f0a0) ∷ (283, 0xf890a0a0) ∷
    (285, 0xffff) ∷ (286, 0xffff) ∷ (780, 0x200) ∷ (788, 0x200) ∷ (793, 0x200) ∷ []
    )

abbrev session-7-rows-65 : List Row
session-7-rows-65 =
    gives (write_distributor 0 0xc0c 4 0x200) 0
    ∷ []

session-7-chunk-65 : differs session-7-rows-65 session-7-state-65 (changed session-7-state-65 ((286, 0x10) ∷ [])) ≡ 0
unfolding differs
session-7-chunk-65 = refl

abbrev session-7-state-66 : List ℕ
session-7-state-66 = words 1760 (
    (0, 1) ∷ (1, 0x40) ∷ (2, 1) ∷ (3, 3) ∷ (16, 0xfa7051c4) ∷ (17, 0x8020002) ∷ (19, 0x20002) ∷ (20, 0x30000) ∷ (21, 0x9800) ∷ (25, 0x980038a0) ∷
    (27, 0x1030f878) ∷ (29, 0xffff) ∷ (32, 0x200) ∷ (33, 1) ∷ (35, 0xf8) ∷ (37, 2) ∷ (38, 7) ∷ (41, 1) ∷ (42, 1) ∷ (272, 0x3a113d20) ∷ (273, 0x2101000) ∷
    (274, 0x100000) ∷ (275, 0x2001000) ∷ (276, 0x2101000) ∷ (280, 0xd8e8c080) ∷ (282, 0xa008f0a0) ∷ (283, 0xf890a0a0) ∷ (285, 0xffff) ∷ (286, 0x10) ∷
    (780, 0x200) ∷ (788, 0x200) ∷ (793, 0x200) ∷ []
    )

abbrev session-7-rows-66 : List Row
session-7-rows-66 =
    gives (read_system 0 0xc660) 0x34
    ∷ gives (write_system 0 0xc659 0x34) 0
    ∷ []

session-7-chunk-66 : differs session-7-rows-66 session-7-state-66 (changed session-7-state-66 ((40, 0x10000) ∷ (274, 0) ∷ (275, 0x2101000) ∷ [])) ≡ 0
unfolding differs
session-7-chunk-66 = refl

abbrev session-7-state-67 : List ℕ
session-7-state-67 = words 1760 (
    (0, 1) ∷ (1, 0x40) ∷ (2, 2) ∷ (3, 2) ∷ (29, 0xffff) ∷ (32, 0xf) ∷ (33, 1) ∷ (35, 0xb0) ∷ (36, 2) ∷ (37, 2) ∷ (38, 6) ∷ (40, 0x20000) ∷ (41, 1) ∷
    (42, 1) ∷ (50, 0x8000) ∷ (61, 0xffff) ∷ (64, 0x10f) ∷ (65, 1) ∷ (67, 0xf8) ∷ (68, 2) ∷ (69, 2) ∷ (70, 3) ∷ (72, 0x20000) ∷ (73, 1) ∷ (74, 1) ∷
    (272, 0x2cda149e) ∷ (273, 0x400001) ∷ (276, 0x400000) ∷ (277, 0x9048b898) ∷ (282, 0xc88838b8) ∷ (285, 0xffff) ∷ (790, 0xf) ∷ []
    )

abbrev session-7-rows-67 : List Row
session-7-rows-67 =
    gives (read_system 0 0xc660) 0x36
    ∷ []

session-7-chunk-67 : differs session-7-rows-67 session-7-state-67 (changed session-7-state-67 ((40, 0x30000) ∷ (275, 0x400000) ∷ [])) ≡ 0
unfolding differs
session-7-chunk-67 = refl

abbrev session-7-state-68 : List ℕ
session-7-state-68 = words 1760 (
    (0, 1) ∷ (1, 0x40) ∷ (2, 2) ∷ (3, 2) ∷ (29, 0xffff) ∷ (32, 0xf) ∷ (33, 1) ∷ (35, 0xb0) ∷ (36, 2) ∷ (37, 2) ∷ (38, 6) ∷ (40, 0x20000) ∷ (41, 1) ∷
    (42, 1) ∷ (50, 0x8000) ∷ (61, 0xffff) ∷ (64, 0x10f) ∷ (65, 1) ∷ (67, 0xf8) ∷ (68, 2) ∷ (69, 2) ∷ (70, 3) ∷ (73, 1) ∷ (74, 1) ∷ (272, 0x2cda149e) ∷
    (273, 0x400001) ∷ (274, 1) ∷ (276, 0x400001) ∷ (277, 0x9048b898) ∷ (282, 0xc88838b8) ∷ (285, 0xffff) ∷ (790, 0xf) ∷ []
    )

abbrev session-7-rows-68 : List Row
session-7-rows-68 =
    gives (query_signal 0) 1
    ∷ []

session-7-chunk-68 : differs session-7-rows-68 session-7-state-68 session-7-state-68 ≡ 0
unfolding differs
session-7-chunk-68 = refl

abbrev session-7-state-69 : List ℕ
session-7-state-69 = words 1760 (
    (0, 1) ∷ (1, 0x40) ∷ (2, 2) ∷ (3, 3) ∷ (29, 0xffff) ∷ (32, 0xf) ∷ (33, 1) ∷ (35, 0xb0) ∷ (36, 2) ∷ (37, 2) ∷ (38, 6) ∷ (41, 1) ∷ (42, 1) ∷
    (50, 0x8000) ∷ (61, 0xffff) ∷ (64, 0x10f) ∷ (65, 1) ∷ (67, 0xf8) ∷ (68, 2) ∷ (69, 3) ∷ (70, 3) ∷ (73, 1) ∷ (74, 1) ∷ (272, 0x2cda149e) ∷
    (273, 0x400001) ∷ (274, 1) ∷ (276, 1) ∷ (277, 0x9048b878) ∷ (282, 0xc88838b8) ∷ (285, 0xffff) ∷ (768, 0x10f) ∷ (790, 0x10f) ∷ []
    )

abbrev session-7-rows-69 : List Row
session-7-rows-69 =
    gives (read_system 1 0xc640) 0x20
    ∷ gives (read_system 1 0xc644) 0x4000
    ∷ []

session-7-chunk-69 : differs session-7-rows-69 session-7-state-69 (changed session-7-state-69 ((71, 0x4000) ∷ (274, 0) ∷ (275, 1) ∷ [])) ≡ 0
unfolding differs
session-7-chunk-69 = refl
