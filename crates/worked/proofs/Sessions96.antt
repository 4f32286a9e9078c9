-- A random session of calls: from each state the calls give these answers and leave the next state.
-- Made by: tests/sessions.py ORACLE 4 4000 --chunk 8 --counts 96:128 --calls 1,214-216,381,419-424,744,903,1018-1019,1059,1127,1150-1154,1161,1176,1180-1181,1213,1271-1275,1485-1486,1592,1688-1693,1786-1788,2001,2093,2164,2187-2189,2283-2284,2418-2422,2557,2582-2585,2685,2707-2712,2731-2734,2833-2836,2848,2886-2892,2944,3281,3287,3338,3343-3345,3394-3398,3416-3417,3494,3546,3551,3677-3679,3821,3825-3829
-- 111 calls in 46 theorems. ORACLE's model of the device, in Python, gave the answers and the states.
use mathlib.Core.Path.{◌≡◌, refl}
use Prim.Native.Nat.{ℕ}
use mathlib.Core.Bool.{true, false}
use mathlib.Core.List.{List, [], ◌∷◌, ◌++◌}
use lib.ListN.{replicate}
use Rattle.model.specs.Calls.{make, add_vcpu, set_running, change_line, query_signal, read_distributor, write_distributor, read_frame, write_frame, read_system, write_system, get_attribute, set_attribute, restore}
use Rattle.worked.proofs.Rows.{Row, gives, refuses, saves, words, changed, differs}

abbrev session-4-state-1 : List ℕ
session-4-state-1 = words 1760 []

abbrev session-4-rows-1 : List Row
session-4-rows-1 =
    gives make 0
    ∷ []

session-4-chunk-1 : differs session-4-rows-1 session-4-state-1 session-4-state-1 ≡ 0
unfolding differs
session-4-chunk-1 = refl

abbrev session-4-state-2 : List ℕ
session-4-state-2 = words 1760 (
    (0, 1) ∷ (1, 0x80) ∷ (2, 5) ∷ (3, 3) ∷ (16, 0xce4eeadc) ∷ (17, 0x10001) ∷ (18, 1) ∷ (19, 1) ∷ (25, 0xa0f8a008) ∷ (29, 0xffff) ∷ (32, 0x100) ∷
    (35, 0xf8) ∷ (36, 2) ∷ (37, 5) ∷ (38, 3) ∷ (41, 1) ∷ (42, 1) ∷ (50, 1) ∷ (59, 0x8000000) ∷ (61, 0xffff) ∷ (64, 0xf) ∷ (67, 0xa8) ∷ (69, 2) ∷
    (70, 3) ∷ (73, 1) ∷ (74, 1) ∷ (82, 1) ∷ (93, 0xffff) ∷ (96, 0xff0f) ∷ (101, 2) ∷ (102, 3) ∷ (112, 0x8b0880ab) ∷ (113, 0x10001) ∷ (114, 1) ∷
    (115, 0x10001) ∷ (116, 0x10000) ∷ (117, 0xf8c8d8a0) ∷ (125, 0xffff) ∷ (128, 0x10000) ∷ (133, 2) ∷ (134, 3) ∷ (136, 0x100000) ∷ (137, 1) ∷ (138, 1) ∷
    (146, 1) ∷ (149, 0x90) ∷ (157, 0xffff) ∷ (160, 0x7f0003) ∷ (163, 0xa8) ∷ (165, 4) ∷ (166, 3) ∷ (167, 0x10000) ∷ (169, 1) ∷ (304, 0x74af4be7) ∷
    (305, 0x18000000) ∷ (306, 0x80e7cde2) ∷ (307, 0x8000000) ∷ (308, 0x90000000) ∷ (315, 0x1098b8a0) ∷ (316, 0x408880a0) ∷ (318, 0xffff) ∷ (859, 0xf) ∷
    (860, 0xf) ∷ []
    )

abbrev session-4-rows-2 : List Row
session-4-rows-2 =
    gives (set_attribute 6 0x7f00030000c663 0) 0
    ∷ gives (set_attribute 5 0xff0f00010280 0x55555555) 0
    ∷ gives (get_attribute 5 0xff0f00010280) 0
    ∷ []

session-4-chunk-2 : differs session-4-rows-2 session-4-state-2 session-4-state-2 ≡ 0
unfolding differs
session-4-chunk-2 = refl

abbrev session-4-state-3 : List ℕ
session-4-state-3 = words 1760 (
    (0, 1) ∷ (1, 0x80) ∷ (2, 5) ∷ (3, 3) ∷ (16, 0xce4eeadc) ∷ (17, 0x10001) ∷ (18, 1) ∷ (19, 1) ∷ (25, 0xa0f8a008) ∷ (29, 0xffff) ∷ (32, 0x100) ∷
    (35, 0xf8) ∷ (36, 2) ∷ (37, 5) ∷ (38, 3) ∷ (40, 0x49f710f0) ∷ (41, 1) ∷ (42, 1) ∷ (49, 1) ∷ (59, 0x8000000) ∷ (61, 0xffff) ∷ (64, 0xf) ∷ (67, 0xa8) ∷
    (69, 2) ∷ (70, 3) ∷ (72, 0x80000) ∷ (73, 1) ∷ (74, 1) ∷ (81, 1) ∷ (83, 1) ∷ (89, 0xf8) ∷ (93, 0xffff) ∷ (96, 0xff0f) ∷ (99, 0xf8) ∷ (101, 2) ∷
    (102, 3) ∷ (103, 1) ∷ (105, 1) ∷ (112, 0x8b0880ab) ∷ (113, 0x10001) ∷ (115, 0x10001) ∷ (116, 0x20000) ∷ (117, 0xf8c8d880) ∷ (125, 0xffff) ∷
    (128, 0x10000) ∷ (131, 0xf8) ∷ (133, 3) ∷ (134, 3) ∷ (136, 0x190000) ∷ (137, 1) ∷ (138, 1) ∷ (146, 1) ∷ (149, 0x90) ∷ (157, 0xffff) ∷
    (160, 0x7f0003) ∷ (163, 0xa8) ∷ (165, 4) ∷ (166, 3) ∷ (167, 0x10000) ∷ (169, 1) ∷ (272, 0xbe3e1eaf) ∷ (304, 0x74af4be7) ∷ (305, 0x18000080) ∷
    (306, 0x98e7cd62) ∷ (307, 0x18000080) ∷ (308, 0x98000080) ∷ (310, 0x989898f8) ∷ (315, 0x1098b8a0) ∷ (316, 0x40888088) ∷ (317, 1) ∷ (318, 0xffff) ∷
    (839, 0xf) ∷ (859, 0xf) ∷ (860, 0x10000) ∷ []
    )

abbrev session-4-rows-3 : List Row
session-4-rows-3 =
    gives (set_attribute 5 0x10000010180 0x1001000) 0
    ∷ []

session-4-chunk-3 : differs session-4-rows-3 session-4-state-3 session-4-state-3 ≡ 0
unfolding differs
session-4-chunk-3 = refl

abbrev session-4-state-4 : List ℕ
session-4-state-4 = words 1760 (
    (0, 1) ∷ (1, 0x80) ∷ (2, 5) ∷ (3, 3) ∷ (16, 0xce4eeadc) ∷ (17, 0x10001) ∷ (19, 1) ∷ (25, 0xa0f8a008) ∷ (29, 0xffff) ∷ (32, 0x100) ∷ (33, 1) ∷
    (35, 0xf8) ∷ (36, 2) ∷ (37, 5) ∷ (38, 3) ∷ (39, 1) ∷ (40, 0x49f710f0) ∷ (41, 1) ∷ (42, 1) ∷ (49, 1) ∷ (59, 0x8000000) ∷ (61, 0xffff) ∷ (64, 0xf) ∷
    (65, 1) ∷ (67, 0xa8) ∷ (69, 2) ∷ (70, 3) ∷ (73, 1) ∷ (74, 1) ∷ (81, 1) ∷ (82, 1) ∷ (83, 1) ∷ (89, 0xf8) ∷ (93, 0xffff) ∷ (96, 0xff0f) ∷ (99, 0xf8) ∷
    (101, 2) ∷ (102, 3) ∷ (103, 1) ∷ (105, 1) ∷ (112, 0x8b0880ab) ∷ (113, 0x10001) ∷ (114, 1) ∷ (115, 0x10001) ∷ (116, 0x20000) ∷ (117, 0xf8c8d880) ∷
    (125, 0xffff) ∷ (128, 0x10000) ∷ (129, 1) ∷ (131, 0xf8) ∷ (133, 3) ∷ (134, 3) ∷ (136, 0x190000) ∷ (137, 1) ∷ (138, 1) ∷ (146, 1) ∷ (149, 0x90) ∷
    (157, 0xffff) ∷ (160, 0x7f0003) ∷ (161, 1) ∷ (163, 0xa8) ∷ (165, 4) ∷ (166, 3) ∷ (167, 0x10000) ∷ (169, 1) ∷ (272, 0xbe3e1eaf) ∷ (304, 0x74af4be7) ∷
    (305, 0x8000080) ∷ (306, 0x98e7cd62) ∷ (307, 0x18000000) ∷ (308, 0x98000080) ∷ (310, 0x989898f8) ∷ (315, 0x1098b8a0) ∷ (316, 0x40888088) ∷ (317, 1) ∷
    (318, 0xffff) ∷ (839, 0xf) ∷ (859, 0xf) ∷ (860, 0x100) ∷ []
    )

abbrev session-4-rows-4 : List Row
session-4-rows-4 =
    gives (write_system 0 0xc643 0x8201ac53b7f2b638) 0
    ∷ gives (write_system 1 0xc65d 0x17f00000008) 0
    ∷ gives (write_distributor 3 0x10384 4 0x8000) 0
    ∷ gives (read_distributor 3 0x10384 4) 0
    ∷ gives (write_distributor 0 0x181 1 7) 0
    ∷ gives (read_frame 1 4 0xffe8 4) 0
    ∷ []

session-4-chunk-4 : differs session-4-rows-4 session-4-state-4 (changed session-4-state-4 ((18, 1) ∷ (37, 2) ∷ [])) ≡ 0
unfolding differs
session-4-chunk-4 = refl

abbrev session-4-state-5 : List ℕ
session-4-state-5 = words 1760 (
    (0, 1) ∷ (1, 0x80) ∷ (2, 5) ∷ (3, 3) ∷ (16, 0xce4eeadc) ∷ (17, 0x8010001) ∷ (18, 0x1000) ∷ (19, 0x8000000) ∷ (20, 0x8000000) ∷ (25, 0x10a01010) ∷
    (29, 0xffff) ∷ (32, 0x100) ∷ (33, 1) ∷ (35, 0xf8) ∷ (36, 2) ∷ (37, 4) ∷ (38, 5) ∷ (40, 0x100000) ∷ (41, 1) ∷ (42, 1) ∷ (49, 1) ∷ (50, 0x9001) ∷
    (51, 0xf7058726) ∷ (52, 0x8000000) ∷ (57, 0xf88898f8) ∷ (59, 0x8000000) ∷ (61, 0xffff) ∷ (64, 0xf) ∷ (65, 1) ∷ (67, 0xa8) ∷ (69, 2) ∷ (70, 3) ∷
    (73, 1) ∷ (74, 1) ∷ (81, 1) ∷ (82, 0x1003) ∷ (83, 1) ∷ (89, 0xf8) ∷ (93, 0xffff) ∷ (96, 0xff0f) ∷ (97, 1) ∷ (99, 0xf8) ∷ (101, 2) ∷ (102, 3) ∷
    (103, 1) ∷ (105, 1) ∷ (112, 0x8b0880ab) ∷ (113, 0x10001) ∷ (114, 0x1000) ∷ (116, 0x8020000) ∷ (117, 0xf8c8d810) ∷ (121, 0x98) ∷ (125, 0xffff) ∷
    (128, 0x10000) ∷ (129, 1) ∷ (131, 0xf8) ∷ (133, 7) ∷ (134, 3) ∷ (136, 0x100000) ∷ (137, 1) ∷ (138, 1) ∷ (145, 1) ∷ (148, 0x10000) ∷ (149, 0x90) ∷
    (157, 0xffff) ∷ (160, 0x7f0003) ∷ (161, 1) ∷ (163, 0xa8) ∷ (164, 2) ∷ (165, 4) ∷ (166, 3) ∷ (167, 0x2e16629a) ∷ (168, 0x80) ∷ (169, 1) ∷ (170, 1) ∷
    (272, 0xbe3e1eaf) ∷ (289, 0x4000000) ∷ (304, 0x74af4be7) ∷ (305, 0x98000080) ∷ (306, 0xa0878540) ∷ (307, 0x18000000) ∷ (308, 0x8000080) ∷
    (310, 0x389898f8) ∷ (315, 0x1098b8a0) ∷ (316, 0x40a0f8a0) ∷ (317, 1) ∷ (318, 0xffff) ∷ (769, 0x7a7c32) ∷ (826, 0x10000) ∷ (839, 0x7f0003) ∷
    (859, 0xf) ∷ (860, 0x100) ∷ (863, 0x100) ∷ []
    )

abbrev session-4-rows-5 : List Row
session-4-rows-5 =
    refuses (get_attribute 5 0x100000000000014) 22
    ∷ []

session-4-chunk-5 : differs session-4-rows-5 session-4-state-5 session-4-state-5 ≡ 0
unfolding differs
session-4-chunk-5 = refl

abbrev session-4-state-6 : List ℕ
session-4-state-6 = words 1760 (
    (0, 1) ∷ (1, 0x60) ∷ (2, 2) ∷ (3, 3) ∷ (29, 0xffff) ∷ (32, 0xffff0f) ∷ (37, 2) ∷ (38, 3) ∷ (61, 0xffff) ∷ (64, 0x10001) ∷ (67, 0xf8) ∷ (68, 2) ∷
    (69, 2) ∷ (70, 3) ∷ (72, 4) ∷ (73, 1) ∷ (74, 1) ∷ (272, 0xe384619e) ∷ (273, 0x801) ∷ (277, 0x8d818f0) ∷ (279, 0xa0a0b028) ∷ (288, 0xbe57db2a) ∷
    (289, 0x8000000) ∷ (291, 0x8000000) ∷ (292, 0x8000000) ∷ (299, 0xa0904090) ∷ (302, 0xffff) ∷ (768, 0xffff0f) ∷ (827, 0x10001) ∷ []
    )

abbrev session-4-rows-6 : List Row
session-4-rows-6 =
    refuses (set_attribute 7 0xffff0f00000020 0x200000800) 22
    ∷ []

session-4-chunk-6 : differs session-4-rows-6 session-4-state-6 session-4-state-6 ≡ 0
unfolding differs
session-4-chunk-6 = refl

abbrev session-4-state-7 : List ℕ
session-4-state-7 = words 1760 (
    (0, 1) ∷ (1, 0x60) ∷ (2, 2) ∷ (3, 3) ∷ (20, 0xea870000) ∷ (25, 0x8810f808) ∷ (29, 0xffff) ∷ (32, 0xffff0f) ∷ (33, 1) ∷ (35, 0xf8) ∷ (37, 2) ∷
    (38, 3) ∷ (39, 0x40000000) ∷ (40, 0x100000) ∷ (41, 1) ∷ (42, 1) ∷ (52, 0x8000000) ∷ (57, 0xa0a010a0) ∷ (61, 0xffff) ∷ (64, 0x10001) ∷ (65, 1) ∷
    (67, 0xf8) ∷ (68, 2) ∷ (69, 2) ∷ (70, 3) ∷ (73, 1) ∷ (74, 1) ∷ (272, 0xe384619e) ∷ (273, 0x800) ∷ (274, 1) ∷ (275, 1) ∷ (276, 0xf0000800) ∷
    (277, 0x8d818f0) ∷ (279, 0x90a0b028) ∷ (285, 0xffff) ∷ (288, 0xbe57db2a) ∷ (289, 0x8000000) ∷ (290, 0x8000000) ∷ (292, 0x8000000) ∷
    (299, 0x908890f8) ∷ (302, 0xffff) ∷ (768, 0xffff0f) ∷ (779, 0xffff0f) ∷ (827, 0xffff0f) ∷ []
    )

abbrev session-4-rows-7 : List Row
session-4-rows-7 =
    gives (write_system 0 0xc643 0) 0
    ∷ gives (read_system 0 0xc662) 0x5b
    ∷ []

session-4-chunk-7 : differs session-4-rows-7 session-4-state-7 session-4-state-7 ≡ 0
unfolding differs
session-4-chunk-7 = refl

abbrev session-4-state-8 : List ℕ
session-4-state-8 = words 1760 (
    (0, 1) ∷ (1, 0x60) ∷ (2, 2) ∷ (3, 3) ∷ (18, 1) ∷ (20, 0xea870000) ∷ (25, 0x8810f808) ∷ (29, 0xffff) ∷ (32, 0xffff0f) ∷ (35, 0xf8) ∷ (37, 6) ∷
    (38, 4) ∷ (39, 0x40000000) ∷ (40, 0x140000) ∷ (41, 1) ∷ (42, 1) ∷ (52, 0x8000000) ∷ (57, 0xa0a010a0) ∷ (61, 0xffff) ∷ (64, 0x10001) ∷ (67, 0xf8) ∷
    (68, 2) ∷ (69, 2) ∷ (70, 3) ∷ (73, 1) ∷ (74, 1) ∷ (272, 0xe384619e) ∷ (273, 0x801) ∷ (276, 0xf0000800) ∷ (279, 0x90a0b028) ∷ (285, 0xffff) ∷
    (288, 0xbe57db2a) ∷ (289, 0x8000000) ∷ (292, 0x8000000) ∷ (299, 0x708890f8) ∷ (302, 0xffff) ∷ (768, 0xffff0f) ∷ (779, 0xffff0f) ∷ (827, 0xffff0f) ∷ []
    )

abbrev session-4-rows-8 : List Row
session-4-rows-8 =
    gives (change_line 1 0x5b true) 0
    ∷ []

session-4-chunk-8 : differs session-4-rows-8 session-4-state-8 session-4-state-8 ≡ 0
unfolding differs
session-4-chunk-8 = refl

abbrev session-4-state-9 : List ℕ
session-4-state-9 = words 1760 (
    (0, 1) ∷ (1, 0x60) ∷ (2, 2) ∷ (3, 3) ∷ (18, 1) ∷ (20, 0xea870000) ∷ (25, 0x8810f808) ∷ (29, 0xffff) ∷ (32, 0xffff0f) ∷ (33, 1) ∷ (35, 0xf8) ∷
    (37, 6) ∷ (38, 6) ∷ (41, 1) ∷ (42, 1) ∷ (52, 0x8000000) ∷ (57, 0xa0a010a0) ∷ (61, 0xffff) ∷ (64, 0x10001) ∷ (67, 0xf8) ∷ (68, 2) ∷ (69, 2) ∷
    (70, 3) ∷ (73, 1) ∷ (74, 1) ∷ (272, 0xe384619e) ∷ (273, 0x801) ∷ (274, 0x801) ∷ (275, 1) ∷ (276, 0xf0000801) ∷ (279, 0x48a0b028) ∷ (285, 0xffff) ∷
    (288, 0xbe57db2a) ∷ (289, 0x8000000) ∷ (291, 0x8000000) ∷ (299, 0x708890f8) ∷ (302, 0xffff) ∷ (768, 0xffff0f) ∷ (779, 0xffff0f) ∷ (827, 0xffff0f) ∷ []
    )

abbrev session-4-rows-9 : List Row
session-4-rows-9 =
    gives (read_system 0 0xc640) 0x2b
    ∷ []

session-4-chunk-9 : differs session-4-rows-9 session-4-state-9 (changed session-4-state-9 ((39, 1) ∷ (274, 1) ∷ (275, 0x801) ∷ [])) ≡ 0
unfolding differs
session-4-chunk-9 = refl

abbrev session-4-state-10 : List ℕ
session-4-state-10 = words 1760 ((2, 2) ∷ (29, 0xffff) ∷ (37, 2) ∷ (38, 3) ∷ (61, 0xffff) ∷ (64, 0xf) ∷ (69, 2) ∷ (70, 3) ∷ [])

abbrev session-4-rows-10 : List Row
session-4-rows-10 =
    refuses (add_vcpu 0xf) 17
    ∷ refuses (add_vcpu 0x1000000) 22
    ∷ gives (add_vcpu 0xff0000) 0
    ∷ gives (set_attribute 3 0 0x60) 0
    ∷ refuses (set_attribute 3 0 0x60) 16
    ∷ []

session-4-chunk-10 : differs session-4-rows-10 session-4-state-10 (changed session-4-state-10 ((1, 0x60) ∷ (2, 3) ∷ (93, 0xffff) ∷ (96, 0xff0000) ∷ (101, 2) ∷ (102, 3) ∷ [])) ≡ 0
unfolding differs
session-4-chunk-10 = refl

abbrev session-4-state-11 : List ℕ
session-4-state-11 = words 1760 (
    (0, 1) ∷ (1, 0x60) ∷ (2, 3) ∷ (29, 0xffff) ∷ (37, 2) ∷ (38, 3) ∷ (61, 0xffff) ∷ (64, 0xf) ∷ (69, 2) ∷ (70, 3) ∷ (91, 0xa0a0a0a0) ∷ (93, 0xffff) ∷
    (96, 0xff0000) ∷ (101, 2) ∷ (102, 3) ∷ []
    )

abbrev session-4-rows-11 : List Row
session-4-rows-11 =
    refuses (set_attribute 3 0x12f932a1b 0x3f) 22
    ∷ []

session-4-chunk-11 : differs session-4-rows-11 session-4-state-11 session-4-state-11 ≡ 0
unfolding differs
session-4-chunk-11 = refl

abbrev session-4-state-12 : List ℕ
session-4-state-12 = words 1760 (
    (0, 1) ∷ (1, 0x60) ∷ (2, 3) ∷ (3, 3) ∷ (29, 0xffff) ∷ (37, 2) ∷ (38, 3) ∷ (61, 0xffff) ∷ (64, 0xf) ∷ (65, 1) ∷ (69, 2) ∷ (70, 3) ∷ (73, 1) ∷
    (91, 0xa0a0a0a0) ∷ (93, 0xffff) ∷ (96, 0xff0000) ∷ (97, 1) ∷ (101, 2) ∷ (102, 3) ∷ (274, 2) ∷ (288, 0x920292ef) ∷ (289, 0x8000000) ∷
    (292, 0x8000000) ∷ (299, 0x90000000) ∷ (827, 0xf) ∷ []
    )

abbrev session-4-rows-12 : List Row
session-4-rows-12 =
    gives (read_system 1 0xc642) 0x5b
    ∷ []

session-4-chunk-12 : differs session-4-rows-12 session-4-state-12 session-4-state-12 ≡ 0
unfolding differs
session-4-chunk-12 = refl

abbrev session-4-state-13 : List ℕ
session-4-state-13 = words 1760 (
    (0, 1) ∷ (1, 0x60) ∷ (2, 3) ∷ (3, 3) ∷ (29, 0xffff) ∷ (37, 2) ∷ (38, 3) ∷ (49, 2) ∷ (50, 2) ∷ (61, 0xffff) ∷ (64, 0xf) ∷ (65, 1) ∷ (69, 2) ∷
    (70, 3) ∷ (73, 1) ∷ (91, 0xa0a0a0a0) ∷ (93, 0xffff) ∷ (96, 0xff0000) ∷ (97, 1) ∷ (101, 2) ∷ (102, 3) ∷ (274, 2) ∷ (288, 0x920292ef) ∷
    (289, 0x8000000) ∷ (292, 0x8000000) ∷ (299, 0x90000000) ∷ (827, 0xf) ∷ []
    )

abbrev session-4-rows-13 : List Row
session-4-rows-13 =
    gives (read_system 1 0xc640) 0x3ff
    ∷ gives (write_system 1 0xc230 0xff) 0
    ∷ []

session-4-chunk-13 : differs session-4-rows-13 session-4-state-13 (changed session-4-state-13 ((67, 0xf8) ∷ [])) ≡ 0
unfolding differs
session-4-chunk-13 = refl

abbrev session-4-state-14 : List ℕ
session-4-state-14 = words 1760 (
    (0, 1) ∷ (1, 0x60) ∷ (2, 3) ∷ (3, 3) ∷ (29, 0xffff) ∷ (37, 2) ∷ (38, 3) ∷ (49, 2) ∷ (61, 0xffff) ∷ (64, 0xf) ∷ (65, 1) ∷ (67, 0xf8) ∷ (69, 2) ∷
    (70, 6) ∷ (73, 1) ∷ (74, 1) ∷ (91, 0xa0a0a0a0) ∷ (93, 0xffff) ∷ (96, 0xff0000) ∷ (97, 1) ∷ (101, 2) ∷ (102, 3) ∷ (274, 2) ∷ (288, 0x920292ef) ∷
    (289, 0x8000000) ∷ (292, 0x8000000) ∷ (299, 0xa0000000) ∷ (302, 0xdeb1) ∷ (827, 0xf) ∷ []
    )

abbrev session-4-rows-14 : List Row
session-4-rows-14 =
    gives (write_system 1 0xc65d 0x1000001) 0
    ∷ []

session-4-chunk-14 : differs session-4-rows-14 session-4-state-14 (changed session-4-state-14 ((18, 2) ∷ [])) ≡ 0
unfolding differs
session-4-chunk-14 = refl

abbrev session-4-state-15 : List ℕ
session-4-state-15 = words 1760 (
    (0, 1) ∷ (1, 0x60) ∷ (2, 3) ∷ (3, 3) ∷ (18, 3) ∷ (29, 0xffff) ∷ (37, 2) ∷ (38, 3) ∷ (49, 2) ∷ (50, 1) ∷ (61, 0xffff) ∷ (64, 0xf) ∷ (65, 1) ∷
    (67, 0xf8) ∷ (69, 2) ∷ (70, 6) ∷ (73, 1) ∷ (74, 1) ∷ (82, 1) ∷ (91, 0xa0a0a0a0) ∷ (93, 0xffff) ∷ (96, 0xff0000) ∷ (97, 1) ∷ (99, 0xf8) ∷ (101, 3) ∷
    (102, 3) ∷ (105, 1) ∷ (273, 1) ∷ (274, 2) ∷ (275, 1) ∷ (288, 0x920292ef) ∷ (289, 0x8080000) ∷ (290, 0x8000000) ∷ (292, 0x8080000) ∷
    (299, 0xa0000000) ∷ (302, 0xdeb1) ∷ (768, 0xf) ∷ (819, 0xf) ∷ (827, 0xff0000) ∷ []
    )

abbrev session-4-rows-15 : List Row
session-4-rows-15 =
    gives (write_distributor 1 0x18c 4 1) 0
    ∷ gives (write_frame 1 1 0x7c 4 0x1001001) 0
    ∷ gives (read_frame 1 1 0x7c 4) 0
    ∷ gives (write_system 2 0xc666 0xe288516a456925f8) 0
    ∷ gives (write_frame 2 2 0x10100 4 1) 0
    ∷ []

session-4-chunk-15 : differs session-4-rows-15 session-4-state-15 (changed session-4-state-15 ((81, 1) ∷ (105, 0) ∷ [])) ≡ 0
unfolding differs
session-4-chunk-15 = refl

abbrev session-4-state-16 : List ℕ
session-4-state-16 = words 1760 (
    (0, 1) ∷ (1, 0x60) ∷ (2, 5) ∷ (3, 3) ∷ (16, 0x8cbfca8b) ∷ (17, 0x8000) ∷ (24, 0x40b0b8c0) ∷ (29, 0xffff) ∷ (33, 1) ∷ (35, 0xf8) ∷ (36, 2) ∷ (37, 2) ∷
    (38, 3) ∷ (41, 1) ∷ (42, 1) ∷ (48, 0xe237995b) ∷ (49, 0x8000000) ∷ (59, 0x90e888c8) ∷ (61, 0xffff) ∷ (64, 0x100) ∷ (65, 1) ∷ (67, 0xf8) ∷ (69, 2) ∷
    (70, 3) ∷ (73, 1) ∷ (74, 1) ∷ (81, 0x20000) ∷ (93, 0xffff) ∷ (96, 0x1010f) ∷ (97, 1) ∷ (99, 0xf8) ∷ (101, 6) ∷ (102, 3) ∷ (105, 1) ∷ (106, 1) ∷
    (113, 0x80020000) ∷ (115, 0x80020000) ∷ (116, 0x80020000) ∷ (125, 0xffff) ∷ (128, 0x200) ∷ (129, 1) ∷ (131, 0xf8) ∷ (132, 2) ∷ (133, 2) ∷ (134, 3) ∷
    (137, 1) ∷ (138, 1) ∷ (157, 0xffff) ∷ (160, 0x7f0003) ∷ (161, 1) ∷ (163, 0xa8) ∷ (164, 2) ∷ (165, 2) ∷ (166, 5) ∷ (170, 1) ∷ (272, 0x37d3febb) ∷
    (273, 0x80000002) ∷ (275, 0x80000000) ∷ (277, 0x70988070) ∷ (285, 0xc53e) ∷ (288, 0xdffcc6dd) ∷ (289, 0xd0000000) ∷ (290, 0x50000000) ∷
    (292, 0x10000000) ∷ (300, 0x810a0a0) ∷ (302, 0xffff) ∷ (799, 0x200) ∷ (828, 0x200) ∷ (831, 0x100) ∷ []
    )

abbrev session-4-rows-16 : List Row
session-4-rows-16 =
    gives (write_distributor 2 0x45c 4 0x88a7a0a7) 0
    ∷ gives (write_system 1 0xc65d 0x1020001) 0
    ∷ []

session-4-chunk-16 : differs session-4-rows-16 session-4-state-16 (changed session-4-state-16 ((114, 2) ∷ (300, 0x88a0a0a0) ∷ [])) ≡ 0
unfolding differs
session-4-chunk-16 = refl

abbrev session-4-state-17 : List ℕ
session-4-state-17 = words 1760 (
    (0, 1) ∷ (1, 0x60) ∷ (2, 5) ∷ (3, 3) ∷ (16, 0x8cbfca8b) ∷ (17, 0x80028000) ∷ (19, 0x20000) ∷ (20, 0x80020000) ∷ (24, 0x40b0b8c0) ∷ (29, 0xffff) ∷
    (33, 1) ∷ (35, 0xf8) ∷ (36, 2) ∷ (37, 2) ∷ (38, 3) ∷ (41, 1) ∷ (42, 1) ∷ (48, 0xe237995b) ∷ (49, 0x88020000) ∷ (52, 0x20000) ∷ (59, 0x90e888c8) ∷
    (61, 0xffff) ∷ (64, 0x100) ∷ (65, 1) ∷ (67, 0xf8) ∷ (69, 2) ∷ (70, 3) ∷ (73, 1) ∷ (74, 1) ∷ (81, 0x80020000) ∷ (92, 0x88000000) ∷ (93, 0xffff) ∷
    (96, 0x1010f) ∷ (97, 1) ∷ (99, 0xf8) ∷ (101, 5) ∷ (102, 3) ∷ (105, 1) ∷ (106, 1) ∷ (113, 0x80020000) ∷ (114, 2) ∷ (115, 0x80000000) ∷
    (116, 0x80020000) ∷ (125, 0xffff) ∷ (128, 0x200) ∷ (129, 1) ∷ (131, 0xf8) ∷ (133, 2) ∷ (134, 3) ∷ (137, 1) ∷ (138, 1) ∷ (145, 0x20000) ∷
    (147, 0x20000) ∷ (157, 0xffff) ∷ (160, 0x7f0003) ∷ (161, 1) ∷ (163, 0xa8) ∷ (164, 2) ∷ (165, 2) ∷ (166, 5) ∷ (169, 1) ∷ (170, 1) ∷
    (272, 0x37d3febb) ∷ (273, 0x80000002) ∷ (276, 0x80000000) ∷ (277, 0x70988070) ∷ (285, 0xc53e) ∷ (288, 0xdffcc6dd) ∷ (289, 0xd0000000) ∷
    (290, 0x10000000) ∷ (291, 0x40000000) ∷ (292, 0x10000000) ∷ (300, 0x88a0a0a0) ∷ (302, 0xffff) ∷ (828, 0x7f0003) ∷ (831, 0x100) ∷ []
    )

abbrev session-4-rows-17 : List Row
session-4-rows-17 =
    gives (query_signal 0) 1
    ∷ []

session-4-chunk-17 : differs session-4-rows-17 session-4-state-17 session-4-state-17 ≡ 0
unfolding differs
session-4-chunk-17 = refl

abbrev session-4-state-18 : List ℕ
session-4-state-18 = words 1760 (
    (0, 1) ∷ (1, 0x60) ∷ (2, 5) ∷ (3, 3) ∷ (16, 0x8cbfca8b) ∷ (17, 0x80028000) ∷ (18, 8) ∷ (19, 0x80000000) ∷ (20, 0x20000) ∷ (24, 0x40b0b8c0) ∷
    (29, 0xffff) ∷ (33, 1) ∷ (35, 0xf8) ∷ (36, 2) ∷ (37, 2) ∷ (38, 3) ∷ (41, 1) ∷ (42, 1) ∷ (48, 0xe237995b) ∷ (49, 0x88020000) ∷ (50, 8) ∷
    (52, 0x20000) ∷ (59, 0x90e888c8) ∷ (61, 0xffff) ∷ (64, 0x100) ∷ (65, 1) ∷ (67, 0xf8) ∷ (69, 2) ∷ (70, 5) ∷ (73, 1) ∷ (74, 1) ∷ (80, 0xfc748bd5) ∷
    (81, 0x80020000) ∷ (92, 0x88000000) ∷ (93, 0xffff) ∷ (96, 0x1010f) ∷ (97, 1) ∷ (99, 0xf8) ∷ (101, 5) ∷ (102, 3) ∷ (105, 1) ∷ (106, 1) ∷
    (113, 0x80020000) ∷ (114, 0xa) ∷ (115, 0x80020000) ∷ (116, 0x80020000) ∷ (125, 0xffff) ∷ (128, 0x200) ∷ (129, 1) ∷ (131, 0xf8) ∷ (133, 2) ∷
    (134, 3) ∷ (135, 1) ∷ (137, 1) ∷ (138, 1) ∷ (145, 0x80020000) ∷ (146, 8) ∷ (147, 0x80020000) ∷ (148, 0x80000000) ∷ (157, 0xffff) ∷ (160, 0x7f0003) ∷
    (161, 1) ∷ (163, 0xa8) ∷ (164, 2) ∷ (165, 2) ∷ (166, 5) ∷ (167, 1) ∷ (169, 1) ∷ (170, 1) ∷ (272, 0x37d3febb) ∷ (273, 0x80000002) ∷
    (276, 0x80000000) ∷ (277, 0x70988070) ∷ (285, 0xffff) ∷ (288, 0xdffcc6dd) ∷ (289, 0xd0000000) ∷ (292, 0x40000000) ∷ (300, 0x8898a0a0) ∷
    (302, 0xffff) ∷ (799, 0x1010f) ∷ (828, 0x100) ∷ (830, 0x100) ∷ (831, 0x100) ∷ []
    )

abbrev session-4-rows-18 : List Row
session-4-rows-18 =
    gives (read_distributor 1 0x308 4) 0
    ∷ gives (read_frame 1 1 0x80 4) 0
    ∷ gives (write_distributor 2 0x45e 1 0xc65949a0) 0
    ∷ gives (read_distributor 4 0x62e0 4) 0x100
    ∷ gives (read_distributor 0 0x208 4) 0
    ∷ gives (write_system 3 0xc641 0x4175a6e155000011) 0
    ∷ []

session-4-chunk-18 : differs session-4-rows-18 session-4-state-18 (changed session-4-state-18 ((115, 0x80000000) ∷ (135, 0) ∷ (300, 0x88a0a0a0) ∷ [])) ≡ 0
unfolding differs
session-4-chunk-18 = refl

abbrev session-4-state-19 : List ℕ
session-4-state-19 = words 1760 (
    (0, 1) ∷ (1, 0x60) ∷ (2, 5) ∷ (3, 3) ∷ (16, 0x8cbfca8b) ∷ (17, 0x80028000) ∷ (18, 8) ∷ (19, 0x80020000) ∷ (20, 0x80000000) ∷ (24, 0x40b0b8c0) ∷
    (29, 0xffff) ∷ (35, 0xf8) ∷ (36, 2) ∷ (37, 2) ∷ (38, 3) ∷ (40, 1) ∷ (41, 1) ∷ (42, 1) ∷ (48, 0xe237995b) ∷ (49, 0x88020000) ∷ (50, 8) ∷
    (51, 0x80000000) ∷ (52, 0x80020000) ∷ (57, 0x90a0f880) ∷ (59, 0x90e888c8) ∷ (61, 0xffff) ∷ (64, 0x100) ∷ (65, 1) ∷ (67, 0xf8) ∷ (69, 2) ∷ (70, 5) ∷
    (72, 1) ∷ (73, 1) ∷ (74, 1) ∷ (80, 0xfc748bd5) ∷ (81, 0x80020000) ∷ (82, 0x80000000) ∷ (83, 0x20000) ∷ (84, 0x80020000) ∷ (92, 0x70000000) ∷
    (93, 0xffff) ∷ (96, 0x1010f) ∷ (97, 1) ∷ (99, 0x80) ∷ (101, 5) ∷ (102, 3) ∷ (103, 1) ∷ (105, 1) ∷ (106, 1) ∷ (112, 0x8f55bd3c) ∷ (113, 0x80020000) ∷
    (114, 0xa) ∷ (115, 0x80000000) ∷ (116, 0x80020000) ∷ (125, 0xffff) ∷ (128, 0x200) ∷ (129, 1) ∷ (131, 0xf8) ∷ (133, 2) ∷ (134, 3) ∷ (137, 1) ∷
    (138, 1) ∷ (145, 0x80020000) ∷ (146, 0x408) ∷ (147, 0x80020000) ∷ (148, 0x80000000) ∷ (157, 0xffff) ∷ (160, 0x7f0003) ∷ (161, 1) ∷ (163, 0xf0) ∷
    (164, 2) ∷ (165, 2) ∷ (166, 5) ∷ (168, 0x100000) ∷ (169, 1) ∷ (170, 1) ∷ (272, 0x37d3febb) ∷ (273, 0x80000002) ∷ (274, 0x80000000) ∷
    (276, 0x80000000) ∷ (277, 0x70988070) ∷ (285, 0xffff) ∷ (288, 0x3009608d) ∷ (289, 0xd0000000) ∷ (290, 0x10000000) ∷ (291, 0x40000000) ∷
    (292, 0x10000000) ∷ (300, 0x88a0a0a0) ∷ (302, 0xffff) ∷ (799, 0x200) ∷ (828, 0x100) ∷ (830, 0x7f0003) ∷ (831, 0x100) ∷ []
    )

abbrev session-4-rows-19 : List Row
session-4-rows-19 =
    gives (write_distributor 1 0x188 4 0x40000000) 0
    ∷ gives (write_system 3 0xc65f 0x17f03000008) 0
    ∷ gives (read_system 3 0xc640) 0x11
    ∷ []

session-4-chunk-19 : differs session-4-rows-19 session-4-state-19 (changed session-4-state-19 ((82, 0x80000008) ∷ (115, 0x80020000) ∷ (135, 1) ∷ (289, 0x90000000) ∷ [])) ≡ 0
unfolding differs
session-4-chunk-19 = refl

abbrev session-4-state-20 : List ℕ
session-4-state-20 = words 1760 (
    (0, 1) ∷ (1, 0x80) ∷ (2, 2) ∷ (3, 3) ∷ (16, 0xca1b7a7b) ∷ (17, 0x8000002) ∷ (18, 2) ∷ (27, 0xf8d0e888) ∷ (29, 0xffff) ∷ (32, 0x101) ∷ (33, 1) ∷
    (35, 0xa8) ∷ (37, 2) ∷ (38, 3) ∷ (41, 1) ∷ (42, 1) ∷ (48, 0x6c6816fd) ∷ (49, 0x8008001) ∷ (52, 0x8000000) ∷ (53, 0xf81830f0) ∷ (56, 0xa0509820) ∷
    (61, 0xffff) ∷ (64, 0xff0000) ∷ (67, 0xf8) ∷ (69, 2) ∷ (70, 3) ∷ (73, 1) ∷ (74, 1) ∷ (272, 0xd5c3bea6) ∷ (273, 0x4000001) ∷ (275, 0x4000000) ∷
    (276, 0x4000001) ∷ (277, 0x10183088) ∷ (304, 0x4d6ad72f) ∷ (305, 0x80000000) ∷ (316, 0xa03080e8) ∷ (794, 0x101) ∷ []
    )

abbrev session-4-rows-20 : List Row
session-4-rows-20 =
    gives (write_distributor 0 0x63f8 4 0xff000101) 0
    ∷ []

session-4-chunk-20 : differs session-4-rows-20 session-4-state-20 (changed session-4-state-20 ((863, 0x101) ∷ [])) ≡ 0
unfolding differs
session-4-chunk-20 = refl

abbrev session-4-state-21 : List ℕ
session-4-state-21 = words 1760 (
    (0, 1) ∷ (1, 0x80) ∷ (2, 2) ∷ (16, 0xca1b7a7b) ∷ (17, 0x8000002) ∷ (18, 2) ∷ (19, 2) ∷ (20, 0x8000000) ∷ (21, 0xa0088880) ∷ (27, 0xf8d0e888) ∷
    (29, 0xffff) ∷ (32, 0x101) ∷ (33, 1) ∷ (35, 0xf8) ∷ (37, 2) ∷ (38, 3) ∷ (40, 0x1a0000) ∷ (41, 1) ∷ (42, 1) ∷ (48, 0x6c6816fd) ∷ (49, 0x8008001) ∷
    (50, 2) ∷ (52, 0x8000000) ∷ (53, 0xf81830f0) ∷ (56, 0xa0509820) ∷ (61, 0xffff) ∷ (64, 0xff0000) ∷ (67, 0xf8) ∷ (69, 2) ∷ (70, 3) ∷ (73, 1) ∷
    (74, 1) ∷ (272, 0xd5c3bea6) ∷ (273, 0x4000001) ∷ (276, 0x4000001) ∷ (277, 0x10183088) ∷ (304, 0x4d6ad72f) ∷ (305, 0x80000000) ∷ (307, 0x80000000) ∷
    (316, 0x3080e8) ∷ (794, 0x101) ∷ (863, 0xff0000) ∷ []
    )

abbrev session-4-rows-21 : List Row
session-4-rows-21 =
    gives (read_system 0 0xc662) 0x3ff
    ∷ []

session-4-chunk-21 : differs session-4-rows-21 session-4-state-21 session-4-state-21 ≡ 0
unfolding differs
session-4-chunk-21 = refl

abbrev session-4-state-22 : List ℕ
session-4-state-22 = words 1760 (
    (0, 1) ∷ (1, 0x80) ∷ (2, 2) ∷ (3, 3) ∷ (16, 0xda05d935) ∷ (17, 0x8000002) ∷ (19, 2) ∷ (20, 0x8000000) ∷ (21, 0xb0d0a080) ∷ (27, 0xe8d0e888) ∷
    (29, 0xffff) ∷ (32, 0x101) ∷ (35, 0xf8) ∷ (37, 2) ∷ (38, 3) ∷ (40, 1) ∷ (41, 1) ∷ (42, 1) ∷ (48, 0x6c6816fd) ∷ (49, 0x8008001) ∷ (50, 0xa) ∷
    (52, 0x8000000) ∷ (53, 0xf81830f0) ∷ (56, 0xa0509820) ∷ (61, 0xffff) ∷ (64, 0xff0000) ∷ (67, 0xf8) ∷ (69, 2) ∷ (70, 3) ∷ (73, 1) ∷ (74, 1) ∷
    (272, 0xd5c3bea6) ∷ (273, 0x4000001) ∷ (275, 0x4000000) ∷ (276, 0x4000001) ∷ (277, 0x10183088) ∷ (304, 0x4d6ad72f) ∷ (305, 0x80000000) ∷
    (307, 0x80000000) ∷ (316, 0x3080e8) ∷ (794, 0x101) ∷ (863, 0x101) ∷ []
    )

abbrev session-4-rows-22 : List Row
session-4-rows-22 =
    refuses (set_attribute 6 0x1010000c664 0x401) 22
    ∷ []

session-4-chunk-22 : differs session-4-rows-22 session-4-state-22 session-4-state-22 ≡ 0
unfolding differs
session-4-chunk-22 = refl

abbrev session-4-state-23 : List ℕ
session-4-state-23 = words 1760 (
    (0, 1) ∷ (1, 0x80) ∷ (2, 2) ∷ (3, 3) ∷ (16, 0xda05d935) ∷ (17, 0x8000002) ∷ (18, 0x8000) ∷ (19, 2) ∷ (20, 0x8000000) ∷ (21, 0xb0d0a080) ∷
    (27, 0xe8d0e888) ∷ (29, 0xffff) ∷ (32, 0x101) ∷ (33, 1) ∷ (35, 0xf8) ∷ (37, 2) ∷ (38, 3) ∷ (41, 1) ∷ (42, 1) ∷ (48, 0x6c6816fd) ∷ (49, 0x8008001) ∷
    (50, 0xa) ∷ (52, 0x8000000) ∷ (53, 0xf81830f0) ∷ (56, 0xa0509820) ∷ (61, 0xffff) ∷ (64, 0xff0000) ∷ (65, 1) ∷ (67, 0xf8) ∷ (69, 2) ∷ (70, 3) ∷
    (73, 1) ∷ (74, 1) ∷ (272, 0xd5c3bea6) ∷ (273, 0x4000001) ∷ (276, 0x4100001) ∷ (277, 0x10183088) ∷ (304, 0x4d6ad72f) ∷ (305, 0x80000000) ∷
    (307, 0x80000000) ∷ (316, 0x3080e8) ∷ (768, 0x101) ∷ (794, 0x101) ∷ (863, 0x101) ∷ []
    )

abbrev session-4-rows-23 : List Row
session-4-rows-23 =
    gives (write_system 0 0xc661 0x80) 0
    ∷ gives (write_system 0 0xc641 0x10) 0
    ∷ gives (write_system 0 0xc659 0x10) 0
    ∷ []

session-4-chunk-23 : differs session-4-rows-23 session-4-state-23 session-4-state-23 ≡ 0
unfolding differs
session-4-chunk-23 = refl

abbrev session-4-state-24 : List ℕ
session-4-state-24 = words 1760 (
    (0, 1) ∷ (1, 0x80) ∷ (2, 2) ∷ (3, 3) ∷ (16, 0xbfe9d5db) ∷ (17, 0x8010002) ∷ (18, 0x8000) ∷ (19, 0x8000000) ∷ (20, 0x8000000) ∷ (21, 0xb0d0a080) ∷
    (27, 0xe8d0e888) ∷ (29, 0xffff) ∷ (32, 0x101) ∷ (35, 0xf8) ∷ (37, 2) ∷ (38, 3) ∷ (40, 0x20000000) ∷ (41, 1) ∷ (42, 1) ∷ (48, 0x6c6816fd) ∷
    (49, 0x8018001) ∷ (50, 0x1000b) ∷ (52, 0x8000000) ∷ (53, 0xf81830f0) ∷ (56, 0xa0509820) ∷ (57, 0x80a0f8a0) ∷ (61, 0xffff) ∷ (64, 0xff0000) ∷
    (67, 0xf8) ∷ (69, 2) ∷ (70, 3) ∷ (73, 1) ∷ (74, 1) ∷ (272, 0x7c00461c) ∷ (273, 0x4000001) ∷ (275, 0x4000001) ∷ (276, 0x4100001) ∷ (277, 0x10183000) ∷
    (285, 1) ∷ (304, 0x4d6ad72f) ∷ (305, 0x80000000) ∷ (307, 0x80000000) ∷ (316, 0x3080e8) ∷ (768, 0xff0000) ∷ (794, 0x101) ∷ (863, 0x101) ∷ []
    )

abbrev session-4-rows-24 : List Row
session-4-rows-24 =
    gives (get_attribute 5 0x10100000008) 0
    ∷ gives (set_attribute 5 0x10100010200 1) 0
    ∷ []

session-4-chunk-24 : differs session-4-rows-24 session-4-state-24 (changed session-4-state-24 ((18, 1) ∷ [])) ≡ 0
unfolding differs
session-4-chunk-24 = refl

abbrev session-4-state-25 : List ℕ
session-4-state-25 = words 1760 (
    (0, 1) ∷ (1, 0x80) ∷ (2, 2) ∷ (3, 3) ∷ (16, 0x1e0fc2b9) ∷ (17, 0x8010002) ∷ (18, 1) ∷ (19, 0x8000000) ∷ (20, 0x1000000) ∷ (21, 0xb0d0a080) ∷
    (27, 0xe8d0e888) ∷ (29, 0xffff) ∷ (32, 0x101) ∷ (35, 0x20) ∷ (37, 2) ∷ (38, 3) ∷ (39, 1) ∷ (40, 0x20000000) ∷ (41, 1) ∷ (42, 1) ∷ (48, 0x6c6816fd) ∷
    (49, 0x8018001) ∷ (50, 0xa) ∷ (51, 0x8018001) ∷ (52, 0x8010000) ∷ (53, 0xf81830f0) ∷ (56, 0xa0509820) ∷ (57, 0x80a0f8a0) ∷ (61, 0xffff) ∷
    (64, 0xff0000) ∷ (67, 0xf8) ∷ (69, 2) ∷ (70, 3) ∷ (72, 0x40000000) ∷ (73, 1) ∷ (74, 1) ∷ (272, 0x7c00461c) ∷ (273, 0x4000001) ∷ (275, 0x4000000) ∷
    (276, 0x4100000) ∷ (277, 0x10183000) ∷ (285, 0xcc5) ∷ (286, 0xffff) ∷ (304, 0x4d6ad72f) ∷ (305, 0x80000000) ∷ (307, 0x80000000) ∷ (316, 0x3080e8) ∷
    (768, 0x101) ∷ (794, 0x101) ∷ (863, 0x101) ∷ []
    )

abbrev session-4-rows-25 : List Row
session-4-rows-25 =
    gives (get_attribute 6 0xff00000000c644) 0
    ∷ gives (set_attribute 7 0x10100000020 0x989898a0) 0
    ∷ gives (get_attribute 7 0x10100000020) 0x989898a0
    ∷ gives (set_attribute 7 0x10100000000 0x402) 0
    ∷ gives (get_attribute 7 0xff000000000000) 0x8010000
    ∷ []

session-4-chunk-25 : differs session-4-rows-25 session-4-state-25 (changed session-4-state-25 ((20, 0) ∷ (276, 0x989898a0) ∷ [])) ≡ 0
unfolding differs
session-4-chunk-25 = refl

abbrev session-4-state-26 : List ℕ
session-4-state-26 = words 1760 (
    (0, 1) ∷ (1, 0x80) ∷ (2, 2) ∷ (3, 3) ∷ (16, 0x1e0fc2b9) ∷ (17, 0x8010002) ∷ (18, 1) ∷ (19, 0x10002) ∷ (20, 0x8010000) ∷ (21, 0xb0d0a080) ∷
    (27, 0xe8d0e888) ∷ (29, 0xffff) ∷ (32, 0x101) ∷ (33, 1) ∷ (35, 0xf0) ∷ (37, 2) ∷ (38, 7) ∷ (39, 0x100000) ∷ (41, 1) ∷ (42, 1) ∷ (48, 0x6c6816fd) ∷
    (49, 0x88018001) ∷ (50, 0xa) ∷ (51, 0x88018000) ∷ (52, 0x88010000) ∷ (53, 0xf81830f0) ∷ (56, 0xa0509820) ∷ (57, 0x80a0f8a0) ∷ (61, 0xffff) ∷
    (64, 0xff0000) ∷ (65, 1) ∷ (67, 0xf8) ∷ (69, 3) ∷ (70, 5) ∷ (71, 1) ∷ (73, 1) ∷ (74, 1) ∷ (272, 0xbfe0769b) ∷ (273, 0x4000001) ∷ (274, 1) ∷
    (275, 0x4000001) ∷ (276, 0x989898a1) ∷ (277, 0x10183000) ∷ (285, 0xcc5) ∷ (286, 0xffff) ∷ (304, 0x4d6ad72f) ∷ (305, 0xc8000000) ∷ (307, 0x88000000) ∷
    (308, 0x48000000) ∷ (316, 0xa080e8) ∷ (768, 0xff0000) ∷ (794, 0x101) ∷ (859, 0x101) ∷ (862, 0x101) ∷ (863, 0x101) ∷ []
    )

abbrev session-4-rows-26 : List Row
session-4-rows-26 =
    gives (query_signal 0) 1
    ∷ []

session-4-chunk-26 : differs session-4-rows-26 session-4-state-26 session-4-state-26 ≡ 0
unfolding differs
session-4-chunk-26 = refl

abbrev session-4-state-27 : List ℕ
session-4-state-27 = words 1760 (
    (0, 1) ∷ (1, 0x80) ∷ (2, 2) ∷ (3, 3) ∷ (16, 0x1e0fc2b9) ∷ (17, 0x88010002) ∷ (18, 1) ∷ (19, 0x80010002) ∷ (20, 0x8010000) ∷ (21, 0xb0d0a080) ∷
    (27, 0xe8d0e888) ∷ (29, 0xffff) ∷ (32, 0x101) ∷ (33, 1) ∷ (35, 0xf0) ∷ (37, 2) ∷ (38, 3) ∷ (39, 1) ∷ (41, 1) ∷ (42, 1) ∷ (48, 0x6c6816fd) ∷
    (49, 0x88018001) ∷ (50, 0xa) ∷ (51, 0x88018000) ∷ (52, 0x88010000) ∷ (53, 0xf81830f0) ∷ (56, 0xa0509820) ∷ (57, 0x80a0f8a0) ∷ (61, 0xffff) ∷
    (64, 0xff0000) ∷ (65, 1) ∷ (67, 0xf8) ∷ (69, 3) ∷ (70, 5) ∷ (71, 1) ∷ (73, 1) ∷ (74, 1) ∷ (272, 0xbfe0769b) ∷ (273, 0x4000001) ∷ (274, 1) ∷
    (275, 0x4000001) ∷ (276, 0x989898a1) ∷ (277, 0x10183000) ∷ (285, 0xcc5) ∷ (286, 0xffff) ∷ (304, 0x4d6ad72f) ∷ (305, 0xc8000000) ∷ (306, 0x40000000) ∷
    (307, 0xc8000000) ∷ (308, 0x8000000) ∷ (316, 0xa080e8) ∷ (768, 0xff0000) ∷ (794, 0x101) ∷ (859, 0x101) ∷ (862, 0x101) ∷ (863, 0x101) ∷ []
    )

abbrev session-4-rows-27 : List Row
session-4-rows-27 =
    gives (set_running 1 false) 0
    ∷ gives (write_distributor 0 0x17c 4 0x66185ac9) 0
    ∷ gives (read_distributor 0 0xc1c 4) 0
    ∷ refuses (change_line 0 0x3fb true) 22
    ∷ []

session-4-chunk-27 : differs session-4-rows-27 session-4-state-27 (changed session-4-state-27 ((65, 0) ∷ [])) ≡ 0
unfolding differs
session-4-chunk-27 = refl

abbrev session-4-state-28 : List ℕ
session-4-state-28 = words 1760 ((0, 1) ∷ (1, 0x80) ∷ (2, 1) ∷ (29, 0xffff) ∷ (32, 0x10001) ∷ (37, 2) ∷ (38, 3) ∷ [])

abbrev session-4-rows-28 : List Row
session-4-rows-28 =
    gives (set_attribute 4 0 0) 0
    ∷ []

session-4-chunk-28 : differs session-4-rows-28 session-4-state-28 session-4-state-28 ≡ 0
unfolding differs
session-4-chunk-28 = refl

abbrev session-4-state-29 : List ℕ
session-4-state-29 = words 1760 (
    (0, 1) ∷ (1, 0x80) ∷ (2, 1) ∷ (3, 3) ∷ (16, 0xa6d3269e) ∷ (17, 0x8000000) ∷ (27, 0x98b8d008) ∷ (29, 0xffff) ∷ (32, 0x10001) ∷ (33, 1) ∷ (35, 0xa8) ∷
    (36, 2) ∷ (37, 2) ∷ (38, 3) ∷ (41, 1) ∷ (42, 1) ∷ (304, 0x539905e4) ∷ (305, 0x10000000) ∷ (316, 0x2820a898) ∷ (318, 0xffff) ∷ (860, 0x10001) ∷ []
    )

abbrev session-4-rows-29 : List Row
session-4-rows-29 =
    gives (write_distributor 0 0x7fc 4 0xbde691a0) 0
    ∷ gives (write_distributor 0 0x7fe0 4 0x10001) 0
    ∷ gives (read_distributor 0 0x17c 4) 0
    ∷ gives (write_frame 0 0 0x10300 4 0x31868f45) 0
    ∷ gives (write_system 0 0xc643 3) 0
    ∷ gives (write_system 0 0xc667 1) 0
    ∷ []

session-4-chunk-29 : differs session-4-rows-29 session-4-state-29 (changed session-4-state-29 ((19, 0x31868f45) ∷ (37, 3) ∷ [])) ≡ 0
unfolding differs
session-4-chunk-29 = refl

abbrev session-4-state-30 : List ℕ
session-4-state-30 = words 1760 (
    (0, 1) ∷ (1, 0x80) ∷ (2, 1) ∷ (3, 3) ∷ (16, 0xa6d3269e) ∷ (17, 0x8000000) ∷ (19, 0x39868f45) ∷ (20, 0x8000000) ∷ (27, 0x98b8d008) ∷ (29, 0xffff) ∷
    (32, 0x10001) ∷ (33, 1) ∷ (35, 0xa8) ∷ (36, 2) ∷ (37, 3) ∷ (38, 3) ∷ (39, 0x40000) ∷ (42, 1) ∷ (304, 0x539905e4) ∷ (305, 0x10000000) ∷
    (316, 0x2820a898) ∷ (318, 0xffff) ∷ (860, 0x10001) ∷ []
    )

abbrev session-4-rows-30 : List Row
session-4-rows-30 =
    gives (change_line 0 0x1b false) 0
    ∷ gives (write_distributor 0 0xfc 4 0xf57c8c22) 0
    ∷ gives (write_frame 0 0 0x10380 4 0x8000000) 0
    ∷ gives (write_system 0 0xc666 1) 0
    ∷ []

session-4-chunk-30 : differs session-4-rows-30 session-4-state-30 (changed session-4-state-30 ((19, 0x31868f45) ∷ (20, 0) ∷ (41, 1) ∷ [])) ≡ 0
unfolding differs
session-4-chunk-30 = refl

abbrev session-4-state-31 : List ℕ
session-4-state-31 = words 1760 (
    (0, 1) ∷ (1, 0x80) ∷ (2, 1) ∷ (3, 3) ∷ (16, 0x38154730) ∷ (17, 0x8000000) ∷ (19, 0x39848f45) ∷ (20, 0x8020000) ∷ (27, 0xa0b8d008) ∷ (29, 0xffff) ∷
    (32, 0x10001) ∷ (33, 1) ∷ (35, 0xf8) ∷ (36, 2) ∷ (37, 6) ∷ (38, 3) ∷ (39, 1) ∷ (41, 1) ∷ (42, 1) ∷ (304, 0x36e21650) ∷ (305, 0x10000000) ∷
    (306, 0x10000000) ∷ (308, 0x10000000) ∷ (316, 0x2820a8f0) ∷ (318, 0xffff) ∷ (860, 0x10001) ∷ []
    )

abbrev session-4-rows-31 : List Row
session-4-rows-31 =
    gives (write_distributor 0 0x60ff 4 0xf0000000) 0
    ∷ gives (read_distributor 0 0x60ff 4) 0
    ∷ gives (set_running 0 true) 0
    ∷ gives (read_frame 0 0 0x10001 4) 0
    ∷ []

session-4-chunk-31 : differs session-4-rows-31 session-4-state-31 session-4-state-31 ≡ 0
unfolding differs
session-4-chunk-31 = refl

abbrev session-4-state-32 : List ℕ
session-4-state-32 = words 1760 (
    (0, 1) ∷ (1, 0x80) ∷ (2, 1) ∷ (3, 3) ∷ (16, 0x38154730) ∷ (17, 0x8000000) ∷ (19, 0x39848f45) ∷ (20, 0x8020000) ∷ (27, 0xb8d008) ∷ (29, 0xffff) ∷
    (32, 0x10001) ∷ (33, 1) ∷ (35, 0xf8) ∷ (36, 2) ∷ (37, 6) ∷ (38, 3) ∷ (40, 0x40000000) ∷ (41, 1) ∷ (42, 1) ∷ (304, 0x36e21650) ∷ (305, 0x10000000) ∷
    (306, 0x10000000) ∷ (308, 0x10000000) ∷ (316, 0x2820a8f0) ∷ (318, 0xffff) ∷ (860, 0x10001) ∷ []
    )

abbrev session-4-rows-32 : List Row
session-4-rows-32 =
    gives (read_system 0 0xc660) 0x3ff
    ∷ []

session-4-chunk-32 : differs session-4-rows-32 session-4-state-32 session-4-state-32 ≡ 0
unfolding differs
session-4-chunk-32 = refl

abbrev session-4-state-33 : List ℕ
session-4-state-33 = words 1760 (
    (0, 1) ∷ (1, 0x80) ∷ (2, 1) ∷ (3, 3) ∷ (16, 0x38154730) ∷ (17, 0x8000000) ∷ (19, 0x39848f45) ∷ (20, 0xffff0000) ∷ (27, 0xb8d008) ∷ (29, 0xffff) ∷
    (32, 0x10001) ∷ (35, 0xf8) ∷ (36, 2) ∷ (37, 7) ∷ (38, 5) ∷ (40, 0x10000) ∷ (41, 1) ∷ (42, 1) ∷ (304, 0x36e21650) ∷ (305, 0x10000000) ∷
    (307, 0x10000000) ∷ (308, 0x10000000) ∷ (316, 0x2820a888) ∷ (318, 0xffff) ∷ (860, 0x10001) ∷ []
    )

abbrev session-4-rows-33 : List Row
session-4-rows-33 =
    refuses (get_attribute 5 0x10001000001fc) 6
    ∷ gives (set_attribute 5 0x1000100010418 0x80) 0
    ∷ gives (get_attribute 6 0x100010000c230) 0xf8
    ∷ gives (get_attribute 1 0x1000100000000) 0x53
    ∷ gives (set_attribute 1 0x100010000027c 0xffffffff) 0
    ∷ gives (get_attribute 1 0x100010000027c) 0
    ∷ refuses (set_attribute 6 0x100010000c665 0x100000007) 22
    ∷ []

session-4-chunk-33 : differs session-4-rows-33 session-4-state-33 (changed session-4-state-33 ((27, 0x80) ∷ [])) ≡ 0
unfolding differs
session-4-chunk-33 = refl

abbrev session-4-rows-34 : List Row
session-4-rows-34 =
    gives (restore (1 ∷ 0x80 ∷ 1 ∷ 1 ∷ 0x81 ∷ 0x80 ∷ 4 ∷ 0x50 ∷ 2 ∷ 0xff ∷ 0xff ∷ 0xff ∷ 0xff ∷ 0xf ∷ 0x80 ∷ 0x80 ∷ 0xfc ∷ 0xff ∷ 0xf ∷ 0xe7 ∷ 0xb4 ∷ 0xcc ∷ 0xb8 ∷ 0xe ∷ 0xb3 ∷ 0xc1 ∷ 0x9a ∷ 0xb0 ∷ 4 ∷ 0x82 ∷ 8 ∷ 0 ∷ 0 ∷ 0xf8 ∷ 0xf1 ∷ 0xe3 ∷ 0xc7 ∷ 0xf ∷ 0 ∷ 0xf8 ∷ 0xf1 ∷ 0xe3 ∷ 0xc7 ∷ 0xf ∷ 0 ∷ 0 ∷ 0xb0 ∷ 0x90 ∷ 0xe0 ∷ 0xc5 ∷ 0xa ∷ 2 ∷ 0 ∷ 0x9e ∷ 0xa4 ∷ 0xa8 ∷ 0x81 ∷ 5 ∷ 0xf0 ∷ 0xe7 ∷ 0x8e ∷ 0xc5 ∷ 9 ∷ 0x82 ∷ 8 ∷ 0xff ∷ 0xff ∷ 0xff ∷ 0xff ∷ 0xf ∷ 0x80 ∷ 8 ∷ 0xf0 ∷ 0xb1 ∷ 0xa2 ∷ 0x83 ∷ 0xc ∷ 0 ∷ 0 ∷ 0xd8 ∷ 0xe1 ∷ 0xe2 ∷ 0xc5 ∷ 0xe ∷ 0xc8 ∷ 0xa1 ∷ 0xc3 ∷ 0x81 ∷ 7 ∷ 0xf8 ∷ 0xf1 ∷ 0xe3 ∷ 0xc7 ∷ 0xf ∷ 0x80 ∷ 0xc1 ∷ 0xc1 ∷ 0x81 ∷ 3 ∷ 0xc8 ∷ 0xe0 ∷ 0x81 ∷ 7 ∷ 2 ∷ 0xaa ∷ 0xd5 ∷ 0xaa ∷ 0xd5 ∷ 0xa ∷ 0x80 ∷ 8 ∷ 0x80 ∷ 8 ∷ 0xea ∷ 0xa8 ∷ 0xa3 ∷ 0xf1 ∷ 6 ∷ 0xff ∷ 0xff ∷ 0xff ∷ 0xff ∷ 0xf ∷ 0xfa ∷ 0xc3 ∷ 0xff ∷ 0x86 ∷ 7 ∷ 0xf8 ∷ 0xf1 ∷ 0xe3 ∷ 0xc7 ∷ 0xf ∷ 0 ∷ 0 ∷ 0 ∷ 0 ∷ 0xc0 ∷ 0xa0 ∷ 0xe0 ∷ 0x87 ∷ 1 ∷ 0 ∷ 0 ∷ 0 ∷ 0 ∷ 0x80 ∷ 1 ∷ 0xfa ∷ 0xbe ∷ 0x76 ∷ 0x9e ∷ 0xb6 ∷ 0x9f ∷ 1 ∷ 0xff ∷ 0xff ∷ 0xff ∷ 7 ∷ 0xa2 ∷ 0x8b ∷ 0xf1 ∷ 1 ∷ 0xff ∷ 0xff ∷ 0xff ∷ 7 ∷ 0x82 ∷ 8 ∷ 0 ∷ 0x80 ∷ 8 ∷ 0x82 ∷ 8 ∷ 0x94 ∷ 0x99 ∷ 0x88 ∷ 1 ∷ 0xee ∷ 0xce ∷ 0x8e ∷ 2 ∷ 0x82 ∷ 8 ∷ 0x80 ∷ 8 ∷ 0xa4 ∷ 0x8e ∷ 0x8b ∷ 7 ∷ 0xb7 ∷ 0xdb ∷ 0x5f ∷ 0xb7 ∷ 0x87 ∷ 0x95 ∷ 3 ∷ 1 ∷ 0xff ∷ 0xff ∷ 0xff ∷ 7 ∷ 0x80 ∷ 8 ∷ 0xff ∷ 0xff ∷ 3 ∷ 0x80 ∷ 8 ∷ 0xaf ∷ 0xa3 ∷ 0xfd ∷ 2 ∷ 0xc7 ∷ 0xf4 ∷ 0x98 ∷ 1 ∷ 0x82 ∷ 8 ∷ 0x9e ∷ 0xd5 ∷ 0xaa ∷ 5 ∷ 0xff ∷ 0xff ∷ 0xff ∷ 7 ∷ 0x82 ∷ 0xc3 ∷ 0xc3 ∷ 4 ∷ 0xff ∷ 0xff ∷ 0xff ∷ 7 ∷ 0xff ∷ 0xff ∷ 0xff ∷ 7 ∷ 0x82 ∷ 8 ∷ 0x82 ∷ 8 ∷ 0xb9 ∷ 0xf1 ∷ 0xb7 ∷ 3 ∷ 0xb7 ∷ 0xbf ∷ 0xee ∷ 1 ∷ 0x80 ∷ 8 ∷ 0x82 ∷ 8 ∷ 0xd5 ∷ 0xaa ∷ 0xd5 ∷ 2 ∷ 0xff ∷ 0xff ∷ 0xff ∷ 7 ∷ 7 ∷ 0x80 ∷ 8 ∷ 0x82 ∷ 8 ∷ 0 ∷ 0xb3 ∷ 0xac ∷ 0xf2 ∷ 5 ∷ 0x82 ∷ 8 ∷ 0xc9 ∷ 0x9c ∷ 0x1b ∷ 0xa1 ∷ 0xf7 ∷ 0xbb ∷ 6 ∷ 0x80 ∷ 8 ∷ 0x82 ∷ 8 ∷ 0x82 ∷ 8 ∷ 0x80 ∷ 0x80 ∷ 0xfc ∷ 7 ∷ 0xb4 ∷ 0xef ∷ 0xd2 ∷ 1 ∷ 0x80 ∷ 0xa6 ∷ 0xff ∷ 6 ∷ 0xff ∷ 0xff ∷ 0xff ∷ 7 ∷ 0xf8 ∷ 0xcf ∷ 0xe2 ∷ 4 ∷ 0xff ∷ 0xff ∷ 0xff ∷ 7 ∷ 0x80 ∷ 8 ∷ 0x80 ∷ 8 ∷ 0xff ∷ 0xff ∷ 0xff ∷ 7 ∷ 0xff ∷ 0xff ∷ 0xff ∷ 7 ∷ 0x80 ∷ 8 ∷ 0xc1 ∷ 0xb5 ∷ 0xe1 ∷ 4 ∷ 0x82 ∷ 8 ∷ 0xff ∷ 0xff ∷ 0xff ∷ 7 ∷ 0xbe ∷ 0x84 ∷ 0xec ∷ 6 ∷ 0 ∷ 0xff ∷ 0xff ∷ 0xff ∷ 7 ∷ 0x80 ∷ 0x80 ∷ 0xfc ∷ 7 ∷ 0xf3 ∷ 0xc2 ∷ 0xfd ∷ 1 ∷ 1 ∷ 0x82 ∷ 8 ∷ 0xff ∷ 0xff ∷ 0xff ∷ 7 ∷ 0xa2 ∷ 0xa3 ∷ 0xdb ∷ 5 ∷ 0x9a ∷ 0xca ∷ 0x25 ∷ 0xa5 ∷ 0xdd ∷ 0xc0 ∷ 3 ∷ 0x80 ∷ 8 ∷ 0x82 ∷ 8 ∷ 0xc5 ∷ 0xa9 ∷ 0xeb ∷ 6 ∷ 0 ∷ 0x89 ∷ 0x9f ∷ 0x80 ∷ 5 ∷ 0x80 ∷ 8 ∷ 0xa0 ∷ 0xb1 ∷ 0xe2 ∷ 4 ∷ 0x82 ∷ 8 ∷ 0xff ∷ 0xff ∷ 0xff ∷ 7 ∷ 0xff ∷ 0xff ∷ 0xff ∷ 7 ∷ 0x80 ∷ 8 ∷ 0xff ∷ 0xff ∷ 0xff ∷ 7 ∷ 0 ∷ 0xe6 ∷ 0xd0 ∷ 0xd2 ∷ 1 ∷ 0x80 ∷ 8 ∷ 0xce ∷ 0x97 ∷ 0x84 ∷ 2 ∷ 0xf9 ∷ 0xbf ∷ 0xfa ∷ 2 ∷ 0xc2 ∷ 0xd3 ∷ 0x97 ∷ 7 ∷ 0xbc ∷ 0xa9 ∷ 0xaf ∷ 4 ∷ 0x82 ∷ 8 ∷ 0xff ∷ 0xff ∷ 0xff ∷ 7 ∷ 0x82 ∷ 8 ∷ 0 ∷ 0x80 ∷ 8 ∷ 0x82 ∷ 8 ∷ 0x82 ∷ 8 ∷ 0xff ∷ 0xff ∷ 0xff ∷ 0xff ∷ 0xf ∷ 0x80 ∷ 0x80 ∷ 0xa0 ∷ 0x9d ∷ 9 ∷ 0 ∷ 0xf8 ∷ 0xf1 ∷ 0xe3 ∷ 0xc7 ∷ 0xf ∷ 0 ∷ 0xb0 ∷ 0x81 ∷ 0xc3 ∷ 0x82 ∷ 8 ∷ 0xf8 ∷ 0xf1 ∷ 0xe3 ∷ 0xc7 ∷ 0xf ∷ 0xf8 ∷ 0xf1 ∷ 0xe3 ∷ 0xc7 ∷ 0xf ∷ 0xc0 ∷ 0xd0 ∷ 0x81 ∷ 0xc1 ∷ 8 ∷ 0xd0 ∷ 0x91 ∷ 0x82 ∷ 0xc3 ∷ 7 ∷ 0xf8 ∷ 1 ∷ 0x80 ∷ 8 ∷ 5 ∷ 3 ∷ 0x82 ∷ 8 ∷ 0x80 ∷ 8 ∷ 0 ∷ 1 ∷ [])) 0
    ∷ []

session-4-chunk-34 : differs session-4-rows-34 session-4-state-28 (changed session-4-state-28 (
    (4, 2) ∷ (16, 0x400) ∷ (17, 0x402) ∷ (18, 0x402) ∷ (19, 0xffffffff) ∷ (20, 0x93a80000) ∷ (22, 0xf8f8f8f8) ∷ (24, 0x8050c0b0) ∷ (25, 0xf8f8f8f8) ∷
    (26, 0xf8f8f8f8) ∷ (27, 0x88206840) ∷ (28, 0x786088d0) ∷ (35, 0xf8) ∷ (37, 5) ∷ (39, 0x402) ∷ (40, 0x400) ∷ (42, 1) ∷ (272, 0xffffffff) ∷
    (273, 0xffff0000) ∷ (274, 0xe7131a67) ∷ (275, 0x4606a0b3) ∷ (276, 0x402) ∷ (279, 0xf8f8f8f8) ∷ (281, 0xf8f8f8f8) ∷ (284, 0xa8b80830) ∷ (285, 1) ∷
    (288, 0x502a121e) ∷ (289, 0x98a3b3f0) ∷ (290, 0x402) ∷ (291, 0xffffffff) ∷ (292, 0x400) ∷ (293, 0xc06898f0) ∷ (296, 0xe8b8b0d8) ∷ (297, 0x7030d0c8) ∷
    (298, 0xf8f8f8f8) ∷ (299, 0x30306080) ∷ (300, 0xe07048) ∷ (301, 1) ∷ (302, 0xffff) ∷ (304, 0x400) ∷ (305, 0x400) ∷ (306, 0x6e28d46a) ∷
    (307, 0xffffffff) ∷ (308, 0x70dfe1fa) ∷ (309, 0xf8f8f8f8) ∷ (314, 0x10f81040) ∷ (768, 0x80) ∷ (769, 0x1d9f7a) ∷ (770, 0x27db1e) ∷ (771, 0xffffff) ∷
    (772, 0x3c45a2) ∷ (773, 0xffffff) ∷ (774, 0x402) ∷ (776, 0x400) ∷ (777, 0x402) ∷ (778, 0x220c94) ∷ (779, 0x43a76e) ∷ (780, 0x402) ∷ (781, 0x400) ∷
    (782, 0xe2c724) ∷ (783, 0x17edb7) ∷ (784, 0x6543b7) ∷ (785, 1) ∷ (786, 0xffffff) ∷ (787, 0x400) ∷ (788, 0xffff) ∷ (789, 0x400) ∷ (790, 0x5f51af) ∷
    (791, 0x263a47) ∷ (792, 0x402) ∷ (793, 0xaaaa9e) ∷ (794, 0xffffff) ∷ (795, 0x90e182) ∷ (796, 0xffffff) ∷ (797, 0xffffff) ∷ (798, 0x402) ∷
    (799, 0x402) ∷ (800, 0x6df8b9) ∷ (801, 0x3b9fb7) ∷ (802, 0x400) ∷ (803, 0x402) ∷ (804, 0x555555) ∷ (805, 0xffffff) ∷ (806, 7) ∷ (807, 0x400) ∷
    (808, 0x402) ∷ (810, 0xbc9633) ∷ (811, 0x402) ∷ (812, 0x6ce49) ∷ (813, 0xcefba1) ∷ (814, 0x400) ∷ (815, 0x402) ∷ (816, 0x402) ∷ (817, 0xff0000) ∷
    (818, 0x34b7b4) ∷ (819, 0xdfd300) ∷ (820, 0xffffff) ∷ (821, 0x98a7f8) ∷ (822, 0xffffff) ∷ (823, 0x400) ∷ (824, 0x400) ∷ (825, 0xffffff) ∷
    (826, 0xffffff) ∷ (827, 0x400) ∷ (828, 0x985ac1) ∷ (829, 0x402) ∷ (830, 0xffffff) ∷ (831, 0xdb023e) ∷ (833, 0xffffff) ∷ (834, 0xff0000) ∷
    (835, 0x3f6173) ∷ (836, 1) ∷ (837, 0x402) ∷ (838, 0xffffff) ∷ (839, 0xb6d1a2) ∷ (840, 0x9651a) ∷ (841, 0x702ea5) ∷ (842, 0x400) ∷ (843, 0x402) ∷
    (844, 0xdad4c5) ∷ (846, 0xa00f89) ∷ (847, 0x400) ∷ (848, 0x9898a0) ∷ (849, 0x402) ∷ (850, 0xffffff) ∷ (851, 0xffffff) ∷ (852, 0x400) ∷
    (853, 0xffffff) ∷ (855, 0x34a866) ∷ (856, 0x400) ∷ (857, 0x410bce) ∷ (858, 0x5e9ff9) ∷ (859, 0xe5e9c2) ∷ (860, 0x8bd4bc) ∷ (861, 0x402) ∷
    (862, 0xffffff) ∷ (863, 0x402) ∷ []
    )) ≡ 0
unfolding differs
session-4-chunk-34 = refl

abbrev session-4-state-35 : List ℕ
session-4-state-35 = words 1760 (
    (0, 1) ∷ (1, 0x60) ∷ (2, 2) ∷ (3, 3) ∷ (16, 0x9a069fe4) ∷ (17, 0x8000) ∷ (18, 0x8000) ∷ (19, 0x8000) ∷ (24, 0x8098d078) ∷ (29, 0xffff) ∷ (35, 0xf8) ∷
    (37, 6) ∷ (38, 3) ∷ (40, 0x10000) ∷ (41, 1) ∷ (42, 1) ∷ (48, 0x489d152a) ∷ (49, 0x80008000) ∷ (50, 0x8000) ∷ (51, 0x80000000) ∷ (52, 0x80000000) ∷
    (60, 0x981070f8) ∷ (61, 0xffff) ∷ (64, 0x1010f) ∷ (65, 1) ∷ (67, 0xf8) ∷ (68, 2) ∷ (69, 6) ∷ (70, 3) ∷ (74, 1) ∷ (272, 0x40550c70) ∷
    (273, 0x80008002) ∷ (276, 2) ∷ (277, 0xc0e8f8c8) ∷ (280, 0xa0b048a8) ∷ (284, 0x90784058) ∷ (288, 0x7b81beb) ∷ (289, 0x88000000) ∷ (291, 0x88000000) ∷
    (292, 0x80000000) ∷ (299, 0xa0f87808) ∷ (783, 0x1010f) ∷ []
    )

abbrev session-4-rows-35 : List Row
session-4-rows-35 =
    gives (read_system 1 0xc642) 0x3ff
    ∷ []

session-4-chunk-35 : differs session-4-rows-35 session-4-state-35 session-4-state-35 ≡ 0
unfolding differs
session-4-chunk-35 = refl

abbrev session-4-state-36 : List ℕ
session-4-state-36 = words 1760 (
    (0, 1) ∷ (1, 0x60) ∷ (2, 2) ∷ (3, 3) ∷ (16, 0x9a069fe4) ∷ (17, 0x8000) ∷ (18, 0x8000) ∷ (19, 0x8000) ∷ (24, 0x8098d078) ∷ (29, 0xffff) ∷ (35, 0xf8) ∷
    (37, 6) ∷ (38, 3) ∷ (40, 0x10000) ∷ (41, 1) ∷ (42, 1) ∷ (48, 0x489d152a) ∷ (49, 0x80008000) ∷ (50, 0x8000) ∷ (51, 0x80000000) ∷ (52, 0x80000000) ∷
    (60, 0x981070f8) ∷ (61, 0xffff) ∷ (64, 0x1010f) ∷ (65, 1) ∷ (67, 0xf8) ∷ (68, 2) ∷ (69, 6) ∷ (70, 3) ∷ (74, 1) ∷ (272, 0x40550c70) ∷
    (273, 0x80008002) ∷ (276, 2) ∷ (277, 0xc0e8f8c8) ∷ (280, 0xa0b048a8) ∷ (284, 0x90784058) ∷ (288, 0x7b81beb) ∷ (289, 0x88000000) ∷ (291, 0x88000000) ∷
    (292, 0x88000000) ∷ (299, 0xa0f87808) ∷ (783, 0x1010f) ∷ []
    )

abbrev session-4-rows-36 : List Row
session-4-rows-36 =
    gives (write_system 1 0xc65f 0xc9c7dd0946fa43) 0
    ∷ []

session-4-chunk-36 : differs session-4-rows-36 session-4-state-36 session-4-state-36 ≡ 0
unfolding differs
session-4-chunk-36 = refl

abbrev session-4-state-37 : List ℕ
session-4-state-37 = words 1760 (
    (0, 1) ∷ (1, 0x60) ∷ (2, 2) ∷ (3, 3) ∷ (16, 0x9a069fe4) ∷ (17, 0x8000) ∷ (18, 0x8000) ∷ (19, 0x8000) ∷ (24, 0x8098d078) ∷ (29, 0xffff) ∷ (35, 0xf8) ∷
    (37, 6) ∷ (38, 3) ∷ (40, 0x10000) ∷ (41, 1) ∷ (42, 1) ∷ (48, 0x489d152a) ∷ (49, 0x80008000) ∷ (51, 0x80000000) ∷ (52, 0x80000000) ∷
    (60, 0x981070f8) ∷ (61, 0xffff) ∷ (64, 0x1010f) ∷ (67, 0xf8) ∷ (68, 2) ∷ (69, 7) ∷ (70, 3) ∷ (73, 1) ∷ (74, 1) ∷ (272, 0x40550c70) ∷
    (273, 0x80008002) ∷ (276, 3) ∷ (277, 0xc0e8f8c8) ∷ (280, 0xa0b048a8) ∷ (284, 0x90784058) ∷ (288, 0x7b81beb) ∷ (289, 0x88000000) ∷ (291, 0x80000000) ∷
    (292, 0x88000000) ∷ (299, 0x9890f8) ∷ (783, 0x1010f) ∷ (827, 0x1010f) ∷ (831, 0x1010f) ∷ []
    )

abbrev session-4-rows-37 : List Row
session-4-rows-37 =
    saves 231 ((1 ∷ 0x60 ∷ 2 ∷ 0 ∷ 0x8f ∷ 0x82 ∷ 4 ∷ 0x53 ∷ 0 ∷ 0xf0 ∷ 0x98 ∷ 0xd4 ∷ 0x82 ∷ 4 ∷ 0x82 ∷ 0x80 ∷ 0x82 ∷ 0x80 ∷ 8 ∷ 0 ∷ 0 ∷ 3 ∷ 0xc8 ∷ 0xf1 ∷ 0xa3 ∷ 0x87 ∷ 0xc ∷ 0 ∷ 0 ∷ 0xa8 ∷ 0x91 ∷ 0xc1 ∷ 0x85 ∷ 0xa ∷ 0 ∷ 0 ∷ 0 ∷ 0xd8 ∷ 0x80 ∷ 0xe1 ∷ 0x83 ∷ 9 ∷ 0 ∷ 0 ∷ 0xeb ∷ 0xb7 ∷ 0xe0 ∷ 0x3d ∷ 0x80 ∷ 0x80 ∷ 0x80 ∷ 0xc0 ∷ 8 ∷ 0 ∷ 0x80 ∷ 0x80 ∷ 0x80 ∷ 0x80 ∷ 8 ∷ 0x80 ∷ 0x80 ∷ 0x80 ∷ 0xc0 ∷ 8 ∷ []) ++ replicate 6 0 ++ (0xf8 ∷ 0xa1 ∷ 0xe2 ∷ 4 ∷ []) ++ replicate 18 0 ++ (0x8f ∷ 0x82 ∷ 4 ∷ []) ++ replicate 43 0 ++ (0x8f ∷ 0x82 ∷ 4 ∷ 0 ∷ 0 ∷ 0 ∷ 0x8f ∷ 0x82 ∷ 4 ∷ 0 ∷ 0xe4 ∷ 0xbf ∷ 0x9a ∷ 0xd0 ∷ 9 ∷ 0x80 ∷ 0x80 ∷ 2 ∷ 0x80 ∷ 0x80 ∷ 2 ∷ 0x80 ∷ 0x80 ∷ 2 ∷ 0 ∷ 0 ∷ 0 ∷ 0 ∷ 0xf8 ∷ 0xa0 ∷ 0xe3 ∷ 0x84 ∷ 8 ∷ 0 ∷ 0 ∷ 0 ∷ 0 ∷ 0xf8 ∷ 1 ∷ 0x80 ∷ 8 ∷ 6 ∷ 3 ∷ 0 ∷ 0x80 ∷ 0x80 ∷ 4 ∷ 1 ∷ 1 ∷ 0 ∷ 0xaa ∷ 0xaa ∷ 0xf4 ∷ 0xc4 ∷ 4 ∷ 0x80 ∷ 0x80 ∷ 0x82 ∷ 0x80 ∷ 8 ∷ 0 ∷ 0x80 ∷ 0x80 ∷ 0x80 ∷ 0x80 ∷ 8 ∷ 0x80 ∷ 0x80 ∷ 0x80 ∷ 0x80 ∷ 8 ∷ []) ++ replicate 7 0 ++ (0xf8 ∷ 0xe1 ∷ 0xc1 ∷ 0xc0 ∷ 9 ∷ 0xf8 ∷ 1 ∷ 0x82 ∷ 8 ∷ 7 ∷ 3 ∷ 0 ∷ 0 ∷ 1 ∷ 1 ∷ []))
    ∷ []

session-4-chunk-37 : differs session-4-rows-37 session-4-state-37 session-4-state-37 ≡ 0
unfolding differs
session-4-chunk-37 = refl

abbrev session-4-state-38 : List ℕ
session-4-state-38 = words 1760 ((1, 0x60) ∷ (2, 1) ∷ (29, 0xffff) ∷ (37, 2) ∷ (38, 3) ∷ [])

abbrev session-4-rows-38 : List Row
session-4-rows-38 =
    gives (add_vcpu 0x1010f) 0
    ∷ gives (set_attribute 4 0 0x1389a875de432b2b) 0
    ∷ refuses (restore ((1 ∷ 2 ∷ 0 ∷ 0x8f ∷ 0x82 ∷ 4 ∷ 0x53 ∷ 0 ∷ 0xf0 ∷ 0x98 ∷ 0xd4 ∷ 0x82 ∷ 4 ∷ 0x82 ∷ 0x80 ∷ 0x82 ∷ 0x80 ∷ 8 ∷ 0 ∷ 0 ∷ 3 ∷ 0xc8 ∷ 0xf1 ∷ 0xa3 ∷ 0x87 ∷ 0xc ∷ 0 ∷ 0 ∷ 0xa8 ∷ 0x91 ∷ 0xc1 ∷ 0x85 ∷ 0xa ∷ 0 ∷ 0 ∷ 0 ∷ 0xd8 ∷ 0x80 ∷ 0xe1 ∷ 0x83 ∷ 9 ∷ 0 ∷ 0 ∷ 0xeb ∷ 0xb7 ∷ 0xe0 ∷ 0x3d ∷ 0x80 ∷ 0x80 ∷ 0x80 ∷ 0xc0 ∷ 8 ∷ 0 ∷ 0x80 ∷ 0x80 ∷ 0x80 ∷ 0x80 ∷ 8 ∷ 0x80 ∷ 0x80 ∷ 0x80 ∷ 0xc0 ∷ 8 ∷ []) ++ replicate 6 0 ++ (0xf8 ∷ 0xa1 ∷ 0xe2 ∷ 4 ∷ []) ++ replicate 18 0 ++ (0x8f ∷ 0x82 ∷ 4 ∷ []) ++ replicate 43 0 ++ (0x8f ∷ 0x82 ∷ 4 ∷ 0 ∷ 0 ∷ 0 ∷ 0x8f ∷ 0x82 ∷ 4 ∷ 0 ∷ 0xe4 ∷ 0xbf ∷ 0x9a ∷ 0xd0 ∷ 9 ∷ 0x80 ∷ 0x80 ∷ 2 ∷ 0x80 ∷ 0x80 ∷ 2 ∷ 0x80 ∷ 0x80 ∷ 2 ∷ 0 ∷ 0 ∷ 0 ∷ 0 ∷ 0xf8 ∷ 0xa0 ∷ 0xe3 ∷ 0x84 ∷ 8 ∷ 0 ∷ 0 ∷ 0 ∷ 0 ∷ 0xf8 ∷ 1 ∷ 0x80 ∷ 8 ∷ 6 ∷ 3 ∷ 0 ∷ 0x80 ∷ 0x80 ∷ 4 ∷ 1 ∷ 1 ∷ 0 ∷ 0xaa ∷ 0xaa ∷ 0xf4 ∷ 0xc4 ∷ 4 ∷ 0x80 ∷ 0x80 ∷ 0x82 ∷ 0x80 ∷ 8 ∷ 0 ∷ 0x80 ∷ 0x80 ∷ 0x80 ∷ 0x80 ∷ 8 ∷ 0x80 ∷ 0x80 ∷ 0x80 ∷ 0x80 ∷ 8 ∷ []) ++ replicate 7 0 ++ (0xf8 ∷ 0xe1 ∷ 0xc1 ∷ 0xc0 ∷ 9 ∷ 0xf8 ∷ 1 ∷ 0x82 ∷ 8 ∷ 7 ∷ 3 ∷ 0 ∷ 1 ∷ 1 ∷ []))) 22
    ∷ []

session-4-chunk-38 : differs session-4-rows-38 session-4-state-38 (changed session-4-state-38 ((0, 1) ∷ (2, 2) ∷ (61, 0xffff) ∷ (64, 0x1010f) ∷ (69, 2) ∷ (70, 3) ∷ [])) ≡ 0
unfolding differs
session-4-chunk-38 = refl

abbrev session-4-state-39 : List ℕ
session-4-state-39 = words 1760 (
    (0, 1) ∷ (1, 0x60) ∷ (2, 2) ∷ (3, 3) ∷ (16, 0x9a069fe4) ∷ (17, 0x8000) ∷ (18, 0x8001) ∷ (19, 0x8000) ∷ (24, 0x8098d078) ∷ (29, 0xffff) ∷ (33, 1) ∷
    (35, 0xf8) ∷ (37, 6) ∷ (38, 3) ∷ (41, 1) ∷ (42, 1) ∷ (48, 0x489d152a) ∷ (49, 0x88008000) ∷ (50, 0x8000000) ∷ (51, 0x80008000) ∷ (52, 0x88000000) ∷
    (60, 0x981070f8) ∷ (61, 0xffff) ∷ (64, 0x1010f) ∷ (65, 1) ∷ (67, 0xf8) ∷ (68, 2) ∷ (69, 2) ∷ (70, 3) ∷ (71, 1) ∷ (73, 1) ∷ (74, 1) ∷
    (272, 0x40550c70) ∷ (273, 0x80008002) ∷ (276, 3) ∷ (277, 0xc0e8a0c8) ∷ (280, 0xa0b048a8) ∷ (284, 0x90784058) ∷ (288, 0x7b81beb) ∷ (289, 0xc8000000) ∷
    (290, 0x80000000) ∷ (291, 0x88000000) ∷ (292, 0xc8000000) ∷ (299, 0x9890f8) ∷ (302, 0xffff) ∷ (769, 0x1010f) ∷ (783, 0x1010f) ∷ (827, 0x1010f) ∷
    (831, 0x1010f) ∷ []
    )

abbrev session-4-rows-39 : List Row
session-4-rows-39 =
    gives (write_distributor 0 0x388 4 0x80000000) 0
    ∷ gives (write_distributor 0 0x62f8 4 0) 0
    ∷ gives (write_system 0 0xc663 6) 0
    ∷ gives (query_signal 0) 2
    ∷ gives (read_system 0 0xc662) 0x3ff
    ∷ []

session-4-chunk-39 : differs session-4-rows-39 session-4-state-39 (changed session-4-state-39 ((38, 6) ∷ (291, 0x8000000) ∷ (831, 0) ∷ [])) ≡ 0
unfolding differs
session-4-chunk-39 = refl

abbrev session-4-state-40 : List ℕ
session-4-state-40 = words 1760 (
    (0, 1) ∷ (1, 0x60) ∷ (2, 2) ∷ (3, 3) ∷ (16, 0x9a069fe4) ∷ (17, 0x8000) ∷ (18, 0x8001) ∷ (19, 0x8000) ∷ (24, 0x8098d078) ∷ (29, 0xffff) ∷ (33, 1) ∷
    (35, 0xf8) ∷ (37, 6) ∷ (38, 6) ∷ (39, 1) ∷ (41, 1) ∷ (42, 1) ∷ (48, 0x489d152a) ∷ (49, 0x88008000) ∷ (50, 0x8000000) ∷ (51, 0x80008000) ∷
    (52, 0x88000000) ∷ (60, 0x981070f8) ∷ (61, 0xffff) ∷ (64, 0x1010f) ∷ (65, 1) ∷ (67, 0xf8) ∷ (68, 2) ∷ (69, 2) ∷ (70, 3) ∷ (71, 1) ∷ (73, 1) ∷
    (74, 1) ∷ (272, 0x40550c70) ∷ (273, 0x80008002) ∷ (275, 2) ∷ (276, 3) ∷ (277, 0xc0e8a0c8) ∷ (280, 0xa0b048a8) ∷ (284, 0x90784058) ∷
    (288, 0x7b81beb) ∷ (289, 0xd8000000) ∷ (291, 0x98000000) ∷ (292, 0xd8000000) ∷ (299, 0x9890f8) ∷ (302, 0xffff) ∷ (783, 0x1010f) ∷ (827, 0x1010f) ∷ []
    )

abbrev session-4-rows-40 : List Row
session-4-rows-40 =
    gives (write_system 0 0xc661 0x5f) 0
    ∷ gives (write_system 0 0xc659 0x5f) 0
    ∷ []

session-4-chunk-40 : differs session-4-rows-40 session-4-state-40 session-4-state-40 ≡ 0
unfolding differs
session-4-chunk-40 = refl

abbrev session-4-state-41 : List ℕ
session-4-state-41 = words 1760 (
    (0, 1) ∷ (1, 0x80) ∷ (2, 2) ∷ (3, 3) ∷ (16, 0xe06b2964) ∷ (17, 0x10001) ∷ (18, 8) ∷ (19, 0x10000) ∷ (20, 0x10000) ∷ (21, 0x60805010) ∷
    (25, 0xa0409870) ∷ (29, 0xffff) ∷ (32, 0x7f0003) ∷ (33, 1) ∷ (35, 0xa8) ∷ (36, 2) ∷ (37, 2) ∷ (38, 3) ∷ (39, 0x10000) ∷ (40, 0x4000) ∷ (41, 1) ∷
    (42, 1) ∷ (61, 0xffff) ∷ (64, 0x100) ∷ (65, 1) ∷ (67, 0xf8) ∷ (68, 2) ∷ (69, 2) ∷ (70, 3) ∷ (72, 0x40000) ∷ (73, 1) ∷ (74, 1) ∷ (304, 0xa7bfcf43) ∷
    (305, 0x80000000) ∷ (307, 0x80000000) ∷ (308, 0x80000000) ∷ (316, 0x90e85808) ∷ (863, 0x100) ∷ []
    )

abbrev session-4-rows-41 : List Row
session-4-rows-41 =
    gives (change_line 0xffffffff 0x3f true) 0
    ∷ []

session-4-chunk-41 : differs session-4-rows-41 session-4-state-41 (changed session-4-state-41 ((276, 0x80000000) ∷ [])) ≡ 0
unfolding differs
session-4-chunk-41 = refl

abbrev session-4-state-42 : List ℕ
session-4-state-42 = words 1760 (
    (0, 1) ∷ (1, 0x80) ∷ (2, 2) ∷ (3, 3) ∷ (16, 0xe06b2964) ∷ (17, 0xffff0001) ∷ (18, 8) ∷ (19, 0x10000) ∷ (20, 0x10000) ∷ (21, 0x60805010) ∷
    (25, 0xa0409870) ∷ (29, 0xffff) ∷ (32, 0x7f0003) ∷ (35, 0xa8) ∷ (36, 2) ∷ (37, 2) ∷ (38, 3) ∷ (39, 0x10000) ∷ (41, 1) ∷ (42, 1) ∷ (48, 0xa6575741) ∷
    (49, 0x10001) ∷ (50, 1) ∷ (51, 0x10001) ∷ (52, 0x10000) ∷ (57, 0x10) ∷ (61, 0xffff) ∷ (64, 0x100) ∷ (67, 0xf8) ∷ (68, 2) ∷ (69, 2) ∷ (70, 3) ∷
    (73, 1) ∷ (74, 1) ∷ (276, 0x80000000) ∷ (304, 0xa7bfcf43) ∷ (305, 0x80000000) ∷ (306, 0x80000000) ∷ (307, 0x80000000) ∷ (308, 0x80000000) ∷
    (316, 0x90e85808) ∷ (863, 0x100) ∷ []
    )

abbrev session-4-rows-42 : List Row
session-4-rows-42 =
    gives (get_attribute 7 0x10000003e0) 0
    ∷ []

session-4-chunk-42 : differs session-4-rows-42 session-4-state-42 session-4-state-42 ≡ 0
unfolding differs
session-4-chunk-42 = refl

abbrev session-4-rows-43 : List Row
session-4-rows-43 =
    gives (set_attribute 1 0x7f000300000c1c 2) 0
    ∷ []

session-4-chunk-43 : differs session-4-rows-43 session-4-state-42 (changed session-4-state-42 ((318, 1) ∷ [])) ≡ 0
unfolding differs
session-4-chunk-43 = refl

abbrev session-4-state-44 : List ℕ
session-4-state-44 = words 1760 (
    (0, 1) ∷ (1, 0x80) ∷ (2, 2) ∷ (3, 3) ∷ (16, 0xe06b2964) ∷ (17, 0xffff8001) ∷ (18, 8) ∷ (19, 0x18000) ∷ (20, 0x10000) ∷ (21, 0x60805010) ∷
    (25, 0xa0409870) ∷ (29, 0xffff) ∷ (32, 0x7f0003) ∷ (33, 1) ∷ (35, 0xa8) ∷ (36, 2) ∷ (37, 2) ∷ (38, 6) ∷ (39, 1) ∷ (41, 1) ∷ (42, 1) ∷
    (48, 0xa6575741) ∷ (49, 0x10001) ∷ (50, 0x8001) ∷ (51, 0x10001) ∷ (52, 0x10000) ∷ (57, 0x10) ∷ (61, 0xffff) ∷ (64, 0x100) ∷ (65, 1) ∷ (67, 0xf8) ∷
    (68, 2) ∷ (69, 2) ∷ (70, 3) ∷ (73, 1) ∷ (74, 1) ∷ (276, 0x80000000) ∷ (304, 0x9a8035e0) ∷ (305, 0x98000000) ∷ (306, 0x98000000) ∷ (307, 0x80000000) ∷
    (308, 0x88000000) ∷ (316, 0xf8d86050) ∷ (318, 0xffff) ∷ (768, 0x7f0003) ∷ (859, 0x7f0003) ∷ (860, 0x7f0003) ∷ (863, 0x100) ∷ []
    )

abbrev session-4-rows-44 : List Row
session-4-rows-44 =
    gives (write_system 0 0xc641 0xf) 0
    ∷ gives (read_system 0 0xc65b) 0xff
    ∷ gives (write_frame 1 1 0x10 4 2) 0
    ∷ []

session-4-chunk-44 : differs session-4-rows-44 session-4-state-44 (changed session-4-state-44 ((39, 0) ∷ [])) ≡ 0
unfolding differs
session-4-chunk-44 = refl

abbrev session-4-state-45 : List ℕ
session-4-state-45 = words 1760 (
    (0, 1) ∷ (1, 0x80) ∷ (2, 2) ∷ (3, 3) ∷ (16, 0xe06b2964) ∷ (17, 0xffff8001) ∷ (18, 8) ∷ (19, 0x18000) ∷ (20, 0x10000) ∷ (21, 0x60805010) ∷
    (25, 0xa0409870) ∷ (29, 0xffff) ∷ (32, 0x7f0003) ∷ (33, 1) ∷ (35, 0xa8) ∷ (36, 2) ∷ (37, 2) ∷ (38, 6) ∷ (41, 1) ∷ (42, 1) ∷ (48, 0xa6575741) ∷
    (49, 0x18001) ∷ (50, 0x8009) ∷ (51, 0x18001) ∷ (52, 0x80010000) ∷ (57, 0x10) ∷ (61, 0xffff) ∷ (64, 0x100) ∷ (65, 1) ∷ (67, 0xf8) ∷ (68, 2) ∷
    (69, 6) ∷ (70, 3) ∷ (73, 1) ∷ (74, 1) ∷ (276, 0x80000000) ∷ (304, 0x9a8035e0) ∷ (305, 0x9e3e1d28) ∷ (308, 0x98000000) ∷ (316, 0x38d86050) ∷
    (768, 0x7f0003) ∷ (859, 0x7f0003) ∷ (860, 0x100) ∷ (863, 0x100) ∷ []
    )

abbrev session-4-rows-45 : List Row
session-4-rows-45 =
    gives (read_system 1 0xc660) 0x7f
    ∷ []

session-4-chunk-45 : differs session-4-rows-45 session-4-state-45 (changed session-4-state-45 ((72, 0x80) ∷ (307, 0x80000000) ∷ [])) ≡ 0
unfolding differs
session-4-chunk-45 = refl

abbrev session-4-state-46 : List ℕ
session-4-state-46 = words 1760 (
    (0, 1) ∷ (1, 0x80) ∷ (2, 2) ∷ (3, 3) ∷ (16, 0xe06b2964) ∷ (17, 0xffff8001) ∷ (18, 8) ∷ (19, 0x18000) ∷ (20, 0x10000) ∷ (21, 0x60805010) ∷
    (25, 0xa0409870) ∷ (29, 0xffff) ∷ (32, 0x7f0003) ∷ (33, 1) ∷ (35, 0xa8) ∷ (36, 2) ∷ (37, 2) ∷ (38, 6) ∷ (41, 1) ∷ (42, 1) ∷ (48, 0xa6575741) ∷
    (49, 0x18001) ∷ (50, 0x8009) ∷ (51, 0x18001) ∷ (52, 0x80010000) ∷ (57, 0x10) ∷ (61, 0xffff) ∷ (64, 0x100) ∷ (65, 1) ∷ (67, 0xf8) ∷ (68, 2) ∷
    (69, 6) ∷ (70, 3) ∷ (72, 0x84) ∷ (73, 1) ∷ (74, 1) ∷ (276, 0x80000000) ∷ (304, 0x9a8035e0) ∷ (305, 0x9e3e1d28) ∷ (307, 0x80000000) ∷
    (308, 0x98000000) ∷ (316, 0x38d86050) ∷ (768, 0x7f0003) ∷ (859, 0x7f0003) ∷ (860, 0x100) ∷ (863, 0x100) ∷ []
    )

abbrev session-4-rows-46 : List Row
session-4-rows-46 =
    gives (write_system 1 0xc661 0xaa3647632600007e) 0
    ∷ gives (write_system 1 0xc659 0xaa3647632600007e) 0
    ∷ gives (write_distributor 1 0x20c 4 0x80000000) 0
    ∷ gives (write_distributor 0 0x63f8 4 0x7f0003) 0
    ∷ gives (write_distributor 1 0xc1c 4 0xffffffff) 0
    ∷ []

session-4-chunk-46 : differs session-4-rows-46 session-4-state-46 (changed session-4-state-46 ((72, 0x80) ∷ (306, 0x80000000) ∷ (318, 0xffff) ∷ (863, 0x7f0003) ∷ [])) ≡ 0
unfolding differs
session-4-chunk-46 = refl
