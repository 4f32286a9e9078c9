-- A random session of calls: from each state the calls give these answers and leave the next state.
-- Made by: tests/sessions.py ORACLE 2 900 --chunk 8 --counts 1024:1024:0 --calls 1-3,8,152-156,167-169,206-210,236-238,304-308,449,523-525,552,630-634,641-645
-- 40 calls in 17 theorems. ORACLE's model of the device, in Python, gave the answers and the states.
use mathlib.Core.Path.{◌≡◌, refl}
use Prim.Native.Nat.{ℕ}
use mathlib.Core.Bool.{true, false}
use mathlib.Core.List.{List, [], ◌∷◌}
use Rattle.model.specs.Calls.{make, add_vcpu, set_running, change_line, query_signal, read_distributor, write_distributor, read_frame, write_frame, read_system, write_system, get_attribute, set_attribute}
use Rattle.worked.proofs.Rows.{Row, gives, refuses, words, changed, differs}

abbrev session-2-state-1 : List ℕ
session-2-state-1 = words 1760 []

abbrev session-2-rows-1 : List Row
session-2-rows-1 =
    gives make 0
    ∷ gives (add_vcpu 0x200) 0
    ∷ refuses (add_vcpu 0x200) 17
    ∷ []

session-2-chunk-1 : differs session-2-rows-1 session-2-state-1 (changed session-2-state-1 ((2, 1) ∷ (29, 0xffff) ∷ (32, 0x200) ∷ (37, 2) ∷ (38, 3) ∷ [])) ≡ 0
unfolding differs
session-2-chunk-1 = refl

abbrev session-2-state-2 : List ℕ
session-2-state-2 = words 1760 (
    (2, 4) ∷ (29, 0xffff) ∷ (32, 0x200) ∷ (37, 2) ∷ (38, 3) ∷ (61, 0xffff) ∷ (69, 2) ∷ (70, 3) ∷ (93, 0xffff) ∷ (96, 0x10000) ∷ (101, 2) ∷ (102, 3) ∷
    (125, 0xffff) ∷ (128, 2) ∷ (133, 2) ∷ (134, 3) ∷ []
    )

abbrev session-2-rows-2 : List Row
session-2-rows-2 =
    gives (set_attribute 4 0 0) 0
    ∷ []

session-2-chunk-2 : differs session-2-rows-2 session-2-state-2 (changed session-2-state-2 ((0, 1) ∷ (1, 0x100) ∷ [])) ≡ 0
unfolding differs
session-2-chunk-2 = refl

abbrev session-2-state-3 : List ℕ
session-2-state-3 = words 1760 (
    (0, 1) ∷ (1, 0x100) ∷ (2, 4) ∷ (3, 3) ∷ (16, 0x1b26f06a) ∷ (17, 1) ∷ (21, 0x900038a8) ∷ (29, 0xffff) ∷ (32, 0x200) ∷ (33, 1) ∷ (35, 0xb0) ∷ (36, 2) ∷
    (37, 2) ∷ (38, 3) ∷ (41, 1) ∷ (42, 1) ∷ (56, 0xf8f0f888) ∷ (61, 0xffff) ∷ (65, 1) ∷ (67, 0xf8) ∷ (68, 2) ∷ (69, 2) ∷ (70, 7) ∷ (73, 1) ∷ (74, 1) ∷
    (80, 0xe075d384) ∷ (81, 0x8000) ∷ (84, 0xfff0000) ∷ (88, 0xa00870f8) ∷ (93, 0xffff) ∷ (96, 0x10000) ∷ (97, 1) ∷ (99, 0xa8) ∷ (100, 2) ∷ (101, 2) ∷
    (102, 3) ∷ (105, 1) ∷ (106, 1) ∷ (112, 0xdd5af18f) ∷ (115, 0x413d6f07) ∷ (116, 0x37590000) ∷ (125, 0xffff) ∷ (128, 2) ∷ (129, 1) ∷ (131, 0xf8) ∷
    (133, 2) ∷ (134, 6) ∷ (137, 1) ∷ (138, 1) ∷ (272, 0x92831d64) ∷ (273, 1) ∷ (276, 0xa56b859f) ∷ (277, 0x10e048f0) ∷ (368, 0x94ae86d5) ∷
    (369, 0x80000000) ∷ (371, 0x80000000) ∷ (372, 0x80000000) ∷ (380, 0x7818a840) ∷ (382, 0xffff) ∷ []
    )

abbrev session-2-rows-3 : List Row
session-2-rows-3 =
    gives (write_system 3 0xc641 0x3ff) 0
    ∷ gives (read_system 3 0xc65b) 0xff
    ∷ []

session-2-chunk-3 : differs session-2-rows-3 session-2-state-3 session-2-state-3 ≡ 0
unfolding differs
session-2-chunk-3 = refl

abbrev session-2-rows-4 : List Row
session-2-rows-4 =
    gives (write_system 3 0xc65d 0x10000ffff) 0
    ∷ gives (write_frame 2 2 0x10380 4 0x8000) 0
    ∷ gives (write_system 3 0xc661 0xf) 0
    ∷ []

session-2-chunk-4 : differs session-2-rows-4 session-2-state-3 (changed session-2-state-3 ((82, 1) ∷ [])) ≡ 0
unfolding differs
session-2-chunk-4 = refl

abbrev session-2-state-5 : List ℕ
session-2-state-5 = words 1760 (
    (0, 1) ∷ (1, 0x100) ∷ (2, 4) ∷ (3, 3) ∷ (16, 0xbafd102b) ∷ (17, 1) ∷ (21, 0xc06080a0) ∷ (29, 0xffff) ∷ (32, 0x200) ∷ (35, 0xb0) ∷ (36, 2) ∷ (37, 2) ∷
    (38, 3) ∷ (41, 1) ∷ (42, 1) ∷ (56, 0xf8f0f888) ∷ (61, 0xffff) ∷ (67, 0xf8) ∷ (68, 2) ∷ (69, 2) ∷ (70, 7) ∷ (73, 1) ∷ (74, 1) ∷ (80, 0xe075d384) ∷
    (81, 0x8000) ∷ (82, 1) ∷ (84, 0xfff0000) ∷ (88, 0xa00870f8) ∷ (93, 0xffff) ∷ (96, 0x10000) ∷ (99, 0xa8) ∷ (100, 2) ∷ (101, 2) ∷ (102, 3) ∷ (105, 1) ∷
    (106, 1) ∷ (112, 0xdd5af18f) ∷ (115, 0x413d6f07) ∷ (116, 0x37590000) ∷ (125, 0xffff) ∷ (128, 2) ∷ (131, 0xf8) ∷ (133, 2) ∷ (134, 6) ∷ (137, 1) ∷
    (138, 1) ∷ (272, 0x92831d64) ∷ (273, 1) ∷ (276, 0xa56b859e) ∷ (277, 0x10e048f0) ∷ (368, 0x94ae86d5) ∷ (369, 0x80000000) ∷ (371, 0x80000000) ∷
    (372, 0x80000000) ∷ (380, 0x9818a840) ∷ (382, 0xffff) ∷ []
    )

abbrev session-2-rows-5 : List Row
session-2-rows-5 =
    gives (get_attribute 7 0x3e0) 0
    ∷ gives (get_attribute 6 0x20000c663) 6
    ∷ gives (set_attribute 1 0xc08 1) 0
    ∷ []

session-2-chunk-5 : differs session-2-rows-5 session-2-state-5 session-2-state-5 ≡ 0
unfolding differs
session-2-chunk-5 = refl

abbrev session-2-state-6 : List ℕ
session-2-state-6 = words 1760 (
    (0, 1) ∷ (1, 0x100) ∷ (2, 4) ∷ (3, 3) ∷ (16, 0xbafd102b) ∷ (17, 1) ∷ (21, 0xc06080a0) ∷ (29, 0xffff) ∷ (32, 0x200) ∷ (35, 0xb0) ∷ (36, 2) ∷ (37, 2) ∷
    (38, 3) ∷ (41, 1) ∷ (42, 1) ∷ (56, 0xf8f0f888) ∷ (61, 0xffff) ∷ (65, 1) ∷ (67, 0xf8) ∷ (68, 2) ∷ (69, 2) ∷ (70, 7) ∷ (74, 1) ∷ (80, 0xe075d384) ∷
    (81, 0x8000) ∷ (82, 1) ∷ (84, 0xfff0000) ∷ (88, 0xa00870f8) ∷ (93, 0xffff) ∷ (96, 0x10000) ∷ (97, 1) ∷ (99, 0xa8) ∷ (100, 2) ∷ (101, 2) ∷ (102, 3) ∷
    (106, 1) ∷ (112, 0xdd5af18f) ∷ (113, 0x8000) ∷ (115, 0x413d6f07) ∷ (116, 0x37590000) ∷ (125, 0xffff) ∷ (128, 2) ∷ (129, 1) ∷ (131, 0xf8) ∷ (133, 2) ∷
    (134, 6) ∷ (137, 1) ∷ (138, 1) ∷ (272, 0x92831d64) ∷ (273, 1) ∷ (276, 0xa56b859f) ∷ (277, 0x10e048f0) ∷ (368, 0x94ae86d5) ∷ (369, 0x80000000) ∷
    (371, 0x80000000) ∷ (372, 0x80000000) ∷ (380, 0x9818a840) ∷ (382, 0xffff) ∷ (768, 2) ∷ []
    )

abbrev session-2-rows-6 : List Row
session-2-rows-6 =
    gives (write_distributor 2 0xcfc 4 0xaaaaaaaa) 0
    ∷ []

session-2-chunk-6 : differs session-2-rows-6 session-2-state-6 session-2-state-6 ≡ 0
unfolding differs
session-2-chunk-6 = refl

abbrev session-2-rows-7 : List Row
session-2-rows-7 =
    gives (write_system 2 0xc641 0xf0382297bc0003fb) 0
    ∷ gives (write_system 2 0xc659 0xf0382297bc0003fb) 0
    ∷ gives (write_distributor 2 0x107fc 4 0x8000) 0
    ∷ gives (read_distributor 2 0x107fc 4) 0
    ∷ []

session-2-chunk-7 : differs session-2-rows-7 session-2-state-6 session-2-state-6 ≡ 0
unfolding differs
session-2-chunk-7 = refl

abbrev session-2-state-8 : List ℕ
session-2-state-8 = words 1760 (
    (0, 1) ∷ (1, 0x100) ∷ (2, 4) ∷ (3, 3) ∷ (16, 0xbafd102b) ∷ (17, 1) ∷ (21, 0xc06080a0) ∷ (29, 0xffff) ∷ (32, 0x200) ∷ (35, 0xb0) ∷ (36, 2) ∷ (37, 2) ∷
    (38, 3) ∷ (41, 1) ∷ (42, 1) ∷ (56, 0xf8f0f888) ∷ (61, 0xffff) ∷ (65, 1) ∷ (67, 0xf8) ∷ (68, 2) ∷ (69, 2) ∷ (70, 7) ∷ (71, 0x8000) ∷ (73, 1) ∷
    (74, 1) ∷ (80, 0xe075d384) ∷ (81, 0x8001) ∷ (83, 1) ∷ (84, 0xfff0000) ∷ (88, 0xa00870f8) ∷ (93, 0xffff) ∷ (96, 0x10000) ∷ (97, 1) ∷ (99, 0xa8) ∷
    (100, 2) ∷ (101, 2) ∷ (102, 3) ∷ (103, 0x28001) ∷ (105, 1) ∷ (106, 1) ∷ (112, 0xdd5af18f) ∷ (113, 0x8000) ∷ (115, 0x413d6f07) ∷ (116, 0x37590000) ∷
    (125, 0xffff) ∷ (128, 2) ∷ (129, 1) ∷ (131, 0xf8) ∷ (133, 2) ∷ (134, 6) ∷ (137, 1) ∷ (138, 1) ∷ (272, 0x92831d64) ∷ (273, 1) ∷ (275, 1) ∷
    (276, 0xa56b859f) ∷ (277, 0x88a0a078) ∷ (368, 0x94ae86d5) ∷ (369, 0x80000000) ∷ (371, 0x80000000) ∷ (372, 0x80000000) ∷ (380, 0x9818a840) ∷
    (382, 0xffff) ∷ []
    )

abbrev session-2-rows-8 : List Row
session-2-rows-8 =
    gives (write_system 1 0xc641 0x20) 0
    ∷ gives (write_system 2 0xc661 0) 0
    ∷ gives (write_system 2 0xc659 0) 0
    ∷ []

session-2-chunk-8 : differs session-2-rows-8 session-2-state-8 (changed session-2-state-8 ((71, 0) ∷ (83, 0) ∷ [])) ≡ 0
unfolding differs
session-2-chunk-8 = refl

abbrev session-2-state-9 : List ℕ
session-2-state-9 = words 1760 (
    (0, 1) ∷ (1, 0x100) ∷ (2, 4) ∷ (3, 3) ∷ (16, 0xbafd102b) ∷ (17, 1) ∷ (21, 0xc06080a0) ∷ (29, 0xffff) ∷ (32, 0x200) ∷ (35, 0xb0) ∷ (36, 2) ∷ (37, 2) ∷
    (38, 3) ∷ (41, 1) ∷ (42, 1) ∷ (49, 1) ∷ (50, 1) ∷ (56, 0xf8f0f888) ∷ (61, 0xffff) ∷ (65, 1) ∷ (67, 0xf0) ∷ (68, 2) ∷ (69, 2) ∷ (70, 7) ∷ (73, 1) ∷
    (74, 1) ∷ (80, 0xe075d384) ∷ (81, 0x8001) ∷ (84, 0xfff0000) ∷ (88, 0xa00870f8) ∷ (93, 0xffff) ∷ (96, 0x10000) ∷ (97, 1) ∷ (99, 0xa8) ∷ (100, 2) ∷
    (101, 2) ∷ (102, 3) ∷ (103, 0x28001) ∷ (105, 1) ∷ (106, 1) ∷ (112, 0xdd5af18f) ∷ (113, 0x8000) ∷ (115, 0x413def07) ∷ (116, 0x37590000) ∷
    (125, 0xffff) ∷ (128, 2) ∷ (129, 1) ∷ (131, 0xf8) ∷ (133, 2) ∷ (134, 6) ∷ (135, 0x200000) ∷ (136, 0x10001) ∷ (137, 1) ∷ (138, 1) ∷
    (272, 0x92831d64) ∷ (273, 1) ∷ (276, 0xa56b859f) ∷ (277, 0xa088a870) ∷ (368, 0x94ae86d5) ∷ (369, 0x80000000) ∷ (372, 0x80000000) ∷
    (380, 0x9818a840) ∷ (382, 0xffff) ∷ (768, 2) ∷ (991, 2) ∷ []
    )

abbrev session-2-rows-9 : List Row
session-2-rows-9 =
    gives (read_distributor 3 0x7fd8 4) 0
    ∷ gives (write_distributor 3 0x184 4 0x780b239a) 0
    ∷ gives (write_distributor 3 0x17c 4 0x8000000) 0
    ∷ gives (write_system 1 0xc643 0) 0
    ∷ gives (change_line 1 0xff false) 0
    ∷ []

session-2-chunk-9 : differs session-2-rows-9 session-2-state-9 (changed session-2-state-9 ((372, 0) ∷ [])) ≡ 0
unfolding differs
session-2-chunk-9 = refl

abbrev session-2-state-10 : List ℕ
session-2-state-10 = words 1760 (
    (0, 1) ∷ (1, 0x100) ∷ (2, 4) ∷ (3, 3) ∷ (16, 0xbafd102b) ∷ (17, 1) ∷ (21, 0xc06080a0) ∷ (29, 0xffff) ∷ (32, 0x200) ∷ (35, 0xb0) ∷ (37, 2) ∷ (38, 3) ∷
    (41, 1) ∷ (42, 1) ∷ (49, 1) ∷ (50, 0x8001) ∷ (56, 0xf8f0f888) ∷ (61, 0xffff) ∷ (67, 0xf0) ∷ (68, 2) ∷ (69, 2) ∷ (70, 7) ∷ (73, 1) ∷ (74, 1) ∷
    (80, 0xe075d384) ∷ (81, 0x8001) ∷ (82, 1) ∷ (83, 0x757f6e8f) ∷ (84, 0xfff0000) ∷ (88, 0xa00870f8) ∷ (93, 0xffff) ∷ (96, 0x10000) ∷ (99, 0xa8) ∷
    (100, 2) ∷ (101, 2) ∷ (102, 3) ∷ (103, 0x28000) ∷ (105, 1) ∷ (106, 1) ∷ (112, 0xdd5af18f) ∷ (113, 0x8001) ∷ (114, 0xa0a0a0a1) ∷ (115, 0x413d6f06) ∷
    (116, 0x37590000) ∷ (125, 0xffff) ∷ (128, 2) ∷ (129, 1) ∷ (131, 0xf8) ∷ (133, 2) ∷ (134, 3) ∷ (137, 1) ∷ (138, 1) ∷ (272, 0x92831d64) ∷ (273, 1) ∷
    (276, 0xa56b859f) ∷ (277, 0xa088a860) ∷ (285, 0xa454) ∷ (368, 0x94ae86d5) ∷ (369, 0x80000000) ∷ (371, 0x80000000) ∷ (380, 0x9818a840) ∷
    (382, 0xffff) ∷ (768, 2) ∷ (991, 2) ∷ []
    )

abbrev session-2-rows-10 : List Row
session-2-rows-10 =
    gives (read_system 3 0xc660) 0
    ∷ []

session-2-chunk-10 : differs session-2-rows-10 session-2-state-10 (changed session-2-state-10 ((114, 0xa0a0a0a0) ∷ (115, 0x413d6f07) ∷ (136, 1) ∷ [])) ≡ 0
unfolding differs
session-2-chunk-10 = refl

abbrev session-2-state-11 : List ℕ
session-2-state-11 = words 1760 (
    (0, 1) ∷ (1, 0x400) ∷ (2, 4) ∷ (3, 3) ∷ (29, 0xffff) ∷ (32, 0x10001) ∷ (33, 1) ∷ (35, 0xf8) ∷ (36, 2) ∷ (37, 2) ∷ (38, 3) ∷ (42, 1) ∷
    (48, 0xb73905e) ∷ (49, 0x80020000) ∷ (52, 0x20000) ∷ (60, 0xf8b0a880) ∷ (61, 0xffff) ∷ (65, 1) ∷ (67, 0xb0) ∷ (69, 2) ∷ (70, 3) ∷ (73, 1) ∷ (74, 1) ∷
    (80, 0x78b4cd43) ∷ (81, 0x20000) ∷ (89, 0xd0e8f080) ∷ (93, 0xffff) ∷ (96, 0x1010f) ∷ (101, 2) ∷ (102, 3) ∷ (125, 0xffff) ∷ (128, 0xff0000) ∷
    (129, 1) ∷ (131, 0xa8) ∷ (133, 2) ∷ (134, 3) ∷ (137, 1) ∷ (138, 1) ∷ (272, 0xa104449d) ∷ (273, 2) ∷ (277, 0x88c8a0d8) ∷ (752, 0x5948bda) ∷
    (753, 0x8000000) ∷ (763, 0xf8d83008) ∷ (766, 0xfff) ∷ []
    )

abbrev session-2-rows-11 : List Row
session-2-rows-11 =
    gives (write_system 1 0xc659 0x11) 0
    ∷ gives (write_frame 0 3 0x7fd 1 0xa0) 0
    ∷ gives (change_line 3 0x1f true) 0
    ∷ []

session-2-chunk-11 : differs session-2-rows-11 session-2-state-11 (changed session-2-state-11 ((116, 0x80000000) ∷ [])) ≡ 0
unfolding differs
session-2-chunk-11 = refl

abbrev session-2-state-12 : List ℕ
session-2-state-12 = words 1760 (
    (0, 1) ∷ (1, 0x400) ∷ (2, 4) ∷ (3, 3) ∷ (29, 0xffff) ∷ (32, 0x10001) ∷ (35, 0xf8) ∷ (36, 2) ∷ (37, 2) ∷ (38, 3) ∷ (42, 1) ∷ (48, 0xb73905e) ∷
    (49, 0x80020000) ∷ (51, 0x20000) ∷ (52, 0x20000) ∷ (60, 0xf8b0a880) ∷ (61, 0xffff) ∷ (67, 0xb0) ∷ (69, 2) ∷ (70, 3) ∷ (72, 1) ∷ (73, 1) ∷ (74, 1) ∷
    (80, 0x78b4cd43) ∷ (81, 0x20000) ∷ (89, 0xd0e8f080) ∷ (93, 0xffff) ∷ (96, 0x1010f) ∷ (101, 2) ∷ (102, 3) ∷ (116, 0x80000000) ∷ (125, 0xffff) ∷
    (128, 0xff0000) ∷ (131, 0xa8) ∷ (133, 2) ∷ (134, 3) ∷ (135, 0x100000) ∷ (137, 1) ∷ (138, 1) ∷ (272, 0xa104449d) ∷ (273, 2) ∷ (275, 2) ∷ (276, 2) ∷
    (277, 0x88c8a0d8) ∷ (752, 0x5948bda) ∷ (753, 0x8000000) ∷ (755, 0x8000000) ∷ (763, 0x58d83008) ∷ (766, 0xfff) ∷ (769, 0xff0000) ∷ []
    )

abbrev session-2-rows-12 : List Row
session-2-rows-12 =
    refuses (set_attribute 1 0x1010f00000008 0x1001001) 22
    ∷ []

session-2-chunk-12 : differs session-2-rows-12 session-2-state-12 session-2-state-12 ≡ 0
unfolding differs
session-2-chunk-12 = refl

abbrev session-2-state-13 : List ℕ
session-2-state-13 = words 1760 (
    (0, 1) ∷ (1, 0x400) ∷ (2, 4) ∷ (3, 3) ∷ (17, 0x80000000) ∷ (18, 0x10000) ∷ (19, 0x80000000) ∷ (20, 0x8ae70000) ∷ (29, 0xffff) ∷ (32, 0x10001) ∷
    (33, 1) ∷ (35, 0xf8) ∷ (36, 2) ∷ (37, 2) ∷ (38, 7) ∷ (39, 0x801) ∷ (41, 1) ∷ (42, 1) ∷ (48, 0xb73905e) ∷ (49, 0x80020000) ∷ (51, 0x20000) ∷
    (52, 0x88020000) ∷ (60, 0xf8b0a880) ∷ (61, 0xffff) ∷ (65, 1) ∷ (67, 0xf8) ∷ (69, 2) ∷ (70, 3) ∷ (72, 1) ∷ (73, 1) ∷ (74, 1) ∷ (80, 0x78b4cd43) ∷
    (81, 0x20000) ∷ (89, 0xd0e8f080) ∷ (93, 0xffff) ∷ (96, 0x1010f) ∷ (101, 2) ∷ (102, 3) ∷ (116, 0x80000000) ∷ (125, 0xffff) ∷ (128, 0xff0000) ∷
    (129, 1) ∷ (131, 0xa8) ∷ (133, 2) ∷ (134, 3) ∷ (135, 0x100000) ∷ (137, 1) ∷ (138, 1) ∷ (272, 0xa104449d) ∷ (273, 2) ∷ (275, 2) ∷ (276, 2) ∷
    (277, 0x88c8a0d8) ∷ (752, 0x5948bda) ∷ (753, 0x8000000) ∷ (755, 0x8000000) ∷ (756, 0xb27b79b) ∷ (763, 0x58d83008) ∷ (769, 0xff0000) ∷
    (1755, 0x10001) ∷ []
    )

abbrev session-2-rows-13 : List Row
session-2-rows-13 =
    gives (read_frame 1 2 0x10301 0xffffffff) 0
    ∷ gives (write_distributor 0 0x10 4 8) 0
    ∷ gives (read_distributor 0 0x10 4) 0
    ∷ gives (write_system 3 0xc65f 0xff0f00dad3) 0
    ∷ gives (set_running 3 true) 0
    ∷ []

session-2-chunk-13 : differs session-2-rows-13 session-2-state-13 (changed session-2-state-13 ((114, 0x8000) ∷ [])) ≡ 0
unfolding differs
session-2-chunk-13 = refl

abbrev session-2-state-14 : List ℕ
session-2-state-14 = words 1760 (
    (0, 1) ∷ (1, 0x400) ∷ (2, 4) ∷ (3, 3) ∷ (17, 0x80000000) ∷ (18, 0x10000) ∷ (19, 0x80000000) ∷ (20, 0x8ae70000) ∷ (29, 0xffff) ∷ (32, 0x10001) ∷
    (33, 1) ∷ (35, 0xf8) ∷ (36, 2) ∷ (37, 2) ∷ (38, 7) ∷ (39, 0x801) ∷ (41, 1) ∷ (42, 1) ∷ (48, 0xb73905e) ∷ (49, 0x80020000) ∷ (51, 0x20000) ∷
    (52, 0x88020000) ∷ (60, 0xf8b0a880) ∷ (61, 0xffff) ∷ (65, 1) ∷ (67, 0xf8) ∷ (69, 2) ∷ (70, 3) ∷ (72, 1) ∷ (73, 1) ∷ (74, 1) ∷ (80, 0x78b4cd43) ∷
    (81, 0x20000) ∷ (89, 0xd0e8f080) ∷ (93, 0xffff) ∷ (96, 0x1010f) ∷ (101, 2) ∷ (102, 3) ∷ (114, 0x8000) ∷ (116, 0x80000000) ∷ (125, 0xffff) ∷
    (128, 0xff0000) ∷ (129, 1) ∷ (131, 0xa8) ∷ (133, 2) ∷ (134, 3) ∷ (135, 0x100000) ∷ (137, 1) ∷ (138, 1) ∷ (272, 0xa104449d) ∷ (273, 2) ∷
    (274, 0x80000000) ∷ (275, 2) ∷ (276, 2) ∷ (277, 0x88c8a0d8) ∷ (752, 0x5948bda) ∷ (753, 0x8000000) ∷ (756, 0xb27b79b) ∷ (763, 0x58d83008) ∷
    (769, 0xff0000) ∷ (1755, 0xff0000) ∷ []
    )

abbrev session-2-rows-14 : List Row
session-2-rows-14 =
    gives (write_system 3 0xc663 6) 0
    ∷ []

session-2-chunk-14 : differs session-2-rows-14 session-2-state-14 (changed session-2-state-14 ((134, 6) ∷ [])) ≡ 0
unfolding differs
session-2-chunk-14 = refl

abbrev session-2-state-15 : List ℕ
session-2-state-15 = words 1760 (
    (0, 1) ∷ (1, 0x400) ∷ (2, 4) ∷ (3, 3) ∷ (17, 0x80000000) ∷ (18, 0x10000) ∷ (19, 0x80000000) ∷ (20, 0x8ae70000) ∷ (29, 0xffff) ∷ (32, 0x10001) ∷
    (33, 1) ∷ (35, 0xf8) ∷ (36, 2) ∷ (37, 2) ∷ (38, 7) ∷ (39, 0x801) ∷ (41, 1) ∷ (42, 1) ∷ (48, 0xb73905e) ∷ (49, 0x80020000) ∷ (51, 0x20000) ∷
    (52, 0x88020000) ∷ (60, 0xf8b0a880) ∷ (61, 0xffff) ∷ (65, 1) ∷ (67, 0xf8) ∷ (69, 2) ∷ (70, 3) ∷ (72, 1) ∷ (73, 1) ∷ (74, 1) ∷ (80, 0x78b4cd43) ∷
    (81, 0x20000) ∷ (89, 0xd0e8f080) ∷ (93, 0xffff) ∷ (96, 0x1010f) ∷ (101, 2) ∷ (102, 3) ∷ (114, 0x8000) ∷ (116, 0x80000000) ∷ (125, 0xffff) ∷
    (128, 0xff0000) ∷ (129, 1) ∷ (131, 0xa8) ∷ (133, 2) ∷ (134, 6) ∷ (135, 0x100000) ∷ (137, 1) ∷ (138, 1) ∷ (272, 0xa104449d) ∷ (273, 2) ∷
    (274, 0x80000000) ∷ (275, 2) ∷ (276, 2) ∷ (277, 0x88c8a0d8) ∷ (752, 0x5948bda) ∷ (753, 0x8000000) ∷ (756, 0xb27b79b) ∷ (763, 0x58d83008) ∷
    (769, 0xff0000) ∷ (1755, 0xff0000) ∷ []
    )

abbrev session-2-rows-15 : List Row
session-2-rows-15 =
    gives (read_system 3 0xc640) 0x3fb
    ∷ []

session-2-chunk-15 : differs session-2-rows-15 session-2-state-15 (changed session-2-state-15 ((135, 0x100800) ∷ (755, 0x8000000) ∷ [])) ≡ 0
unfolding differs
session-2-chunk-15 = refl

abbrev session-2-state-16 : List ℕ
session-2-state-16 = words 1760 (
    (0, 1) ∷ (1, 0x400) ∷ (2, 4) ∷ (3, 3) ∷ (17, 0x80000000) ∷ (18, 0x10000) ∷ (19, 0x80000000) ∷ (20, 0x8ae70000) ∷ (29, 0xffff) ∷ (32, 0x10001) ∷
    (33, 1) ∷ (35, 0xf8) ∷ (36, 2) ∷ (37, 2) ∷ (38, 7) ∷ (39, 0x801) ∷ (41, 1) ∷ (42, 1) ∷ (48, 0xb73905e) ∷ (49, 0x80020000) ∷ (51, 0x20000) ∷
    (52, 0x88020000) ∷ (60, 0xf8b0a880) ∷ (61, 0xffff) ∷ (65, 1) ∷ (67, 0xf8) ∷ (69, 2) ∷ (70, 3) ∷ (72, 1) ∷ (73, 1) ∷ (74, 1) ∷ (80, 0x78b4cd43) ∷
    (81, 0x20000) ∷ (89, 0xd0e8f080) ∷ (93, 0xffff) ∷ (96, 0x1010f) ∷ (101, 2) ∷ (102, 3) ∷ (114, 0x8000) ∷ (116, 0x80000000) ∷ (125, 0xffff) ∷
    (128, 0xff0000) ∷ (129, 1) ∷ (131, 0xa8) ∷ (133, 2) ∷ (134, 6) ∷ (135, 0x100800) ∷ (137, 1) ∷ (138, 1) ∷ (272, 0xa104449d) ∷ (273, 2) ∷
    (274, 0x80000000) ∷ (275, 2) ∷ (276, 2) ∷ (277, 0x88c8a0d8) ∷ (752, 0x5948bda) ∷ (753, 0x8000000) ∷ (755, 0x8000000) ∷ (756, 0xb27b79b) ∷
    (763, 0x58d83008) ∷ (769, 0xff0000) ∷ (1755, 0xff0000) ∷ []
    )

abbrev session-2-rows-16 : List Row
session-2-rows-16 =
    gives (write_distributor 3 0x3fc 4 0x8000000) 0
    ∷ gives (write_distributor 3 0x7f8 4 0x50d83008) 0
    ∷ []

session-2-chunk-16 : differs session-2-rows-16 session-2-state-16 (changed session-2-state-16 ((755, 0) ∷ (763, 0x50d83008) ∷ [])) ≡ 0
unfolding differs
session-2-chunk-16 = refl

abbrev session-2-state-17 : List ℕ
session-2-state-17 = words 1760 (
    (0, 1) ∷ (1, 0x400) ∷ (2, 4) ∷ (3, 3) ∷ (17, 0x80000000) ∷ (18, 0x10000) ∷ (19, 0x80000000) ∷ (20, 0x8ae70000) ∷ (29, 0xffff) ∷ (32, 0x10001) ∷
    (33, 1) ∷ (35, 0xf8) ∷ (36, 2) ∷ (37, 2) ∷ (38, 7) ∷ (39, 0x801) ∷ (41, 1) ∷ (42, 1) ∷ (48, 0xb73905e) ∷ (49, 0x80020000) ∷ (51, 0x20000) ∷
    (52, 0x88020000) ∷ (60, 0xf8b0a880) ∷ (61, 0xffff) ∷ (65, 1) ∷ (67, 0xf8) ∷ (69, 2) ∷ (70, 3) ∷ (72, 1) ∷ (73, 1) ∷ (74, 1) ∷ (80, 0x78b4cd43) ∷
    (81, 0x20000) ∷ (89, 0xd0e8f080) ∷ (93, 0xffff) ∷ (96, 0x1010f) ∷ (101, 2) ∷ (102, 3) ∷ (114, 0x8000) ∷ (116, 0x80000000) ∷ (125, 0xffff) ∷
    (128, 0xff0000) ∷ (129, 1) ∷ (131, 0xa8) ∷ (133, 2) ∷ (134, 6) ∷ (135, 0x100800) ∷ (137, 1) ∷ (138, 1) ∷ (272, 0xa104449d) ∷ (273, 2) ∷
    (274, 0x80000000) ∷ (275, 2) ∷ (276, 2) ∷ (277, 0x88c8a0d8) ∷ (752, 0x5948bda) ∷ (753, 0x8000000) ∷ (756, 0xb27b79b) ∷ (763, 0x50d83008) ∷
    (769, 0xff0000) ∷ (1755, 0xff0000) ∷ []
    )

abbrev session-2-rows-17 : List Row
session-2-rows-17 =
    gives (query_signal 3) 2
    ∷ []

session-2-chunk-17 : differs session-2-rows-17 session-2-state-17 session-2-state-17 ≡ 0
unfolding differs
session-2-chunk-17 = refl
