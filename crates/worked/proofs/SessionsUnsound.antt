-- Calls on states with one word, or the length, out of range: each answers -14 and leaves the state. Making a device looks at the length alone.
-- Made by: tests/sessions.py ORACLE 65 500 --chunk 2 --counts 64:96:1024 --calls 2-3,5-6,9-10,12-13,15-16,18-19,29-30,32-33,35-36,104-105,241-242,244-245,247-248,250-251,254-255,258-259,261-262,265-266,268-269,272-273,277-278,282-283,285-286,290-291,295-296,301-302,323-324,329-330,362-363,371-372,407-408,412-413,419-420,483-484 --unsound
-- 79 calls in 43 theorems. ORACLE's model of the device, in Python, gave the answers and the states.
use mathlib.Core.Path.{◌≡◌, refl}
use Prim.Native.Nat.{ℕ}
use mathlib.Core.Bool.{true, false}
use mathlib.Core.List.{List, [], ◌∷◌}
use lib.ListN.{replicate}
use Rattle.model.specs.Calls.{make, add_vcpu, set_running, change_line, query_signal, read_distributor, write_distributor, read_frame, write_frame, read_system, write_system, get_attribute, set_attribute, save, restore}
use Rattle.worked.proofs.Rows.{Row, gives, refuses, words, differs}

abbrev unsound-65-state-1 : List ℕ
unsound-65-state-1 = words 1760 ((0, 2) ∷ [])

abbrev unsound-65-rows-1 : List Row
unsound-65-rows-1 =
    refuses (add_vcpu 1) 14
    ∷ refuses (set_attribute 3 0 0x60) 14
    ∷ []

unsound-65-chunk-1 : differs unsound-65-rows-1 unsound-65-state-1 unsound-65-state-1 ≡ 0
unfolding differs
unsound-65-chunk-1 = refl

abbrev unsound-65-state-2 : List ℕ
unsound-65-state-2 = words 1760 ((1, 0x60) ∷ (2, 2) ∷ (29, 0xffff) ∷ (32, 1) ∷ (37, 2) ∷ (38, 3) ∷ (61, 0xffff) ∷ (64, 0x10001) ∷ (69, 2) ∷ (70, 3) ∷ (80, 1) ∷ [])

abbrev unsound-65-rows-2 : List Row
unsound-65-rows-2 =
    refuses (query_signal 3) 14
    ∷ []

unsound-65-chunk-2 : differs unsound-65-rows-2 unsound-65-state-2 unsound-65-state-2 ≡ 0
unfolding differs
unsound-65-chunk-2 = refl

abbrev unsound-65-state-3 : List ℕ
unsound-65-state-3 = words 1760 ((1, 0x60) ∷ (2, 2) ∷ (29, 0xffff) ∷ (32, 1) ∷ (37, 2) ∷ (38, 3) ∷ (61, 0xffff) ∷ (64, 0x10001) ∷ (69, 2) ∷ (70, 3) ∷ (79, 1) ∷ [])

abbrev unsound-65-rows-3 : List Row
unsound-65-rows-3 =
    refuses (add_vcpu 0x200) 14
    ∷ []

unsound-65-chunk-3 : differs unsound-65-rows-3 unsound-65-state-3 unsound-65-state-3 ≡ 0
unfolding differs
unsound-65-chunk-3 = refl

abbrev unsound-65-state-4 : List ℕ
unsound-65-state-4 = words 1760 (
    (1, 0x60) ∷ (2, 5) ∷ (29, 0xffff) ∷ (32, 1) ∷ (37, 2) ∷ (38, 3) ∷ (61, 0xffff) ∷ (64, 0x10001) ∷ (69, 2) ∷ (70, 3) ∷ (93, 0xffff) ∷ (96, 0x200) ∷
    (101, 2) ∷ (102, 3) ∷ (116, 0x100) ∷ (125, 0xffff) ∷ (128, 0xffff0f) ∷ (133, 2) ∷ (134, 3) ∷ (157, 0xffff) ∷ (160, 0xf) ∷ (165, 2) ∷ (166, 3) ∷ []
    )

abbrev unsound-65-rows-4 : List Row
unsound-65-rows-4 =
    refuses (set_attribute 4 0 0) 14
    ∷ refuses (set_attribute 4 0 0) 14
    ∷ []

unsound-65-chunk-4 : differs unsound-65-rows-4 unsound-65-state-4 unsound-65-state-4 ≡ 0
unfolding differs
unsound-65-chunk-4 = refl

abbrev unsound-65-state-5 : List ℕ
unsound-65-state-5 = words 1760 (
    (0, 2) ∷ (1, 0x60) ∷ (2, 5) ∷ (29, 0xffff) ∷ (32, 1) ∷ (33, 1) ∷ (37, 2) ∷ (38, 3) ∷ (61, 0xffff) ∷ (64, 0x10001) ∷ (69, 2) ∷ (70, 3) ∷
    (93, 0xffff) ∷ (96, 0x200) ∷ (101, 2) ∷ (102, 3) ∷ (125, 0xffff) ∷ (128, 0xffff0f) ∷ (133, 2) ∷ (134, 3) ∷ (157, 0xffff) ∷ (160, 0xf) ∷ (165, 2) ∷
    (166, 3) ∷ []
    )

abbrev unsound-65-rows-5 : List Row
unsound-65-rows-5 =
    refuses (write_system 0 0xc230 0xf8) 14
    ∷ refuses (write_system 0 0xc666 0) 14
    ∷ []

unsound-65-chunk-5 : differs unsound-65-rows-5 unsound-65-state-5 unsound-65-state-5 ≡ 0
unfolding differs
unsound-65-chunk-5 = refl

abbrev unsound-65-state-6 : List ℕ
unsound-65-state-6 = words 1760 (
    (0, 1) ∷ (1, 0x60) ∷ (2, 5) ∷ (29, 0xffff) ∷ (32, 1) ∷ (33, 1) ∷ (35, 0xf8) ∷ (37, 8) ∷ (38, 3) ∷ (42, 1) ∷ (61, 0xffff) ∷ (64, 0x10001) ∷ (69, 2) ∷
    (70, 3) ∷ (93, 0xffff) ∷ (96, 0x200) ∷ (101, 2) ∷ (102, 3) ∷ (125, 0xffff) ∷ (128, 0xffff0f) ∷ (133, 2) ∷ (134, 3) ∷ (157, 0xffff) ∷ (160, 0xf) ∷
    (165, 2) ∷ (166, 3) ∷ []
    )

abbrev unsound-65-rows-6 : List Row
unsound-65-rows-6 =
    refuses (write_system 0 0xc664 2) 14
    ∷ refuses (set_running 1 true) 14
    ∷ gives make 0
    ∷ []

unsound-65-chunk-6 : differs unsound-65-rows-6 unsound-65-state-6 (words 1760 []) ≡ 0
unfolding differs
unsound-65-chunk-6 = refl

abbrev unsound-65-state-7 : List ℕ
unsound-65-state-7 = words 1760 (
    (0, 1) ∷ (1, 0x60) ∷ (2, 5) ∷ (29, 0xffff) ∷ (32, 1) ∷ (33, 1) ∷ (35, 0xf8) ∷ (36, 2) ∷ (37, 2) ∷ (38, 3) ∷ (42, 1) ∷ (61, 0xffff) ∷ (64, 0x10001) ∷
    (65, 1) ∷ (67, 0xf8) ∷ (69, 2) ∷ (70, 3) ∷ (93, 0xffff) ∷ (96, 0x200) ∷ (101, 2) ∷ (102, 3) ∷ (125, 0xffff) ∷ (128, 0xffff0f) ∷ (133, 2) ∷ (134, 3) ∷
    (157, 0xffff) ∷ (160, 0xf) ∷ (165, 2) ∷ (166, 8) ∷ []
    )

abbrev unsound-65-rows-7 : List Row
unsound-65-rows-7 =
    refuses (write_system 1 0xc666 0) 14
    ∷ refuses (write_system 1 0xc667 1) 14
    ∷ gives make 0
    ∷ []

unsound-65-chunk-7 : differs unsound-65-rows-7 unsound-65-state-7 (words 1760 []) ≡ 0
unfolding differs
unsound-65-chunk-7 = refl

abbrev unsound-65-state-8 : List ℕ
unsound-65-state-8 = words 1760 (
    (0, 1) ∷ (1, 0x60) ∷ (2, 5) ∷ (29, 0xffff) ∷ (32, 1) ∷ (33, 1) ∷ (35, 0xf8) ∷ (36, 2) ∷ (37, 2) ∷ (38, 3) ∷ (42, 1) ∷ (61, 0xffff) ∷ (64, 0x10001) ∷
    (65, 1) ∷ (67, 0xf8) ∷ (69, 2) ∷ (70, 3) ∷ (73, 2) ∷ (74, 1) ∷ (93, 0xffff) ∷ (96, 0x200) ∷ (97, 1) ∷ (99, 0xb0) ∷ (100, 2) ∷ (101, 2) ∷ (102, 3) ∷
    (105, 1) ∷ (106, 1) ∷ (125, 0xffff) ∷ (128, 0xffff0f) ∷ (129, 1) ∷ (131, 0xf8) ∷ (133, 2) ∷ (134, 3) ∷ (137, 1) ∷ (138, 1) ∷ (157, 0xffff) ∷
    (160, 0xf) ∷ (165, 2) ∷ (166, 3) ∷ []
    )

abbrev unsound-65-rows-8 : List Row
unsound-65-rows-8 =
    refuses (write_distributor 0 0 4 3) 14
    ∷ refuses (write_distributor 3 0x108 4 0x10000000) 14
    ∷ []

unsound-65-chunk-8 : differs unsound-65-rows-8 unsound-65-state-8 unsound-65-state-8 ≡ 0
unfolding differs
unsound-65-chunk-8 = refl

abbrev unsound-65-state-9 : List ℕ
unsound-65-state-9 = words 1760 (
    (0, 1) ∷ (1, 0x60) ∷ (2, 5) ∷ (3, 3) ∷ (29, 0xffff) ∷ (32, 1) ∷ (33, 1) ∷ (35, 0xf8) ∷ (36, 2) ∷ (37, 2) ∷ (38, 3) ∷ (42, 1) ∷ (61, 0xffff) ∷
    (64, 0x10001) ∷ (65, 1) ∷ (67, 0xf8) ∷ (69, 2) ∷ (70, 3) ∷ (74, 1) ∷ (93, 0xffff) ∷ (96, 0x200) ∷ (97, 1) ∷ (99, 0xb0) ∷ (100, 2) ∷ (101, 2) ∷
    (102, 3) ∷ (105, 1) ∷ (106, 1) ∷ (125, 0xffff) ∷ (128, 0xffff0f) ∷ (129, 1) ∷ (131, 0xf8) ∷ (133, 2) ∷ (134, 3) ∷ (137, 1) ∷ (138, 1) ∷
    (157, 0xffff) ∷ (160, 0xf) ∷ (165, 2) ∷ (166, 2) ∷ (288, 0xcef2ea34) ∷ (289, 0x10000000) ∷ []
    )

abbrev unsound-65-rows-9 : List Row
unsound-65-rows-9 =
    refuses (write_distributor 3 0x45c 4 0x89e90998) 14
    ∷ refuses (write_distributor 3 0x62e0 4 0x10001) 14
    ∷ []

unsound-65-chunk-9 : differs unsound-65-rows-9 unsound-65-state-9 unsound-65-state-9 ≡ 0
unfolding differs
unsound-65-chunk-9 = refl

abbrev unsound-65-state-10 : List ℕ
unsound-65-state-10 = words 1760 (
    (0, 1) ∷ (1, 0x60) ∷ (2, 5) ∷ (3, 3) ∷ (29, 0xffff) ∷ (32, 1) ∷ (33, 1) ∷ (35, 0xf8) ∷ (36, 2) ∷ (37, 2) ∷ (38, 3) ∷ (42, 1) ∷ (64, 0x10001) ∷
    (65, 1) ∷ (67, 0xf8) ∷ (69, 2) ∷ (70, 3) ∷ (74, 1) ∷ (93, 0xffff) ∷ (96, 0x200) ∷ (97, 1) ∷ (99, 0xb0) ∷ (100, 2) ∷ (101, 2) ∷ (102, 3) ∷ (105, 1) ∷
    (106, 1) ∷ (125, 0xffff) ∷ (128, 0xffff0f) ∷ (129, 1) ∷ (131, 0xf8) ∷ (133, 2) ∷ (134, 3) ∷ (137, 1) ∷ (138, 1) ∷ (157, 0xffff) ∷ (160, 0xf) ∷
    (165, 2) ∷ (166, 3) ∷ (288, 0xcef2ea34) ∷ (289, 0x10000000) ∷ (300, 0x88e80898) ∷ (302, 0xffff) ∷ (828, 0x10001) ∷ []
    )

abbrev unsound-65-rows-10 : List Row
unsound-65-rows-10 =
    refuses (write_frame 3 3 0x10100 4 0x8000000) 14
    ∷ refuses (write_frame 3 3 0x10080 4 0xaf4c09aa) 14
    ∷ []

unsound-65-chunk-10 : differs unsound-65-rows-10 unsound-65-state-10 unsound-65-state-10 ≡ 0
unfolding differs
unsound-65-chunk-10 = refl

abbrev unsound-65-state-11 : List ℕ
unsound-65-state-11 = words 1760 (
    (0, 1) ∷ (1, 0x60) ∷ (2, 5) ∷ (3, 3) ∷ (16, 0x28122495) ∷ (17, 1) ∷ (21, 0xb068d8f8) ∷ (29, 0xffff) ∷ (32, 1) ∷ (33, 1) ∷ (35, 0xf8) ∷ (36, 2) ∷
    (37, 2) ∷ (38, 3) ∷ (39, 0x10) ∷ (41, 1) ∷ (42, 1) ∷ (52, 0x20000) ∷ (61, 0xffff) ∷ (64, 0x10001) ∷ (65, 1) ∷ (67, 0xf8) ∷ (69, 2) ∷ (70, 3) ∷
    (74, 1) ∷ (80, 0x504bedbd) ∷ (81, 2) ∷ (85, 0xd8d09808) ∷ (93, 0xffff) ∷ (96, 0x200) ∷ (97, 1) ∷ (99, 0xb0) ∷ (100, 2) ∷ (101, 2) ∷ (102, 3) ∷
    (104, 0x200) ∷ (105, 1) ∷ (106, 1) ∷ (112, 0x39a98cba) ∷ (113, 0x8020001) ∷ (114, 1) ∷ (116, 0x800) ∷ (121, 0xd8c0f0e8) ∷ (123, 0x80c8c0d0) ∷
    (125, 0xffff) ∷ (128, 0xffff0f) ∷ (129, 1) ∷ (131, 0xf8) ∷ (133, 2) ∷ (134, 7) ∷ (137, 1) ∷ (138, 1) ∷ (157, 0xffff) ∷ (160, 0xf) ∷ (165, 2) ∷
    (166, 3) ∷ (288, 0x7c3acbc1) ∷ (289, 0x90000000) ∷ (291, 0x90000000) ∷ (292, 0x90000000) ∷ (300, 0x20508048) ∷ (302, 0xffff) ∷ (828, 0xffff0f) ∷
    (831, 1) ∷ []
    )

abbrev unsound-65-rows-11 : List Row
unsound-65-rows-11 =
    refuses (query_signal 0) 14
    ∷ []

unsound-65-chunk-11 : differs unsound-65-rows-11 unsound-65-state-11 unsound-65-state-11 ≡ 0
unfolding differs
unsound-65-chunk-11 = refl

abbrev unsound-65-state-12 : List ℕ
unsound-65-state-12 = words 1760 (
    (0, 1) ∷ (1, 0x60) ∷ (2, 5) ∷ (3, 3) ∷ (16, 0x28122495) ∷ (17, 1) ∷ (21, 0xb068d8f8) ∷ (29, 0xffff) ∷ (32, 1) ∷ (33, 1) ∷ (35, 0xf8) ∷ (36, 2) ∷
    (37, 2) ∷ (38, 3) ∷ (39, 0x10) ∷ (41, 1) ∷ (42, 1) ∷ (52, 0x20000) ∷ (61, 0xffff) ∷ (64, 0x10001) ∷ (65, 1) ∷ (67, 0xf8) ∷ (69, 2) ∷ (70, 3) ∷
    (74, 1) ∷ (80, 0x504bedbd) ∷ (81, 2) ∷ (85, 0xd8d09808) ∷ (93, 0xffff) ∷ (96, 0x200) ∷ (97, 1) ∷ (99, 0xb0) ∷ (100, 2) ∷ (101, 2) ∷ (102, 3) ∷
    (104, 0x200) ∷ (105, 1) ∷ (106, 1) ∷ (112, 0x39a98cba) ∷ (113, 0x8020001) ∷ (114, 1) ∷ (121, 0xd8c0f0e8) ∷ (123, 0x80c8c0d0) ∷ (125, 0xffff) ∷
    (128, 0xffff0f) ∷ (129, 1) ∷ (131, 0xf8) ∷ (133, 2) ∷ (134, 7) ∷ (137, 1) ∷ (138, 1) ∷ (157, 0xffff) ∷ (160, 0xf) ∷ (165, 2) ∷ (166, 3) ∷ (281, 2) ∷
    (288, 0x7c3acbc1) ∷ (289, 0x90000000) ∷ (291, 0x90000000) ∷ (292, 0x90000000) ∷ (300, 0x20508048) ∷ (302, 0xffff) ∷ (828, 0xffff0f) ∷ (831, 1) ∷ []
    )

abbrev unsound-65-rows-12 : List Row
unsound-65-rows-12 =
    refuses (query_signal 0) 14
    ∷ gives make 0
    ∷ []

unsound-65-chunk-12 : differs unsound-65-rows-12 unsound-65-state-12 (words 1760 []) ≡ 0
unfolding differs
unsound-65-chunk-12 = refl

abbrev unsound-65-state-13 : List ℕ
unsound-65-state-13 = words 1760 (
    (0, 1) ∷ (1, 0x60) ∷ (2, 6) ∷ (3, 3) ∷ (16, 0x28122495) ∷ (17, 3) ∷ (18, 3) ∷ (21, 0xb06800f8) ∷ (29, 0xffff) ∷ (32, 1) ∷ (35, 0xf8) ∷ (36, 2) ∷
    (37, 2) ∷ (38, 3) ∷ (39, 0x10) ∷ (40, 1) ∷ (41, 1) ∷ (42, 1) ∷ (52, 0x20000) ∷ (61, 0xffff) ∷ (64, 0x10001) ∷ (67, 0xa8) ∷ (68, 2) ∷ (69, 2) ∷
    (70, 3) ∷ (74, 1) ∷ (80, 0x504bedbd) ∷ (81, 2) ∷ (85, 0xd8d09808) ∷ (93, 0xffff) ∷ (96, 0x200) ∷ (99, 0xb0) ∷ (100, 2) ∷ (101, 2) ∷ (102, 3) ∷
    (105, 1) ∷ (106, 1) ∷ (112, 0xa37a7ce9) ∷ (113, 0x8020001) ∷ (114, 0x8000002) ∷ (116, 0x20000) ∷ (121, 0xd8c0f0e8) ∷ (123, 0x80c8c0d0) ∷
    (125, 0xffff) ∷ (128, 0xffff0f) ∷ (131, 0xf8) ∷ (133, 2) ∷ (134, 3) ∷ (137, 1) ∷ (138, 1) ∷ (146, 1) ∷ (148, 0x10000) ∷ (155, 0xf0000000) ∷
    (157, 0xffff) ∷ (160, 0xf) ∷ (161, 1) ∷ (165, 2) ∷ (166, 3) ∷ (274, 0xc439a846) ∷ (285, 0xffff) ∷ (288, 0x7c3acbc1) ∷ (289, 0x90000000) ∷
    (290, 0xf0000000) ∷ (291, 0x80000000) ∷ (292, 0x80000000) ∷ (300, 0x20508040) ∷ (302, 0xffff) ∷ (828, 0xffff0f) ∷ (831, 0xf) ∷ []
    )

abbrev unsound-65-rows-13 : List Row
unsound-65-rows-13 =
    refuses (set_running 4 false) 14
    ∷ []

unsound-65-chunk-13 : differs unsound-65-rows-13 unsound-65-state-13 unsound-65-state-13 ≡ 0
unfolding differs
unsound-65-chunk-13 = refl

abbrev unsound-65-state-14 : List ℕ
unsound-65-state-14 = words 1760 (
    (0, 1) ∷ (1, 0x420) ∷ (2, 5) ∷ (3, 3) ∷ (16, 0x28122495) ∷ (17, 3) ∷ (18, 3) ∷ (21, 0xb06800f8) ∷ (29, 0xffff) ∷ (32, 1) ∷ (35, 0xf8) ∷ (36, 2) ∷
    (37, 2) ∷ (38, 3) ∷ (39, 0x10) ∷ (40, 1) ∷ (41, 1) ∷ (42, 1) ∷ (52, 0x20000) ∷ (61, 0xffff) ∷ (64, 0x10001) ∷ (67, 0xa8) ∷ (68, 2) ∷ (69, 2) ∷
    (70, 3) ∷ (74, 1) ∷ (80, 0x504bedbd) ∷ (81, 2) ∷ (85, 0xd8d09808) ∷ (93, 0xffff) ∷ (96, 0x200) ∷ (99, 0xb0) ∷ (100, 2) ∷ (101, 2) ∷ (102, 3) ∷
    (105, 1) ∷ (106, 1) ∷ (112, 0xa37a7ce9) ∷ (113, 0x8020001) ∷ (114, 0x8000002) ∷ (116, 0x20000) ∷ (121, 0xd8c0f0e8) ∷ (123, 0x80c8c0d0) ∷
    (125, 0xffff) ∷ (128, 0xffff0f) ∷ (131, 0xf8) ∷ (133, 2) ∷ (134, 3) ∷ (137, 1) ∷ (138, 1) ∷ (146, 1) ∷ (148, 0x10000) ∷ (155, 0xf0000000) ∷
    (157, 0xffff) ∷ (160, 0xf) ∷ (165, 2) ∷ (166, 3) ∷ (274, 0xc439a846) ∷ (285, 0xffff) ∷ (288, 0x7c3acbc1) ∷ (289, 0x90000000) ∷ (290, 0xf0000000) ∷
    (291, 0x80000000) ∷ (292, 0x80000000) ∷ (300, 0x20508040) ∷ (302, 0xffff) ∷ (828, 0xffff0f) ∷ (831, 0xf) ∷ []
    )

abbrev unsound-65-rows-14 : List Row
unsound-65-rows-14 =
    refuses (save (replicate 20 0xa5)) 14
    ∷ []

unsound-65-chunk-14 : differs unsound-65-rows-14 unsound-65-state-14 unsound-65-state-14 ≡ 0
unfolding differs
unsound-65-chunk-14 = refl

abbrev unsound-65-state-15 : List ℕ
unsound-65-state-15 = words 1760 ((3, 4) ∷ [])

abbrev unsound-65-rows-15 : List Row
unsound-65-rows-15 =
    refuses (add_vcpu 1) 14
    ∷ refuses (add_vcpu 0x10001) 14
    ∷ gives make 0
    ∷ []

unsound-65-chunk-15 : differs unsound-65-rows-15 unsound-65-state-15 (words 1760 []) ≡ 0
unfolding differs
unsound-65-chunk-15 = refl

abbrev unsound-65-state-16 : List ℕ
unsound-65-state-16 = words 1761 (
    (2, 3) ∷ (29, 0xffff) ∷ (32, 1) ∷ (37, 2) ∷ (38, 3) ∷ (61, 0xffff) ∷ (64, 0x10001) ∷ (69, 2) ∷ (70, 3) ∷ (93, 0xffff) ∷ (96, 0x200) ∷ (101, 2) ∷
    (102, 3) ∷ []
    )

abbrev unsound-65-rows-16 : List Row
unsound-65-rows-16 =
    refuses (set_attribute 3 0 0x400) 14
    ∷ refuses (add_vcpu 0xffff0f) 14
    ∷ []

unsound-65-chunk-16 : differs unsound-65-rows-16 unsound-65-state-16 unsound-65-state-16 ≡ 0
unfolding differs
unsound-65-chunk-16 = refl

abbrev unsound-65-state-17 : List ℕ
unsound-65-state-17 = words 1760 (
    (1, 0x400) ∷ (2, 5) ∷ (29, 0xffff) ∷ (32, 1) ∷ (37, 2) ∷ (38, 3) ∷ (61, 0xffff) ∷ (64, 0x10001) ∷ (69, 2) ∷ (70, 3) ∷ (93, 0xffff) ∷ (96, 0x200) ∷
    (99, 4) ∷ (101, 2) ∷ (102, 3) ∷ (125, 0xffff) ∷ (128, 0xffff0f) ∷ (133, 2) ∷ (134, 3) ∷ (157, 0xffff) ∷ (160, 0xf) ∷ (165, 2) ∷ (166, 3) ∷ []
    )

abbrev unsound-65-rows-17 : List Row
unsound-65-rows-17 =
    refuses (set_attribute 4 0 0) 14
    ∷ []

unsound-65-chunk-17 : differs unsound-65-rows-17 unsound-65-state-17 unsound-65-state-17 ≡ 0
unfolding differs
unsound-65-chunk-17 = refl

abbrev unsound-65-state-18 : List ℕ
unsound-65-state-18 = words 1760 (
    (0, 1) ∷ (1, 0x400) ∷ (2, 5) ∷ (29, 0xffff) ∷ (31, 1) ∷ (32, 1) ∷ (37, 2) ∷ (38, 3) ∷ (61, 0xffff) ∷ (64, 0x10001) ∷ (69, 2) ∷ (70, 3) ∷
    (93, 0xffff) ∷ (96, 0x200) ∷ (101, 2) ∷ (102, 3) ∷ (125, 0xffff) ∷ (128, 0xffff0f) ∷ (133, 2) ∷ (134, 3) ∷ (157, 0xffff) ∷ (160, 0xf) ∷ (165, 2) ∷
    (166, 3) ∷ []
    )

abbrev unsound-65-rows-18 : List Row
unsound-65-rows-18 =
    refuses (restore (1 ∷ 0x60 ∷ 5 ∷ 1 ∷ 3 ∷ 0 ∷ [])) 14
    ∷ []

unsound-65-chunk-18 : differs unsound-65-rows-18 unsound-65-state-18 unsound-65-state-18 ≡ 0
unfolding differs
unsound-65-chunk-18 = refl

abbrev unsound-65-state-19 : List ℕ
unsound-65-state-19 = words 1760 (
    (0, 1) ∷ (1, 0x400) ∷ (2, 5) ∷ (29, 0xffff) ∷ (32, 1) ∷ (37, 2) ∷ (38, 3) ∷ (61, 0xffff) ∷ (64, 0x10001) ∷ (69, 2) ∷ (70, 3) ∷ (93, 0xffff) ∷
    (96, 0x200) ∷ (101, 2) ∷ (102, 3) ∷ (125, 0xffff) ∷ (128, 0xffff0f) ∷ (133, 2) ∷ (134, 3) ∷ (157, 0xffff) ∷ (160, 0xf) ∷ (165, 2) ∷ (166, 3) ∷
    (749, 0x10000) ∷ []
    )

abbrev unsound-65-rows-19 : List Row
unsound-65-rows-19 =
    refuses (change_line 0 0x10 true) 14
    ∷ refuses (change_line 0 0x10 false) 14
    ∷ []

unsound-65-chunk-19 : differs unsound-65-rows-19 unsound-65-state-19 unsound-65-state-19 ≡ 0
unfolding differs
unsound-65-chunk-19 = refl

abbrev unsound-65-state-20 : List ℕ
unsound-65-state-20 = words 1760 (
    (0, 1) ∷ (1, 0x400) ∷ (2, 5) ∷ (29, 0xffff) ∷ (32, 1) ∷ (37, 2) ∷ (38, 3) ∷ (41, 2) ∷ (61, 0xffff) ∷ (64, 0x10001) ∷ (69, 2) ∷ (70, 3) ∷
    (93, 0xffff) ∷ (96, 0x200) ∷ (101, 2) ∷ (102, 3) ∷ (125, 0xffff) ∷ (128, 0xffff0f) ∷ (133, 2) ∷ (134, 3) ∷ (157, 0xffff) ∷ (160, 0xf) ∷ (165, 2) ∷
    (166, 3) ∷ []
    )

abbrev unsound-65-rows-20 : List Row
unsound-65-rows-20 =
    refuses (set_running 0 true) 14
    ∷ refuses (set_running 1 true) 14
    ∷ gives make 0
    ∷ []

unsound-65-chunk-20 : differs unsound-65-rows-20 unsound-65-state-20 (words 1760 []) ≡ 0
unfolding differs
unsound-65-chunk-20 = refl

abbrev unsound-65-state-21 : List ℕ
unsound-65-state-21 = words 0 []

abbrev unsound-65-rows-21 : List Row
unsound-65-rows-21 =
    refuses (set_running 3 true) 14
    ∷ refuses (set_running 4 true) 14
    ∷ []

unsound-65-chunk-21 : differs unsound-65-rows-21 unsound-65-state-21 unsound-65-state-21 ≡ 0
unfolding differs
unsound-65-chunk-21 = refl

abbrev unsound-65-state-22 : List ℕ
unsound-65-state-22 = words 1760 (
    (0, 1) ∷ (1, 0x400) ∷ (2, 5) ∷ (9, 1) ∷ (29, 0xffff) ∷ (32, 1) ∷ (33, 1) ∷ (37, 2) ∷ (38, 3) ∷ (61, 0xffff) ∷ (64, 0x10001) ∷ (65, 1) ∷ (69, 2) ∷
    (70, 3) ∷ (93, 0xffff) ∷ (96, 0x200) ∷ (97, 1) ∷ (101, 2) ∷ (102, 3) ∷ (125, 0xffff) ∷ (128, 0xffff0f) ∷ (129, 1) ∷ (133, 2) ∷ (134, 3) ∷
    (157, 0xffff) ∷ (160, 0xf) ∷ (161, 1) ∷ (165, 2) ∷ (166, 3) ∷ (286, 0xffff) ∷ []
    )

abbrev unsound-65-rows-22 : List Row
unsound-65-rows-22 =
    refuses (write_system 3 0xc659 0x3f) 14
    ∷ refuses (read_system 3 0xc65b) 14
    ∷ []

unsound-65-chunk-22 : differs unsound-65-rows-22 unsound-65-state-22 unsound-65-state-22 ≡ 0
unfolding differs
unsound-65-chunk-22 = refl

abbrev unsound-65-state-23 : List ℕ
unsound-65-state-23 = words 1760 (
    (0, 1) ∷ (1, 0x400) ∷ (2, 5) ∷ (29, 0xffff) ∷ (32, 1) ∷ (33, 1) ∷ (37, 2) ∷ (38, 3) ∷ (61, 0xffff) ∷ (64, 0x10001) ∷ (65, 1) ∷ (67, 0xf8) ∷ (69, 2) ∷
    (70, 3) ∷ (93, 0xffff) ∷ (96, 0x200) ∷ (97, 1) ∷ (101, 2) ∷ (102, 3) ∷ (125, 0xffff) ∷ (128, 0xffff0f) ∷ (129, 1) ∷ (133, 2) ∷ (134, 3) ∷
    (157, 0xffff) ∷ (160, 0xf) ∷ (161, 1) ∷ (165, 2) ∷ (166, 3) ∷ (286, 0xffff) ∷ (361, 1) ∷ []
    )

abbrev unsound-65-rows-23 : List Row
unsound-65-rows-23 =
    refuses (write_distributor 1 0x104 4 0x80000000) 14
    ∷ refuses (write_distributor 1 0x61f8 4 0x10001) 14
    ∷ gives make 0
    ∷ []

unsound-65-chunk-23 : differs unsound-65-rows-23 unsound-65-state-23 (words 1760 []) ≡ 0
unfolding differs
unsound-65-chunk-23 = refl

abbrev unsound-65-state-24 : List ℕ
unsound-65-state-24 = words 1760 (
    (0, 1) ∷ (1, 0x420) ∷ (2, 5) ∷ (3, 3) ∷ (29, 0xffff) ∷ (32, 1) ∷ (33, 1) ∷ (37, 2) ∷ (38, 3) ∷ (61, 0xffff) ∷ (64, 0x10001) ∷ (65, 1) ∷ (67, 0xf8) ∷
    (69, 2) ∷ (70, 3) ∷ (73, 1) ∷ (93, 0xffff) ∷ (96, 0x200) ∷ (97, 1) ∷ (101, 2) ∷ (102, 3) ∷ (125, 0xffff) ∷ (128, 0xffff0f) ∷ (129, 1) ∷ (133, 2) ∷
    (134, 3) ∷ (157, 0xffff) ∷ (160, 0xf) ∷ (161, 1) ∷ (165, 2) ∷ (166, 3) ∷ (273, 0x80000000) ∷ (286, 0xffff) ∷ (799, 0x10001) ∷ []
    )

abbrev unsound-65-rows-24 : List Row
unsound-65-rows-24 =
    refuses (change_line 1 0x3f true) 14
    ∷ []

unsound-65-chunk-24 : differs unsound-65-rows-24 unsound-65-state-24 unsound-65-state-24 ≡ 0
unfolding differs
unsound-65-chunk-24 = refl

abbrev unsound-65-state-25 : List ℕ
unsound-65-state-25 = words 1760 (
    (0, 1) ∷ (1, 0x400) ∷ (2, 5) ∷ (3, 3) ∷ (29, 0xffff) ∷ (32, 1) ∷ (33, 1) ∷ (37, 2) ∷ (38, 3) ∷ (61, 0xffff) ∷ (64, 0x10001) ∷ (65, 1) ∷ (67, 0xf8) ∷
    (69, 2) ∷ (70, 3) ∷ (73, 1) ∷ (93, 0xffff) ∷ (96, 0x200) ∷ (97, 1) ∷ (101, 2) ∷ (102, 3) ∷ (125, 0xffff) ∷ (128, 0xffff0f) ∷ (129, 1) ∷ (133, 2) ∷
    (134, 3) ∷ (157, 0xffff) ∷ (160, 0xf) ∷ (161, 1) ∷ (165, 2) ∷ (166, 3) ∷ (273, 0x80000000) ∷ (274, 0x80000000) ∷ (276, 0x80000000) ∷ (286, 0xffff) ∷
    (799, 0x10001) ∷ (1757, 1) ∷ []
    )

abbrev unsound-65-rows-25 : List Row
unsound-65-rows-25 =
    refuses (read_system 1 0xc640) 14
    ∷ []

unsound-65-chunk-25 : differs unsound-65-rows-25 unsound-65-state-25 unsound-65-state-25 ≡ 0
unfolding differs
unsound-65-chunk-25 = refl

abbrev unsound-65-state-26 : List ℕ
unsound-65-state-26 = words 1760 (
    (0, 1) ∷ (1, 0x400) ∷ (2, 5) ∷ (3, 3) ∷ (29, 0xffff) ∷ (32, 1) ∷ (33, 1) ∷ (37, 2) ∷ (38, 3) ∷ (61, 0xffff) ∷ (64, 0x10001) ∷ (65, 1) ∷ (67, 0xf8) ∷
    (69, 2) ∷ (70, 3) ∷ (71, 1) ∷ (73, 1) ∷ (82, 0x8000) ∷ (93, 0xffff) ∷ (96, 0x200) ∷ (97, 1) ∷ (101, 2) ∷ (102, 3) ∷ (125, 0xffff) ∷ (128, 0xffff0f) ∷
    (129, 1) ∷ (132, 1) ∷ (133, 2) ∷ (134, 3) ∷ (157, 0xffff) ∷ (160, 0xf) ∷ (161, 1) ∷ (165, 2) ∷ (166, 3) ∷ (273, 0x80000000) ∷ (275, 0x80000000) ∷
    (276, 0x80000000) ∷ (286, 0xffff) ∷ (799, 0x10001) ∷ []
    )

abbrev unsound-65-rows-26 : List Row
unsound-65-rows-26 =
    refuses (change_line 1 0x11 true) 14
    ∷ gives make 0
    ∷ []

unsound-65-chunk-26 : differs unsound-65-rows-26 unsound-65-state-26 (words 1760 []) ≡ 0
unfolding differs
unsound-65-chunk-26 = refl

abbrev unsound-65-state-27 : List ℕ
unsound-65-state-27 = words 1760 (
    (0, 1) ∷ (1, 0x400) ∷ (2, 5) ∷ (3, 3) ∷ (29, 0xffff) ∷ (32, 1) ∷ (33, 1) ∷ (37, 2) ∷ (38, 3) ∷ (52, 0x20000) ∷ (61, 0xffff) ∷ (64, 0x10001) ∷
    (65, 1) ∷ (67, 0xf8) ∷ (69, 2) ∷ (70, 3) ∷ (71, 1) ∷ (73, 1) ∷ (82, 0x8000) ∷ (93, 0xffff) ∷ (96, 0x200) ∷ (97, 1) ∷ (101, 2) ∷ (102, 3) ∷
    (125, 0xffff) ∷ (128, 0xffff0f) ∷ (129, 1) ∷ (133, 2) ∷ (134, 3) ∷ (157, 0xffff) ∷ (159, 1) ∷ (160, 0xf) ∷ (161, 1) ∷ (165, 2) ∷ (166, 3) ∷
    (273, 0x80000000) ∷ (275, 0x80000000) ∷ (276, 0x80000000) ∷ (286, 0xffff) ∷ (799, 0x10001) ∷ []
    )

abbrev unsound-65-rows-27 : List Row
unsound-65-rows-27 =
    refuses (query_signal 4) 14
    ∷ []

unsound-65-chunk-27 : differs unsound-65-rows-27 unsound-65-state-27 unsound-65-state-27 ≡ 0
unfolding differs
unsound-65-chunk-27 = refl

abbrev unsound-65-state-28 : List ℕ
unsound-65-state-28 = words 1760 (
    (0, 1) ∷ (1, 0x420) ∷ (2, 5) ∷ (3, 3) ∷ (29, 0xffff) ∷ (32, 1) ∷ (33, 1) ∷ (37, 2) ∷ (38, 3) ∷ (52, 0x20000) ∷ (61, 0xffff) ∷ (64, 0x10001) ∷
    (65, 1) ∷ (67, 0xf8) ∷ (69, 2) ∷ (70, 3) ∷ (71, 1) ∷ (73, 1) ∷ (82, 0x8000) ∷ (93, 0xffff) ∷ (96, 0x200) ∷ (97, 1) ∷ (101, 2) ∷ (102, 3) ∷ (114, 1) ∷
    (125, 0xffff) ∷ (128, 0xffff0f) ∷ (129, 1) ∷ (133, 2) ∷ (134, 3) ∷ (157, 0xffff) ∷ (160, 0xf) ∷ (161, 1) ∷ (165, 2) ∷ (166, 3) ∷ (273, 0x80000000) ∷
    (276, 0x80000000) ∷ (286, 0xffff) ∷ (799, 0x10001) ∷ []
    )

abbrev unsound-65-rows-28 : List Row
unsound-65-rows-28 =
    refuses (write_system 4 0xc230 0xff) 14
    ∷ refuses (write_frame 4 4 0x10100 4 0x20000) 14
    ∷ gives make 0
    ∷ []

unsound-65-chunk-28 : differs unsound-65-rows-28 unsound-65-state-28 (words 1760 []) ≡ 0
unfolding differs
unsound-65-chunk-28 = refl

abbrev unsound-65-state-29 : List ℕ
unsound-65-state-29 = words 1760 (
    (0, 1) ∷ (1, 0x400) ∷ (2, 5) ∷ (3, 3) ∷ (29, 0xffff) ∷ (32, 1) ∷ (33, 1) ∷ (37, 2) ∷ (38, 3) ∷ (52, 0x20000) ∷ (61, 0xffff) ∷ (64, 0x10001) ∷
    (65, 1) ∷ (67, 0xf8) ∷ (69, 2) ∷ (70, 3) ∷ (71, 1) ∷ (73, 1) ∷ (82, 0x8000) ∷ (93, 0xffff) ∷ (96, 0x200) ∷ (97, 1) ∷ (101, 2) ∷ (102, 3) ∷ (114, 1) ∷
    (125, 0xffff) ∷ (128, 0xffff0f) ∷ (129, 1) ∷ (133, 2) ∷ (134, 3) ∷ (145, 0x20000) ∷ (157, 0xffff) ∷ (160, 0xf) ∷ (161, 1) ∷ (163, 0xf8) ∷ (165, 2) ∷
    (166, 3) ∷ (169, 1) ∷ (273, 0x80000000) ∷ (276, 0x80000000) ∷ (286, 0xffff) ∷ (606, 0x10000) ∷ (799, 0x10001) ∷ []
    )

abbrev unsound-65-rows-29 : List Row
unsound-65-rows-29 =
    refuses (change_line 4 0x11 true) 14
    ∷ []

unsound-65-chunk-29 : differs unsound-65-rows-29 unsound-65-state-29 unsound-65-state-29 ≡ 0
unfolding differs
unsound-65-chunk-29 = refl

abbrev unsound-65-state-30 : List ℕ
unsound-65-state-30 = words 1760 (
    (0, 1) ∷ (1, 0x400) ∷ (2, 5) ∷ (3, 3) ∷ (29, 0xffff) ∷ (32, 1) ∷ (33, 1) ∷ (37, 2) ∷ (38, 3) ∷ (52, 0x20000) ∷ (61, 0xffff) ∷ (64, 0x10001) ∷
    (65, 1) ∷ (67, 0xf8) ∷ (69, 2) ∷ (70, 3) ∷ (71, 1) ∷ (73, 1) ∷ (82, 0x8000) ∷ (93, 0xffff) ∷ (96, 0x200) ∷ (97, 1) ∷ (101, 2) ∷ (102, 3) ∷ (114, 1) ∷
    (125, 0xffff) ∷ (128, 0xffff0f) ∷ (129, 1) ∷ (133, 2) ∷ (134, 3) ∷ (145, 0x20000) ∷ (148, 0x20000) ∷ (157, 0xffff) ∷ (160, 0xf) ∷ (161, 1) ∷
    (163, 0xf8) ∷ (165, 2) ∷ (166, 3) ∷ (169, 1) ∷ (273, 0x80000000) ∷ (276, 0x80000000) ∷ (286, 0xffff) ∷ (601, 4) ∷ (799, 0x10001) ∷ []
    )

abbrev unsound-65-rows-30 : List Row
unsound-65-rows-30 =
    refuses (query_signal 4) 14
    ∷ []

unsound-65-chunk-30 : differs unsound-65-rows-30 unsound-65-state-30 unsound-65-state-30 ≡ 0
unfolding differs
unsound-65-chunk-30 = refl

abbrev unsound-65-state-31 : List ℕ
unsound-65-state-31 = words 1760 (
    (0, 1) ∷ (1, 0x400) ∷ (2, 5) ∷ (3, 3) ∷ (29, 0xffff) ∷ (32, 1) ∷ (33, 1) ∷ (37, 2) ∷ (38, 3) ∷ (52, 0x20000) ∷ (61, 0xffff) ∷ (64, 0x10001) ∷
    (65, 1) ∷ (67, 0xf8) ∷ (69, 2) ∷ (70, 3) ∷ (71, 1) ∷ (73, 1) ∷ (81, 0x20000) ∷ (82, 0x8000) ∷ (93, 0xffff) ∷ (96, 0x200) ∷ (97, 1) ∷ (101, 2) ∷
    (102, 3) ∷ (105, 1) ∷ (114, 1) ∷ (125, 0xffff) ∷ (128, 0xffff0f) ∷ (129, 1) ∷ (133, 2) ∷ (134, 3) ∷ (145, 0x20000) ∷ (147, 0x20000) ∷
    (148, 0x20000) ∷ (157, 0xffff) ∷ (160, 0xf) ∷ (161, 1) ∷ (163, 0xf8) ∷ (165, 2) ∷ (166, 3) ∷ (167, 1) ∷ (169, 1) ∷ (273, 0x80000000) ∷
    (276, 0x80000000) ∷ (286, 0xffff) ∷ (755, 0x10000000) ∷ (799, 0x10001) ∷ []
    )

abbrev unsound-65-rows-31 : List Row
unsound-65-rows-31 =
    refuses (write_frame 2 2 0x10410 4 0) 14
    ∷ refuses (write_frame 2 2 0x10200 4 0x20000) 14
    ∷ []

unsound-65-chunk-31 : differs unsound-65-rows-31 unsound-65-state-31 unsound-65-state-31 ≡ 0
unfolding differs
unsound-65-chunk-31 = refl

abbrev unsound-65-state-32 : List ℕ
unsound-65-state-32 = words 1760 (
    (0, 1) ∷ (1, 0x400) ∷ (2, 5) ∷ (3, 3) ∷ (29, 0xffff) ∷ (32, 1) ∷ (33, 1) ∷ (37, 2) ∷ (38, 3) ∷ (52, 0x20000) ∷ (61, 0xffff) ∷ (64, 0x10001) ∷
    (65, 1) ∷ (67, 0xf8) ∷ (69, 1) ∷ (70, 3) ∷ (71, 1) ∷ (73, 1) ∷ (81, 0x20000) ∷ (82, 0x28000) ∷ (93, 0xffff) ∷ (96, 0x200) ∷ (97, 1) ∷ (101, 2) ∷
    (102, 3) ∷ (105, 1) ∷ (114, 1) ∷ (125, 0xffff) ∷ (128, 0xffff0f) ∷ (129, 1) ∷ (133, 2) ∷ (134, 3) ∷ (145, 0x20000) ∷ (147, 0x20000) ∷
    (148, 0x20000) ∷ (157, 0xffff) ∷ (160, 0xf) ∷ (161, 1) ∷ (163, 0xf8) ∷ (165, 2) ∷ (166, 3) ∷ (167, 1) ∷ (169, 1) ∷ (273, 0x80000000) ∷
    (276, 0x80000000) ∷ (286, 0xffff) ∷ (755, 0x6f93778) ∷ (799, 0x10001) ∷ []
    )

abbrev unsound-65-rows-32 : List Row
unsound-65-rows-32 =
    refuses (write_frame 0 0 0x800 4 0xe1910232) 14
    ∷ refuses (read_frame 0 0 0x800 4) 14
    ∷ []

unsound-65-chunk-32 : differs unsound-65-rows-32 unsound-65-state-32 unsound-65-state-32 ≡ 0
unfolding differs
unsound-65-chunk-32 = refl

abbrev unsound-65-state-33 : List ℕ
unsound-65-state-33 = words 1760 (
    (0, 1) ∷ (1, 0x400) ∷ (2, 5) ∷ (3, 3) ∷ (29, 0xffff) ∷ (32, 1) ∷ (33, 1) ∷ (37, 2) ∷ (38, 3) ∷ (52, 0x20000) ∷ (61, 0xffff) ∷ (64, 0x10001) ∷
    (65, 1) ∷ (67, 0xf8) ∷ (69, 2) ∷ (70, 3) ∷ (71, 1) ∷ (73, 1) ∷ (81, 0x20000) ∷ (82, 0x28000) ∷ (93, 0xffff) ∷ (96, 0x200) ∷ (97, 1) ∷ (101, 2) ∷
    (102, 3) ∷ (105, 1) ∷ (113, 0x20000) ∷ (114, 1) ∷ (116, 0x20000) ∷ (125, 0xffff) ∷ (128, 0xffff0f) ∷ (129, 1) ∷ (131, 0xf8) ∷ (133, 2) ∷ (134, 3) ∷
    (137, 1) ∷ (145, 0x20000) ∷ (147, 0x20000) ∷ (148, 0x20000) ∷ (157, 0xffff) ∷ (160, 0xf) ∷ (161, 1) ∷ (163, 0xf8) ∷ (165, 2) ∷ (166, 3) ∷ (167, 1) ∷
    (169, 1) ∷ (273, 0x80000000) ∷ (276, 0x80000000) ∷ (286, 0xffff) ∷ (755, 0x6f93778) ∷ (766, 0x1000) ∷ (799, 0x10001) ∷ []
    )

abbrev unsound-65-rows-33 : List Row
unsound-65-rows-33 =
    refuses (query_signal 3) 14
    ∷ []

unsound-65-chunk-33 : differs unsound-65-rows-33 unsound-65-state-33 unsound-65-state-33 ≡ 0
unfolding differs
unsound-65-chunk-33 = refl

abbrev unsound-65-state-34 : List ℕ
unsound-65-state-34 = words 1760 (
    (0, 1) ∷ (1, 0x41) ∷ (2, 5) ∷ (3, 3) ∷ (29, 0xffff) ∷ (32, 1) ∷ (33, 1) ∷ (37, 2) ∷ (38, 3) ∷ (52, 0x20000) ∷ (61, 0xffff) ∷ (64, 0x10001) ∷
    (65, 1) ∷ (67, 0xf8) ∷ (69, 2) ∷ (70, 3) ∷ (71, 1) ∷ (73, 1) ∷ (81, 0x20000) ∷ (82, 0x28000) ∷ (93, 0xffff) ∷ (96, 0x200) ∷ (97, 1) ∷ (101, 2) ∷
    (102, 3) ∷ (105, 1) ∷ (113, 0x20000) ∷ (114, 1) ∷ (116, 0x20000) ∷ (125, 0xffff) ∷ (128, 0xffff0f) ∷ (129, 1) ∷ (131, 0xf8) ∷ (133, 2) ∷ (134, 3) ∷
    (137, 1) ∷ (145, 0x20000) ∷ (147, 0x20000) ∷ (148, 0x20000) ∷ (157, 0xffff) ∷ (160, 0xf) ∷ (161, 1) ∷ (163, 0xf8) ∷ (165, 2) ∷ (166, 3) ∷ (167, 1) ∷
    (169, 1) ∷ (273, 0x80000000) ∷ (276, 0x80000000) ∷ (286, 0xffff) ∷ (755, 0x6f93778) ∷ (799, 0x10001) ∷ []
    )

abbrev unsound-65-rows-34 : List Row
unsound-65-rows-34 =
    refuses (read_system 3 0xc640) 14
    ∷ gives make 0
    ∷ []

unsound-65-chunk-34 : differs unsound-65-rows-34 unsound-65-state-34 (words 1760 []) ≡ 0
unfolding differs
unsound-65-chunk-34 = refl

abbrev unsound-65-state-35 : List ℕ
unsound-65-state-35 = words 1760 (
    (0, 1) ∷ (1, 0x400) ∷ (2, 5) ∷ (3, 3) ∷ (4, 0x10) ∷ (29, 0xffff) ∷ (32, 1) ∷ (33, 1) ∷ (37, 2) ∷ (38, 3) ∷ (52, 0x20000) ∷ (61, 0xffff) ∷
    (64, 0x10001) ∷ (65, 1) ∷ (67, 0xf8) ∷ (69, 2) ∷ (70, 3) ∷ (71, 1) ∷ (73, 1) ∷ (81, 0x20000) ∷ (82, 0x28000) ∷ (93, 0xffff) ∷ (96, 0x200) ∷ (97, 1) ∷
    (101, 2) ∷ (102, 3) ∷ (105, 1) ∷ (113, 0x20000) ∷ (114, 1) ∷ (116, 0x20000) ∷ (125, 0xffff) ∷ (128, 0xffff0f) ∷ (129, 1) ∷ (131, 0xf8) ∷ (133, 2) ∷
    (134, 3) ∷ (137, 1) ∷ (145, 0x20000) ∷ (148, 0x20000) ∷ (157, 0xffff) ∷ (160, 0xf) ∷ (161, 1) ∷ (163, 0xf8) ∷ (165, 2) ∷ (166, 3) ∷ (169, 1) ∷
    (273, 0x80000000) ∷ (274, 0x80000000) ∷ (276, 0x80000000) ∷ (286, 0xffff) ∷ (755, 0x6f93778) ∷ (799, 0xffff0f) ∷ []
    )

abbrev unsound-65-rows-35 : List Row
unsound-65-rows-35 =
    refuses (write_frame 4 4 0x1000 4 0x9253aa33) 14
    ∷ refuses (read_frame 4 4 0x1000 4) 14
    ∷ []

unsound-65-chunk-35 : differs unsound-65-rows-35 unsound-65-state-35 unsound-65-state-35 ≡ 0
unfolding differs
unsound-65-chunk-35 = refl

abbrev unsound-65-state-36 : List ℕ
unsound-65-state-36 = words 1760 (
    (0, 1) ∷ (1, 0x400) ∷ (2, 5) ∷ (3, 3) ∷ (29, 0xffff) ∷ (32, 1) ∷ (33, 1) ∷ (37, 2) ∷ (38, 3) ∷ (49, 0x20000) ∷ (52, 0x20000) ∷ (61, 0xffff) ∷
    (64, 0x1000000) ∷ (65, 1) ∷ (67, 0xf8) ∷ (69, 2) ∷ (70, 3) ∷ (73, 1) ∷ (81, 0x20000) ∷ (82, 0x28000) ∷ (93, 0xffff) ∷ (96, 0x200) ∷ (97, 1) ∷
    (101, 2) ∷ (102, 3) ∷ (105, 1) ∷ (113, 0x20000) ∷ (114, 1) ∷ (116, 0x20000) ∷ (125, 0xffff) ∷ (128, 0xffff0f) ∷ (129, 1) ∷ (131, 0xf8) ∷ (133, 2) ∷
    (134, 3) ∷ (137, 1) ∷ (145, 0x20000) ∷ (148, 0x20000) ∷ (157, 0xffff) ∷ (160, 0xf) ∷ (161, 1) ∷ (163, 0xf8) ∷ (165, 2) ∷ (166, 3) ∷ (169, 1) ∷
    (273, 0x80000000) ∷ (274, 0x80000000) ∷ (276, 0x80000000) ∷ (286, 0xffff) ∷ (755, 0x6f93778) ∷ (799, 0xffff0f) ∷ []
    )

abbrev unsound-65-rows-36 : List Row
unsound-65-rows-36 =
    refuses (read_system 1 0xc640) 14
    ∷ []

unsound-65-chunk-36 : differs unsound-65-rows-36 unsound-65-state-36 unsound-65-state-36 ≡ 0
unfolding differs
unsound-65-chunk-36 = refl

abbrev unsound-65-state-37 : List ℕ
unsound-65-state-37 = words 1760 (
    (0, 1) ∷ (1, 0x400) ∷ (2, 5) ∷ (3, 3) ∷ (29, 0xffff) ∷ (32, 1) ∷ (33, 1) ∷ (37, 2) ∷ (38, 3) ∷ (49, 0x20000) ∷ (51, 0x20000) ∷ (52, 0x20000) ∷
    (61, 0xffff) ∷ (64, 0x10001) ∷ (65, 1) ∷ (67, 0xf8) ∷ (69, 2) ∷ (70, 3) ∷ (71, 1) ∷ (73, 1) ∷ (81, 0x20000) ∷ (82, 0x28000) ∷ (93, 0xffff) ∷
    (96, 0x10) ∷ (97, 1) ∷ (101, 2) ∷ (102, 3) ∷ (105, 1) ∷ (113, 0x20000) ∷ (114, 1) ∷ (116, 0x20000) ∷ (125, 0xffff) ∷ (128, 0xffff0f) ∷ (129, 1) ∷
    (131, 0xf8) ∷ (133, 2) ∷ (134, 3) ∷ (137, 1) ∷ (145, 0x20000) ∷ (148, 0x20000) ∷ (157, 0xffff) ∷ (160, 0xf) ∷ (161, 1) ∷ (163, 0xf8) ∷ (165, 2) ∷
    (166, 3) ∷ (169, 1) ∷ (273, 0x80000000) ∷ (274, 0x80000000) ∷ (276, 0x80000000) ∷ (286, 0xffff) ∷ (755, 0x6f93778) ∷ (799, 0xffff0f) ∷ []
    )

abbrev unsound-65-rows-37 : List Row
unsound-65-rows-37 =
    refuses (read_system 1 0xc65b) 14
    ∷ []

unsound-65-chunk-37 : differs unsound-65-rows-37 unsound-65-state-37 unsound-65-state-37 ≡ 0
unfolding differs
unsound-65-chunk-37 = refl

abbrev unsound-65-state-38 : List ℕ
unsound-65-state-38 = words 1760 (
    (0, 1) ∷ (1, 0x400) ∷ (2, 5) ∷ (3, 3) ∷ (29, 0xffff) ∷ (32, 1) ∷ (33, 1) ∷ (37, 2) ∷ (38, 3) ∷ (49, 0x20000) ∷ (51, 0x20000) ∷ (52, 0x20000) ∷
    (61, 0xffff) ∷ (64, 0x10001) ∷ (65, 1) ∷ (67, 0xf8) ∷ (69, 8) ∷ (70, 3) ∷ (73, 1) ∷ (81, 0x20000) ∷ (82, 0x8000) ∷ (83, 0x20000) ∷ (93, 0xffff) ∷
    (96, 0x200) ∷ (97, 1) ∷ (99, 0xf8) ∷ (101, 6) ∷ (102, 3) ∷ (103, 1) ∷ (105, 1) ∷ (113, 0x20000) ∷ (114, 1) ∷ (116, 0x20000) ∷ (125, 0xffff) ∷
    (128, 0xffff0f) ∷ (129, 1) ∷ (131, 0xf8) ∷ (133, 2) ∷ (134, 3) ∷ (137, 1) ∷ (145, 0x20000) ∷ (147, 0x20000) ∷ (148, 0x20000) ∷ (157, 0xffff) ∷
    (160, 0xf) ∷ (161, 1) ∷ (163, 0xf8) ∷ (165, 2) ∷ (166, 3) ∷ (167, 1) ∷ (169, 1) ∷ (273, 0x80000000) ∷ (276, 0x80000000) ∷ (286, 0xffff) ∷
    (799, 0x200) ∷ []
    )

abbrev unsound-65-rows-38 : List Row
unsound-65-rows-38 =
    refuses (write_distributor 4 0xc04 4 0xcd39b52c) 14
    ∷ refuses (read_distributor 3 0xc04 4) 14
    ∷ gives make 0
    ∷ []

unsound-65-chunk-38 : differs unsound-65-rows-38 unsound-65-state-38 (words 1760 []) ≡ 0
unfolding differs
unsound-65-chunk-38 = refl

abbrev unsound-65-rows-39 : List Row
unsound-65-rows-39 =
    refuses (write_system 1 0xc65d 0x1ff00ffffff) 14
    ∷ refuses (read_distributor 2 0x61f8 4) 14
    ∷ []

unsound-65-chunk-39 : differs unsound-65-rows-39 unsound-65-state-21 unsound-65-state-21 ≡ 0
unfolding differs
unsound-65-chunk-39 = refl

abbrev unsound-65-state-40 : List ℕ
unsound-65-state-40 = words 1760 (
    (0, 1) ∷ (1, 0x400) ∷ (2, 5) ∷ (3, 3) ∷ (18, 3) ∷ (29, 0xffff) ∷ (32, 1) ∷ (37, 2) ∷ (38, 3) ∷ (49, 0x20000) ∷ (50, 0x8009) ∷ (52, 0x20000) ∷
    (61, 0xffff) ∷ (64, 0x10001) ∷ (67, 0xf8) ∷ (69, 2) ∷ (70, 3) ∷ (73, 1) ∷ (81, 0x20000) ∷ (82, 0x8009) ∷ (83, 0x20000) ∷ (93, 0xffff) ∷ (96, 0x200) ∷
    (99, 0xf8) ∷ (101, 1) ∷ (102, 3) ∷ (103, 1) ∷ (105, 1) ∷ (113, 0x20000) ∷ (114, 0x8009) ∷ (115, 0x20000) ∷ (116, 0x20000) ∷ (125, 0xffff) ∷
    (128, 0xffff0f) ∷ (131, 0xf8) ∷ (133, 2) ∷ (134, 3) ∷ (135, 1) ∷ (137, 1) ∷ (145, 0x20000) ∷ (146, 0x800b) ∷ (148, 0x20000) ∷ (157, 0xffff) ∷
    (160, 0xf) ∷ (163, 0xf8) ∷ (165, 2) ∷ (166, 3) ∷ (169, 1) ∷ (273, 0x80000001) ∷ (274, 0x80000000) ∷ (276, 0x80000000) ∷ (286, 0xffff) ∷
    (752, 0x24cdb1d) ∷ (799, 0xffff0f) ∷ []
    )

abbrev unsound-65-rows-40 : List Row
unsound-65-rows-40 =
    refuses (set_attribute 1 0x100010c04 0x80000000) 14
    ∷ refuses (get_attribute 1 0x100010c04) 14
    ∷ gives make 0
    ∷ []

unsound-65-chunk-40 : differs unsound-65-rows-40 unsound-65-state-40 (words 1760 []) ≡ 0
unfolding differs
unsound-65-chunk-40 = refl

abbrev unsound-65-state-41 : List ℕ
unsound-65-state-41 = words 1760 (
    (0, 1) ∷ (1, 0x400) ∷ (2, 5) ∷ (3, 3) ∷ (18, 3) ∷ (29, 0xffff) ∷ (32, 1) ∷ (37, 2) ∷ (38, 3) ∷ (49, 0x20000) ∷ (50, 0x8009) ∷ (52, 0x20000) ∷
    (61, 0xffff) ∷ (64, 0x10001) ∷ (67, 0xf8) ∷ (69, 2) ∷ (70, 3) ∷ (73, 1) ∷ (81, 0x20000) ∷ (82, 0x8009) ∷ (83, 0x20000) ∷ (93, 0xffff) ∷ (96, 0x200) ∷
    (99, 0xf8) ∷ (101, 2) ∷ (102, 3) ∷ (103, 1) ∷ (105, 1) ∷ (113, 0x20000) ∷ (114, 0x8009) ∷ (115, 0x20000) ∷ (116, 0x20000) ∷ (125, 0xffff) ∷
    (128, 0xffff0f) ∷ (131, 0xf8) ∷ (132, 1) ∷ (133, 2) ∷ (134, 3) ∷ (135, 1) ∷ (137, 1) ∷ (145, 0x20000) ∷ (146, 0x800b) ∷ (148, 0x20000) ∷
    (157, 0xffff) ∷ (160, 0xf) ∷ (163, 0xf8) ∷ (165, 2) ∷ (166, 3) ∷ (169, 1) ∷ (273, 0x80000001) ∷ (274, 0x80000000) ∷ (276, 0x80000000) ∷
    (286, 0xffff) ∷ (752, 0x24cdb1d) ∷ (799, 0xffff0f) ∷ []
    )

abbrev unsound-65-rows-41 : List Row
unsound-65-rows-41 =
    refuses (get_attribute 6 0x100010010c662) 14
    ∷ refuses (get_attribute 3 0x1ea781173) 14
    ∷ []

unsound-65-chunk-41 : differs unsound-65-rows-41 unsound-65-state-41 unsound-65-state-41 ≡ 0
unfolding differs
unsound-65-chunk-41 = refl

abbrev unsound-65-state-42 : List ℕ
unsound-65-state-42 = words 1760 (
    (0, 1) ∷ (1, 0x400) ∷ (2, 5) ∷ (3, 3) ∷ (18, 3) ∷ (29, 0xffff) ∷ (32, 1) ∷ (37, 2) ∷ (38, 3) ∷ (49, 0x20000) ∷ (50, 0x8009) ∷ (52, 0x20000) ∷
    (61, 0xffff) ∷ (64, 0x10001) ∷ (67, 0xf8) ∷ (69, 2) ∷ (70, 3) ∷ (73, 1) ∷ (81, 0x20000) ∷ (82, 0x8009) ∷ (83, 0x20000) ∷ (93, 0xffff) ∷ (96, 0x200) ∷
    (99, 0xf8) ∷ (101, 2) ∷ (102, 3) ∷ (103, 1) ∷ (105, 1) ∷ (113, 0x20000) ∷ (114, 0x8009) ∷ (115, 0x20000) ∷ (116, 0x20000) ∷ (124, 0xc818e888) ∷
    (125, 0xffff) ∷ (128, 0xffff0f) ∷ (131, 0xf8) ∷ (133, 2) ∷ (134, 3) ∷ (135, 1) ∷ (137, 1) ∷ (145, 0x20000) ∷ (146, 0x800b) ∷ (148, 0x20000) ∷
    (157, 0xffff) ∷ (160, 0xf) ∷ (161, 2) ∷ (163, 0xf8) ∷ (165, 2) ∷ (166, 3) ∷ (169, 1) ∷ (273, 0x80000001) ∷ (274, 0x80000000) ∷ (276, 0x80000000) ∷
    (286, 0xffff) ∷ (752, 0x24cdb1d) ∷ (799, 0xffff0f) ∷ []
    )

abbrev unsound-65-rows-42 : List Row
unsound-65-rows-42 =
    refuses (get_attribute 1 0x100010000040c) 14
    ∷ refuses (get_attribute 1 0x20000000200) 14
    ∷ []

unsound-65-chunk-42 : differs unsound-65-rows-42 unsound-65-state-42 unsound-65-state-42 ≡ 0
unfolding differs
unsound-65-chunk-42 = refl

abbrev unsound-65-state-43 : List ℕ
unsound-65-state-43 = words 1760 (
    (0, 1) ∷ (2, 5) ∷ (18, 0x8003) ∷ (25, 0x4000) ∷ (29, 0xffff) ∷ (32, 1) ∷ (35, 8) ∷ (37, 2) ∷ (38, 3) ∷ (49, 0x20000) ∷ (50, 0x8009) ∷ (52, 0x20000) ∷
    (61, 0xffff) ∷ (64, 0x10001) ∷ (67, 0xf8) ∷ (69, 2) ∷ (70, 3) ∷ (73, 1) ∷ (81, 0x20000) ∷ (82, 0x8009) ∷ (83, 0x20000) ∷ (93, 0xffff) ∷ (96, 0x200) ∷
    (99, 0xf8) ∷ (101, 2) ∷ (102, 3) ∷ (103, 1) ∷ (105, 1) ∷ (113, 0x20000) ∷ (114, 0x8009) ∷ (116, 0x20000) ∷ (124, 0xc818e888) ∷ (125, 0xffff) ∷
    (128, 0xffff0f) ∷ (131, 0xf0) ∷ (133, 2) ∷ (134, 3) ∷ (137, 1) ∷ (145, 0x20000) ∷ (146, 0x800b) ∷ (157, 0xffff) ∷ (160, 0xf) ∷ (163, 0xf8) ∷
    (165, 2) ∷ (166, 5) ∷ (169, 1) ∷ (273, 0x80000001) ∷ (274, 0x80000000) ∷ (276, 0x80000000) ∷ (286, 0xffff) ∷ (752, 0x24cdb1d) ∷ (799, 0x200) ∷ []
    )

abbrev unsound-65-rows-43 : List Row
unsound-65-rows-43 =
    refuses (set_attribute 5 0xffff0f0001041c 0x10000000) 14
    ∷ refuses (get_attribute 5 0xffff0f0001041c) 14
    ∷ []

unsound-65-chunk-43 : differs unsound-65-rows-43 unsound-65-state-43 unsound-65-state-43 ≡ 0
unfolding differs
unsound-65-chunk-43 = refl
