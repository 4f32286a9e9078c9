-- The k-th part of the table, zone by zone; how many parts there are, and how many values; the numbers of a stopped device.
use Prim.Native.Nat.{ℕ, zero, suc, ◌+◌, ◌-◌, ◌*◌, ◌/◌, ◌<◌, ◌≤◌}
use mathlib.Core.Path.{◌≡◌, refl, sym, ◌∙◌}
use mathlib.Core.List.{List, [], ◌∷◌, ◌++◌}
use mathlib.Core.Bool.{Bool, true, false, cond}
use native.Mathlib.Omega.{arith}
use native.Mathlib.Decide.{dec_lt}
use native.Mathlib.Nat.{zero-add}
use borrow.Author.Tests.{lt-ltb, le-ltb, eq-eqb, ne_eqb}
use lib.Dec.{eqb}
use lib.ListN.{length, get_or, length-append}
use Rattle.model.specs.Words.{each}
use Rattle.model.specs.Values.{route_bits}
use Rattle.model.specs.Layout.{route_at, most_vcpus, count, vcpus}
use Rattle.model.specs.Demands.{Stopped}
use Rattle.model.proofs.Soundness.{stopped-ready}
use Rattle.model.specs.Record.{spi_words, spis}
use Rattle.record.specs.Table.{slot, flat, blank, affinity_part, header_part, distributor_parts, bank_parts, routes_part, vcpu_parts, interrupt_part, parts, slots}
use Rattle.record.specs.declared.table.Part.{Part}
use Rattle.record.specs.declared.table.Kind.TheVariants.{SetUp, Within}
use Rattle.record.proofs.Lists.{past, before, length-each, each_at, length_run, run_at}
use Rattle.record.proofs.Walking.{flat_append, flat-each}

-- ---- how many parts and values a block has

either_way : {A B : Type 0} (f : A → B) (b : Bool) (x y : A) (m : B) → f x ≡ m → f y ≡ m → f (cond b x y) ≡ m
either_way f true x y m p q = p
either_way f false x y m p q = q

size-bank : (w : ℕ) → length (bank_parts w) ≡ 2
unfolding bank_parts
size-bank w = either_way length (eqb w 31) _ _ 2 refl refl

size-vcpu : (v : ℕ) → length (vcpu_parts v) ≡ 5
unfolding vcpu_parts
size-vcpu v = refl

values-bank : (w : ℕ) → length (flat (bank_parts w)) ≡ 15
unfolding bank_parts flat each
values-bank w = either_way (λ ps. length (flat ps)) (eqb w 31) _ _ 15 refl refl

values-vcpu : (v : ℕ) → length (flat (vcpu_parts v)) ≡ 22
unfolding vcpu_parts flat each
values-vcpu v = refl

values-distributor : length (flat distributor_parts) ≡ 2
unfolding flat each
values-distributor = refl

-- ---- the header

abbrev header_parts : ℕ → List Part
header_parts n = header_part 0 ∷ header_part 1 ∷ each (λ v. affinity_part v ∷ []) 0 n

length-header : (n : ℕ) → length (header_parts n) ≡ 2 + n
length-header n = rw (length_run blank affinity_part 0 n) (omega arith)

header_at : (n k : ℕ) → k < 2 + n → get_or (header_parts n) k blank ≡ header_part k
header_at n zero l = refl
header_at n (suc zero) l = refl
header_at n (suc (suc k)) l =
    let z : suc (suc k) - 2 ≡ k = omega arith in
    run_at blank affinity_part 0 n k (omega arith) ∙ rw (zero-add k, ne_eqb (suc (suc k)) 0 (λ e. omega arith), ne_eqb (suc (suc k)) 1 (λ e. omega arith), z)

module _ (c n : ℕ) where
  -- ---- the parts after the distributor's

  abbrev from-banks : List Part
  from-banks = each bank_parts 1 (spi_words c) ++ (routes_part c ∷ each vcpu_parts 0 n)

  length-banks : length (each bank_parts 1 (spi_words c)) ≡ 2 * spi_words c
  length-banks = length-each blank bank_parts 2 size-bank 1 (spi_words c)

  after-banks : (i : ℕ) → 2 * spi_words c ≤ i → get_or from-banks i blank ≡ get_or (routes_part c ∷ each vcpu_parts 0 n) (i - 2 * spi_words c) blank
  after-banks i h = past blank (each bank_parts 1 (spi_words c)) _ (2 * spi_words c) i length-banks h

  interrupt-at : (i : ℕ) → i < 2 * spi_words c + 1 + 5 * n → get_or from-banks i blank ≡ interrupt_part c i
  unfolding interrupt_part
  interrupt-at i l = go (dec_lt i (2 * spi_words c)) (dec_lt i (2 * spi_words c + 1))
    where
      go : Dec (i < 2 * spi_words c) → Dec (i < 2 * spi_words c + 1) → get_or from-banks i blank ≡ interrupt_part c i
      go (yes p) q =
          before blank (each bank_parts 1 (spi_words c)) _ (2 * spi_words c) i length-banks p
          ∙ each_at blank bank_parts 2 size-bank (omega arith) 1 (spi_words c) i p ∙ rw (lt-ltb i (2 * spi_words c) p)
      go (no p) (yes q) =
          let e : i ≡ 2 * spi_words c = omega arith in
          let z : i - 2 * spi_words c ≡ 0 = omega arith in
          after-banks i (omega arith) ∙ rw (z, le-ltb i (2 * spi_words c) (omega arith), eq-eqb i (2 * spi_words c) e)
      go (no p) (no q) =
          let j = i - (2 * spi_words c + 1) in
          let z : i - 2 * spi_words c ≡ suc j = omega arith in
          after-banks i (omega arith) ∙ rw (z, le-ltb i (2 * spi_words c) (omega arith), ne_eqb i (2 * spi_words c) (λ e. omega arith))
          (each_at blank vcpu_parts 5 size-vcpu (omega arith) 0 n j (omega arith) ∙ rw (zero-add (j / 5)))

  -- ---- how many

  pub length-parts : length (parts c n) ≡ 5 + 6 * n + 2 * spi_words c
  unfolding parts
  length-parts =
      rw (
        length-append (header_parts n) (distributor_parts ++ from-banks),
        length-header n,
        length-append (each bank_parts 1 (spi_words c)) (routes_part c ∷ each vcpu_parts 0 n),
        length-banks,
        length-each blank vcpu_parts 5 size-vcpu 0 n,
      ) (omega arith)

  values-header : length (flat (header_parts n)) ≡ 3 + n
  unfolding flat each affinity_part
  values-header = rw (flat-each (λ v. affinity_part v ∷ []) 0 n, length-each (slot 0 SetUp 0) (λ v. flat (affinity_part v ∷ [])) 1 (λ v. refl) 0 n) (omega arith)

  values-routes : length (flat (routes_part c ∷ each vcpu_parts 0 n)) ≡ spis c + 22 * n
  unfolding flat
  values-routes =
      rw (length-append, length_run (slot 0 SetUp 0) (λ j. slot (route_at 32 + 0 + j) (Within route_bits) (0 + j)) 0 (spis c), flat-each vcpu_parts 0 n, length-each (slot 0 SetUp 0) (λ v. flat (vcpu_parts v)) 22 values-vcpu 0 n)

  pub length-slots : length (slots c n) ≡ 5 + 23 * n + 15 * spi_words c + spis c
  unfolding parts
  length-slots =
      rw (
        flat_append (header_parts n) (distributor_parts ++ from-banks),
        length-append,
        values-header,
        flat_append distributor_parts from-banks,
        length-append (flat distributor_parts),
        values-distributor,
        flat_append (each bank_parts 1 (spi_words c)) (routes_part c ∷ each vcpu_parts 0 n),
        length-append (flat (each bank_parts 1 (spi_words c))),
        flat-each bank_parts 1 (spi_words c),
        length-each (slot 0 SetUp 0) (λ v. flat (bank_parts v)) 15 values-bank 1 (spi_words c),
        values-routes,
      ) (omega arith)

  -- ---- the part by its number

  module _ (k : ℕ) (r : Part) where
    pub part-header : k < 2 + n → r ≡ header_part k → r ≡ get_or (parts c n) k blank
    unfolding parts
    part-header l e = e ∙ sym (before blank (header_parts n) _ (2 + n) k (length-header n) l ∙ header_at n k l)

    after-header : 2 + n ≤ k → get_or (parts c n) k blank ≡ get_or (distributor_parts ++ from-banks) (k - (2 + n)) blank
    unfolding parts
    after-header l = past blank (header_parts n) _ (2 + n) k (length-header n) l

    pub part-distributor : 2 + n ≤ k → k < 2 + n + 2 → r ≡ get_or distributor_parts (k - (2 + n)) blank → r ≡ get_or (parts c n) k blank
    part-distributor l m e = e ∙ sym (after-header l ∙ before blank distributor_parts from-banks 2 (k - (2 + n)) refl (omega arith))

    pub part-interrupt : 2 + n + 2 ≤ k → k < length (parts c n) → r ≡ interrupt_part c (k - (2 + n + 2)) → r ≡ get_or (parts c n) k blank
    part-interrupt l m e =
        let z : k - (2 + n) - 2 ≡ k - (2 + n + 2) = omega arith in
        e ∙ sym (after-header (omega arith) ∙ past blank distributor_parts from-banks 2 (k - (2 + n)) refl (omega arith)
        ∙ rw z (interrupt-at (k - (2 + n + 2)) (omega (arith, rw length-parts at m))))

-- ---- what is known of a stopped device

module _ (s : List ℕ) (h : Stopped s) where
  pub count-least : 64 ≤ count s
  count-least = (stopped-ready s h).counted.least

  pub count-most : count s ≤ 1024
  count-most = (stopped-ready s h).counted.most

  pub vcpus-few : vcpus s ≤ most_vcpus
  vcpus-few = (stopped-ready s h).few

-- ---- what the methods of a shape cite: its numbers, how many parts and values there are, part k

pub ruleset numbers = (count-least, count-most, vcpus-few)

pub ruleset sizes = (length-parts, length-slots)

pub ruleset parts_by_number = (length-parts, part-header, part-distributor, part-interrupt)
