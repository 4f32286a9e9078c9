-- Each entry of the record has its slot: a number that the set-up fixes, or the place of a listed attribute with the kind of the word there.
use Prim.Native.Nat.{ℕ, zero, suc, ◌+◌, ◌*◌, ◌-◌, ◌/◌, ◌%◌, ◌≤◌, ◌<◌, min}
use mathlib.Core.Path.{◌≡◌, refl, ap, ◌∙◌}
use mathlib.Core.Bool.{true, cond}
use mathlib.Core.List.{List, [], ◌∷◌, ◌++◌}
use native.Mathlib.Omega.{arith}
use native.Mathlib.Decide.{ℕ_discrete, dec_lt}
use borrow.Author.Tests.{eq-eqb, ne_eqb, lt-ltb, le-ltb}
use lib.Dec.{eqb, ltb}
use lib.ListN.{get_or, get_or-eq_default}
use Rattle.model.specs.Words.{each}
use Rattle.model.specs.Values.{gicd_ctlr_fixed, gicd_ctlr_bits, icc_ctlr_fixed, icc_ctlr_bits, route_bits, statusr_bits, pmr_bits}
use Rattle.model.specs.Layout.{word, count, vcpus, affinity, affinity_at, block, spi_bank, route_at}
use Rattle.model.specs.Sound.{fits, used_bits, fresh_bits, header_bits, fresh_header_bits, fresh_block_bits, block_bits, entry}
use Rattle.model.specs.Attributes.{Attribute}
use Rattle.model.specs.Record.{spi_words, spis, of_spi_word, of_route, of_vcpu_block, listed, Entry, header, attribute_of, entries}
use Rattle.model.specs.Demands.{Alike}
use Rattle.model.proofs.Soundness.{Ready, word-used, open-vcpu}
use Rattle.model.proofs.Masks.{SpiWord, header-bits, block-is, bank-is, route-bits, entry-there, fresh-block-bits}
use Rattle.model.proofs.Stores.{MayStore, Free, Outside, block-store, outside-store}
use Rattle.model.proofs.Listed.{Listed, groups, enables, latches, actives, pmr, ctlr, bpr0, bpr1, ap0r, ap1r, igrpen0, igrpen1, control, status, spi-flags, spi-lines, spi-priority, spi-config, spi-route, vcpu-status, vcpu-flags, vcpu-lines, vcpu-priority, vcpu-system}
use Rattle.model.proofs.Places.{Shape, itself, above, place_of, shape_of}
use Rattle.model.proofs.Places as places
use Rattle.record.specs.Table.{field_bits, field_least, shown, least_of, Slot, slot, slots_in, flat, affinity_part, distributor_parts, bank_rows, bank_parts, routes_part, vcpu_parts, parts, slots}
use Rattle.record.specs.declared.table.Block.{Block}
use Rattle.record.specs.declared.table.Block.TheVariants.{Vcpu, Bank, LastBank}
use Rattle.record.specs.declared.table.Kind.{Kind}
use Rattle.record.specs.declared.table.Kind.TheVariants.{Exactly, SetUp, Within, Fields, Above, Edges}
use Rattle.record.proofs.Lists.{Match, none, one, match-append, match-each, match-map}
use Rattle.record.proofs.Walking.{flat_append, flat-each}
use Rattle.record.proofs.Shapes.{mask_of, Tidy}

-- ---- what the kind says of the word at a listed attribute's place

pub record KindOf (s : List ℕ) (p : ℕ) (shape : Shape) (k : Kind) (f : ℕ) : Type 0 where
  pub alike : (w : ℕ) → shown k w ≡ places.shown shape w
  pub tidy : Tidy k f
  pub mask : used_bits (count s) (vcpus s) p ≡ mask_of k f
  pub start : fresh_bits (vcpus s) p ≡ least_of k f
  pub least : (d : List ℕ) → Ready d → vcpus d ≡ vcpus s → least_of k f ≤ word d p
  pub store : (w : ℕ) → fits w (mask_of k f) ≡ true → least_of k f ≤ w → MayStore s p w

-- a word that the set-up fixes is the same in every device of that set-up
pub data Means (s : List ℕ) : Entry → Slot → Type 0 where
  versions : {x p f : ℕ} → Means s (header x) (slot p (Exactly x) f)
  fixes : {x p f : ℕ} → x ≡ word s p → ((d : List ℕ) → Alike s d → word d p ≡ word s p) → Means s (header x) (slot p SetUp f)
  lists : {a : Attribute} {p : ℕ} {k : Kind} {f : ℕ} (l : Listed s a) → p ≡ place_of l → KindOf s (place_of l) (shape_of l) k f → Means s (attribute_of a) (slot p k f)

-- outside the blocks a fresh device has no bit
outside-fresh : (n p : ℕ) → Outside p → fresh_bits n p ≡ 0
unfolding fresh_bits entry
outside-fresh n p o = go (dec_lt p 16) (dec_lt p 272)
  where
    go : Dec (p < 16) → Dec (p < 272) → fresh_bits n p ≡ 0
    go (yes a) b = rw (lt-ltb p 16 a) (get_or-eq_default fresh_header_bits 0 o.past)
    go (no a) (yes b) = absurd (o.apart ((p - 16) / 32) ((p - 16) % 32) (omega arith) (omega arith) (omega arith))
    go (no a) (no b) = rw (le-ltb p 16 (omega arith), le-ltb p 272 (omega arith))

module _ (s : List ℕ) (h : Ready s) where
  outside-kind : (p : ℕ) (shape : Shape) (k : Kind) (f : ℕ) → Outside p → least_of k f ≡ 0 → Tidy k f → used_bits (count s) (vcpus s) p ≡ mask_of k f
      → ((w : ℕ) → shown k w ≡ places.shown shape w) → KindOf s p shape k f
  outside-kind p shape k f o z t m a = record {
    alike = a;
    tidy = t;
    mask = m;
    start = rw z (outside-fresh (vcpus s) p o);
    least = λ d hd e. omega arith;
    store = λ w q l. outside-store s h.few p w o (rw (word-used s h.mark p w, m) q);
  }

  in_block : (v : ℕ) {a : Attribute} (l : Listed s a) (f i : ℕ) (k : Kind) → v < vcpus s → place_of l ≡ block v + (f + i) → ((w : ℕ) → least_of k (f + i) ≤ w → Free (f + i) w)
      → ((d : List ℕ) → Ready d → v < vcpus d → least_of k (f + i) ≤ word d (block v + (f + i)))
      → Tidy k (f + i) → get_or block_bits (f + i) 0 ≡ mask_of k (f + i) → get_or fresh_block_bits (f + i) 0 ≡ least_of k (f + i)
      → ((w : ℕ) → shown k w ≡ places.shown (shape_of l) w) → Means s (attribute_of a) (slot (block v + f + i) k (f + i))
  in_block v l f i k q e free most t m z a = lists {p = block v + f + i} l (omega arith) (record {
    alike = a;
    tidy = t;
    mask = rw e (block-is s h v (f + i) q (free (least_of k (f + i)) (omega arith)).small ∙ m);
    start = rw e (fresh-block-bits (vcpus s) v (f + i) (omega (arith, h.few)) (free (least_of k (f + i)) (omega arith)).small
        ∙ entry-there (ltb v (vcpus s)) fresh_block_bits (f + i) (lt-ltb v (vcpus s) q) ∙ z);
    least = λ d hd n. rw e (most d hd (rw n q));
    store = λ w g n.
        rw e (block-store s h.few v (f + i) w q (free w n)
        (rw (word-used s h.mark (block v + (f + i)) w, block-is s h v (f + i) q (free w n).small, m) g));
  })

  -- ---- part by part

  abbrev Lists : List Attribute → List Slot → Type 0
  Lists = Match (λ a x. Means s (attribute_of a) x)

  module _ (w : ℕ) (q : SpiWord s w) where
    -- whichever bank it is
    module _ (b : Block) (masks : (j : ℕ) → j < 15 → used_bits (count s) (vcpus s) (256 + 16 * w + j) ≡ field_bits b j) (none-least : (j : ℕ) → field_least b j ≡ 0)
        (sixteen : field_bits b 13 < 0x10000) (last : field_bits b 14 < 0x10000) where
      in-bank : {a : Attribute} (l : Listed s a) (f i : ℕ) (k : Kind) → f + i < 15 → place_of l ≡ 256 + 16 * w + (f + i) → least_of k (f + i) ≡ 0
          → field_bits b (f + i) ≡ mask_of k (f + i) → Tidy k (f + i) → ((u : ℕ) → shown k u ≡ places.shown (shape_of l) u) → Means s (attribute_of a) (slot (spi_bank w + f + i) k (f + i))
      in-bank l f i k m e z c t a =
          lists {p = spi_bank w + f + i} l (omega arith) (outside-kind (place_of l) (shape_of l) k (f + i)
          (record { past = omega arith; inside = omega (arith, q.high, h.counted.most); apart = λ v j y n x. omega (arith, q.low) }) z t (rw e (masks (f + i) m ∙ c)) a)

      -- the flags and the priorities
      plain : {a : Attribute} (l : Listed s a) (i : ℕ) → i < 13 → place_of l ≡ 256 + 16 * w + i → ((u : ℕ) → u ≡ places.shown (shape_of l) u)
          → Means s (attribute_of a) (slot (spi_bank w + 0 + i) (Fields b) (0 + i))
      unfolding shown least_of
      plain l i m e a = in-bank l 0 i (Fields b) (omega arith) (e ∙ omega arith) (none-least (0 + i)) refl tt a

      rows-mean : Lists (of_spi_word w) (flat (bank_rows (spi_bank w) b))
      unfolding of_spi_word each flat shown least_of
      rows-mean =
          one (plain (spi-flags w groups q) 0 (omega arith) refl (λ u. refl))
          (one (plain (spi-flags w enables q) 1 (omega arith) refl (λ u. refl))
          (one (plain (spi-flags w latches q) 2 (omega arith) refl (λ u. refl))
          (one (plain (spi-flags w actives q) 3 (omega arith) refl (λ u. refl))
          (one (plain (spi-lines w q) 4 (omega arith) refl (λ u. refl))
          (one (plain (spi-priority w 0 q (omega arith)) 5 (omega arith) refl (λ u. refl))
          (one (plain (spi-priority w 1 q (omega arith)) 6 (omega arith) refl (λ u. refl))
          (one (plain (spi-priority w 2 q (omega arith)) 7 (omega arith) refl (λ u. refl))
          (one (plain (spi-priority w 3 q (omega arith)) 8 (omega arith) refl (λ u. refl))
          (one (plain (spi-priority w 4 q (omega arith)) 9 (omega arith) refl (λ u. refl))
          (one (plain (spi-priority w 5 q (omega arith)) 10 (omega arith) refl (λ u. refl))
          (one (plain (spi-priority w 6 q (omega arith)) 11 (omega arith) refl (λ u. refl))
          (one (plain (spi-priority w 7 q (omega arith)) 12 (omega arith) refl (λ u. refl))
          (one (in-bank (spi-config w 0 q (omega arith)) 13 0 (Edges b) (omega arith) refl refl refl sixteen (λ u. refl))
          (one (in-bank (spi-config w 1 q (omega arith)) 13 1 (Edges b) (omega arith) refl refl refl last (λ u. refl))
          none))))))))))))))

    bank-means : Lists (of_spi_word w) (flat (bank_parts w))
    unfolding bank_parts field_bits field_least
    bank-means = go (ℕ_discrete w 31)
      where
        go : Dec (w ≡ 31) → Lists (of_spi_word w) (flat (cond (eqb w 31) (bank_rows (spi_bank w) LastBank) (bank_rows (spi_bank w) Bank)))
        go (yes e) = rw (eq-eqb w 31 e) (rows-mean LastBank
            (λ j l. bank-is s h (λ (x : ℕ). x ≡ field_bits LastBank j) w j q (omega arith) (λ r. absurd (omega arith)) (λ r. refl)) (λ j. refl) (omega arith) (omega arith))
        go (no n) = rw (ne_eqb w 31 n) (rows-mean Bank
            (λ j l. bank-is s h (λ (x : ℕ). x ≡ field_bits Bank j) w j q (omega arith) (λ r. refl) (λ r. absurd (n r))) (λ j. refl) (omega arith) (omega arith))

  -- the routes from the j-th on
  routes-mean : (k j id : ℕ) → id ≡ 32 + j → j + k ≤ spis (count s) → Lists (each of_route id k) (each (λ i. slot (route_at 32 + 0 + i) (Within route_bits) (0 + i) ∷ []) j k)
  unfolding each of_route shown least_of
  routes-mean zero j id e m = none
  routes-mean (suc k) j id e m =
      let n : id < min (count s) 1020 = omega (arith, h.counted.least) in
      one (lists {p = route_at 32 + 0 + j} (spi-route id (omega arith) n) (omega arith) (outside-kind (route_at id) itself (Within route_bits) (0 + j)
      (record { past = omega arith; inside = omega arith; apart = λ v i a b c. omega arith }) refl tt (route-bits (count s) (vcpus s) id (omega arith) n) (λ u. refl)))
      (routes-mean k (suc j) (suc id) (omega arith) (omega arith))

  vcpu-means : (v : ℕ) → v < vcpus s → Lists (of_vcpu_block s v) (flat (vcpu_parts v))
  unfolding of_vcpu_block each flat vcpu_parts shown least_of field_bits field_least
  vcpu-means v l =
      one (in_block v (vcpu-status v l) 18 0 (Within statusr_bits) l refl (λ w q. omega arith) (λ d hd q. omega arith) tt refl refl (λ u. refl))
      (one (in_block v (vcpu-flags v groups l) 0 0 (Fields Vcpu) l refl (λ w q. omega arith) (λ d hd q. omega arith) tt refl refl (λ u. refl))
      (one (in_block v (vcpu-flags v enables l) 0 1 (Fields Vcpu) l refl (λ w q. omega arith) (λ d hd q. omega arith) tt refl refl (λ u. refl))
      (one (in_block v (vcpu-flags v latches l) 0 2 (Fields Vcpu) l refl (λ w q. omega arith) (λ d hd q. omega arith) tt refl refl (λ u. refl))
      (one (in_block v (vcpu-flags v actives l) 0 3 (Fields Vcpu) l refl (λ w q. omega arith) (λ d hd q. omega arith) tt refl refl (λ u. refl))
      (one (in_block v (vcpu-lines v l) 0 4 (Fields Vcpu) l refl (λ w q. omega arith) (λ d hd q. omega arith) tt refl refl (λ u. refl))
      (one (in_block v (vcpu-priority v 0 l (omega arith)) 0 5 (Fields Vcpu) l refl (λ w q. omega arith) (λ d hd q. omega arith) tt refl refl (λ u. refl))
      (one (in_block v (vcpu-priority v 1 l (omega arith)) 0 6 (Fields Vcpu) l refl (λ w q. omega arith) (λ d hd q. omega arith) tt refl refl (λ u. refl))
      (one (in_block v (vcpu-priority v 2 l (omega arith)) 0 7 (Fields Vcpu) l refl (λ w q. omega arith) (λ d hd q. omega arith) tt refl refl (λ u. refl))
      (one (in_block v (vcpu-priority v 3 l (omega arith)) 0 8 (Fields Vcpu) l refl (λ w q. omega arith) (λ d hd q. omega arith) tt refl refl (λ u. refl))
      (one (in_block v (vcpu-priority v 4 l (omega arith)) 0 9 (Fields Vcpu) l refl (λ w q. omega arith) (λ d hd q. omega arith) tt refl refl (λ u. refl))
      (one (in_block v (vcpu-priority v 5 l (omega arith)) 0 10 (Fields Vcpu) l refl (λ w q. omega arith) (λ d hd q. omega arith) tt refl refl (λ u. refl))
      (one (in_block v (vcpu-priority v 6 l (omega arith)) 0 11 (Fields Vcpu) l refl (λ w q. omega arith) (λ d hd q. omega arith) tt refl refl (λ u. refl))
      (one (in_block v (vcpu-priority v 7 l (omega arith)) 0 12 (Fields Vcpu) l refl (λ w q. omega arith) (λ d hd q. omega arith) tt refl refl (λ u. refl))
      (one (in_block v (vcpu-system v pmr l) 19 0 (Within pmr_bits) l refl (λ w q. omega arith) (λ d hd q. omega arith) tt refl refl (λ u. refl))
      (one (in_block v (vcpu-system v ctlr l) 20 0 (Above icc_ctlr_fixed icc_ctlr_bits) l refl (λ w q. omega arith) (λ d hd q. omega arith) tt refl refl (λ u. refl))
      (one (in_block v (vcpu-system v bpr0 l) 21 0 (Fields Vcpu) l refl (λ w q. omega arith) (λ d hd q. (open-vcpu d v (hd.each_vcpu v q)).bpr0) tt refl refl (λ u. refl))
      (one (in_block v (vcpu-system v bpr1 l) 21 1 (Fields Vcpu) l refl (λ w q. omega arith) (λ d hd q. (open-vcpu d v (hd.each_vcpu v q)).bpr1) tt refl refl (λ u. refl))
      (one (in_block v (vcpu-system v ap0r l) 21 2 (Fields Vcpu) l refl (λ w q. omega arith) (λ d hd q. omega arith) tt refl refl (λ u. refl))
      (one (in_block v (vcpu-system v ap1r l) 21 3 (Fields Vcpu) l refl (λ w q. omega arith) (λ d hd q. omega arith) tt refl refl (λ u. refl))
      (one (in_block v (vcpu-system v igrpen0 l) 21 4 (Fields Vcpu) l refl (λ w q. omega arith) (λ d hd q. omega arith) tt refl refl (λ u. refl))
      (one (in_block v (vcpu-system v igrpen1 l) 21 5 (Fields Vcpu) l refl (λ w q. omega arith) (λ d hd q. omega arith) tt refl refl (λ u. refl))
      none)))))))))))))))))))))

  front-kind : (p : ℕ) (shape : Shape) (k : Kind) → 3 ≤ p → p < 5 → least_of k p ≡ 0 → Tidy k p → get_or header_bits p 0 ≡ mask_of k p → ((w : ℕ) → shown k w ≡ places.shown shape w) → KindOf s p shape k p
  front-kind p shape k a b z t m q =
      outside-kind p shape k p (record { past = omega arith; inside = omega arith; apart = λ v j c d e. omega arith }) z t (header-bits (count s) (vcpus s) p (omega arith) ∙ m) q

  listed-mean : Lists (listed s) (flat distributor_parts ++ (each (λ w. flat (bank_parts w)) 1 (spi_words (count s)) ++ (slots_in (routes_part (count s)) ++ each (λ v. flat (vcpu_parts v)) 0 (vcpus s))))
  unfolding listed flat each shown least_of
  listed-mean =
      one (lists control refl (front-kind 3 (above gicd_ctlr_fixed) (Above gicd_ctlr_fixed gicd_ctlr_bits) (omega arith) (omega arith) refl tt refl (λ u. refl)))
      (one (lists status refl (front-kind 4 itself (Within statusr_bits) (omega arith) (omega arith) refl tt refl (λ u. refl)))
      (match-append (match-each of_spi_word (λ w. flat (bank_parts w)) 1 (spi_words (count s)) (λ w l m. bank-means w (record { low = l; high = omega (arith, h.counted.least) })))
      (match-append (routes-mean (spis (count s)) 0 32 refl (omega arith)) (match-each (of_vcpu_block s) (λ v. flat (vcpu_parts v)) 0 (vcpus s) (λ v l m. vcpu-means v (omega arith))))))

  affinity-means : (v : ℕ) → v < vcpus s → Match (Means s) (header (affinity s v) ∷ []) (flat (affinity_part v ∷ []))
  unfolding flat affinity_part each
  affinity-means v l =
      let e : affinity_at v ≡ block v + 16 + 0 = omega arith in
      one (fixes (ap (word s) e) (λ d a. rw (← e) (a.same_affinities v l))) none

  -- the whole record
  pub entries-mean : Match (Means s) (entries s) (slots (count s) (vcpus s))
  unfolding entries parts flat each
  entries-mean =
      rw (flat_append, flat-each, flat_append distributor_parts, flat_append, flat-each bank_parts, flat-each) (one versions (one (fixes refl (λ d a. a.same_count)) (one (fixes refl (λ d a. a.same_number))
      (match-append (match-each (λ v. header (affinity s v) ∷ []) (λ v. flat (affinity_part v ∷ [])) 0 (vcpus s) (λ v l m. affinity-means v (omega arith))) (match-map attribute_of listed-mean)))))
