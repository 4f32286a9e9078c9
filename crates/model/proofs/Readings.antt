-- What each register reads by attribute, as the one word of the state that it shows: in a sound, initialised device.
use Prim.Native.Nat.{ℕ, ◌+◌, ◌*◌, ◌-◌, ◌/◌, ◌%◌, ◌^◌, ◌≤◌, ◌<◌, min}
use mathlib.Core.Path.{◌≡◌, refl, ap, ◌∙◌}
use mathlib.Core.Bool.{Bool, true, not, ◌&&◌, and_assoc}
use mathlib.Core.List.{List}
use native.Mathlib.Decide.{dec_lt}
use native.Mathlib.Omega.{arith}
use borrow.Author.Tests.{lt-ltb, leb-true, le-leb, not-true}
use lib.Dec.{eqb, leb}
use lib.ListN.{get_or}
use Rattle.model.specs.Words.{bit, all_below, spread}
use Rattle.model.specs.Layout.{word, count, vcpus, block, bank, route_at}
use Rattle.model.specs.Interrupts.{is_private, is_spi, edge}
use Rattle.model.specs.Sound.{last_bank_bits}
use Rattle.model.specs.Registers.{has, seen_by, shows, read_flags, read_priority, read_config, read_route}
use Rattle.model.specs.declared.View.{View}
use Rattle.model.specs.declared.View.TheVariants.{Distributor, Frame}
use Rattle.model.specs.declared.Shown.TheVariants.{Flag}
use Rattle.model.proofs.Bits.{gather-same, bit_below, gather-passed}
use Rattle.model.proofs.Tests.{and-true, and-implied, not-both, below_at}
use Rattle.model.proofs.Within.{bit-none, fits-bit}
use Rattle.model.proofs.Soundness.{Ready}
use Rattle.model.proofs.Fields.{within-spi, bank-at, flag-bit, priority-bit, edge-bit}
use Rattle.model.proofs.Masks.{SpiWord, fits_word, block-word, bank-bit}

-- ---- the interrupts of a bank: where a word of it has a bit, the interrupt exists

module _ (s : List ℕ) (h : Ready s) where
  pub is-spi : (id : ℕ) → 32 ≤ id → id < count s → id < 1020 → is_spi s id ≡ true
  is-spi id a b c = within-spi s id a (omega arith)

  -- a flag
  pub flag-exists : (w k i : ℕ) → SpiWord s w → k < 5 → i < 32 → bit (word s (256 + 16 * w + k)) i ≡ true → is_spi s (32 * w + i) ≡ true
  flag-exists w k i q l m b = is-spi (32 * w + i) (omega (arith, q.low)) (omega (arith, q.high)) small
    where
      last-flags : all_below (λ j. leb (get_or last_bank_bits j 0) 0x0fffffff) 5 ≡ true
      last-flags = unfold all_below in refl

      small : 32 * w + i < 1020
      small =
          bank-bit s h w k i q (omega arith) (λ r e. omega arith)
          (λ r e. omega (arith, bit_below 28 (get_or last_bank_bits k 0) i (omega (arith, leb-true (get_or last_bank_bits k 0) 0x0fffffff (below_at (λ j. leb (get_or last_bank_bits j 0) 0x0fffffff) 5 last-flags k l))) e)) b

  -- a priority: word j of eight, a byte for each of four interrupts
  pub priority-exists : (w j i : ℕ) → SpiWord s w → j < 8 → i < 32 → bit (word s (256 + 16 * w + (5 + j))) i ≡ true → is_spi s (32 * w + 4 * j + i / 8) ≡ true
  priority-exists w j i q l m b = is-spi (32 * w + 4 * j + i / 8) (omega (arith, q.low)) (omega (arith, q.high)) small
    where
      last_word : (n : ℕ) → n ≡ 7 → bit (get_or last_bank_bits (5 + n) 0) i ≡ true → ⊥
      last_word n e t = not-both (bit 0 i) (rw e at t) (bit-none i)

      small : 32 * w + 4 * j + i / 8 < 1020
      small =
          bank-bit s h w (5 + j) i q (omega arith) (λ r e. omega arith)
          (λ r e. elim (dec_lt j 7) [ yes n ↦ omega arith | no n ↦ absurd (last_word j (omega arith) e) ]) b

  -- an edge flag: half j of two
  pub edge-exists : (w j i : ℕ) → SpiWord s w → j < 2 → i < 16 → bit (word s (256 + 16 * w + (13 + j))) i ≡ true → is_spi s (32 * w + 16 * j + i) ≡ true
  edge-exists w j i q l m b = is-spi (32 * w + 16 * j + i) (omega (arith, q.low)) (omega (arith, q.high)) small
    where
      last_word : (n : ℕ) → n ≡ 1 → bit (get_or last_bank_bits (13 + n) 0) i ≡ true → i < 12
      last_word n e t = bit_below 12 0x0fff i (omega arith) (rw e at t)

      small : 32 * w + 16 * j + i < 1020
      small =
          bank-bit s h w (13 + j) i q (omega arith) (λ r e. omega arith)
          (λ r e. elim (dec_lt j 1) [ yes n ↦ omega arith | no n ↦ omega (arith, last_word j (omega arith) e) ]) b

  -- ---- what a word of 32 flags reads

  -- where the interrupts that have a bit exist, a register of flags reads the word
  reads_word : (x : View) (k from w : ℕ) → word s (bank (seen_by x) w + k) < 2 ^ 32
      → ((i : ℕ) → i < 32 → bit (word s (bank (seen_by x) w + k)) i ≡ true → (has s x (32 * w + i) && leb from (32 * w + i)) ≡ true)
      → read_flags s x k from Flag w ≡ word s (bank (seen_by x) w + k)
  unfolding read_flags shows
  reads_word x k from w l p =
      gather-same 32 _ (λ i. (has s x (32 * w + i) && leb from (32 * w + i)) && bit (word s (bank (seen_by x) w + k)) i)
      (λ i m. ap (λ (b : Bool). (has s x (32 * w + i) && leb from (32 * w + i)) && b) (flag-bit s (seen_by x) w k i m))
      ∙ gather-passed (word s (bank (seen_by x) w + k)) (λ i. has s x (32 * w + i) && leb from (32 * w + i)) l p

  pub reads-spi-flags : (w k from : ℕ) → SpiWord s w → k < 5 → from ≤ 32 → read_flags s Distributor k from Flag w ≡ word s (256 + 16 * w + k)
  unfolding has seen_by
  reads-spi-flags w k from q l f =
      let b : bank 0 w ≡ 256 + 16 * w = bank-at 0 w q.low in
      let top : w < 32 = omega (arith, q.high, h.counted.most) in
      reads_word Distributor k from w (rw b (fits_word s h (256 + 16 * w + k) (omega arith)))
      (λ i m e. and-true (flag-exists w k i q l m (rw b at e)) (le-leb from (32 * w + i) (omega (arith, q.low))))
      ∙ rw b

  -- the private ones: lines are the PPIs'
  pub private : (i : ℕ) → i < 32 → is_private (32 * 0 + i) ≡ true
  unfolding is_private
  private i l = lt-ltb (32 * 0 + i) 32 (omega arith)

  pub reads-private-flags : (v k : ℕ) → v < vcpus s → k < 4 → read_flags s (Frame v) k 0 Flag 0 ≡ word s (block v + k)
  unfolding has seen_by
  reads-private-flags v k l m =
      reads_word (Frame v) k 0 0 (fits_word s h (block v + k) (omega (arith, h.few)))
      (λ i n e. and-true (private i n) (le-leb 0 (32 * 0 + i) (omega arith)))

  -- a line that is set is a PPI's
  pub line-ppi : (v : ℕ) → v < vcpus s → (i : ℕ) → i < 32 → bit (word s (block v + 4)) i ≡ true → leb 16 (32 * 0 + i) ≡ true
  line-ppi v l i n e = le-leb 16 (32 * 0 + i) (go (dec_lt i 16))
    where
      low16 : all_below (λ j. not (bit 0xffff0000 j)) 16 ≡ true
      low16 = unfold all_below bit in refl

      go : Dec (i < 16) → 16 ≤ 32 * 0 + i
      go (yes r) =
          absurd (not-both (bit 0xffff0000 i) (fits-bit (word s (block v + 4)) 0xffff0000 i (block-word s h v 4 l (omega arith)) e)
          (not-true (bit 0xffff0000 i) (below_at (λ j. not (bit 0xffff0000 j)) 16 low16 i r)))
      go (no r) = omega arith

  pub reads-private-lines : (v : ℕ) → v < vcpus s → read_flags s (Frame v) 4 16 Flag 0 ≡ word s (block v + 4)
  unfolding has seen_by
  reads-private-lines v l =
      reads_word (Frame v) 4 16 0 (fits_word s h (block v + 4) (omega (arith, h.few))) (λ i n e. and-true (private i n) (line-ppi v l i n e))

  -- ---- what a word of four priorities reads

  reads-four : (x : View) (w j : ℕ) → j < 8 → word s (bank (seen_by x) w + 5 + j) < 2 ^ 32
      → ((i : ℕ) → i < 32 → bit (word s (bank (seen_by x) w + 5 + j)) i ≡ true → has s x (4 * (8 * w + j) + i / 8) ≡ true)
      → read_priority s x (8 * w + j) ≡ word s (bank (seen_by x) w + 5 + j)
  unfolding read_priority
  reads-four x w j m l p =
      gather-same 32 _ (λ i. has s x (4 * (8 * w + j) + i / 8) && bit (word s (bank (seen_by x) w + 5 + j)) i)
      (λ i n. ap (λ (b : Bool). has s x (4 * (8 * w + j) + i / 8) && b) (priority-bit s (seen_by x) w j i m n))
      ∙ gather-passed (word s (bank (seen_by x) w + 5 + j)) (λ i. has s x (4 * (8 * w + j) + i / 8)) l p

  pub reads-spi-priority : (w j : ℕ) → SpiWord s w → j < 8 → read_priority s Distributor (8 * w + j) ≡ word s (256 + 16 * w + (5 + j))
  unfolding has seen_by
  reads-spi-priority w j q l =
      let b : bank 0 w + 5 + j ≡ 256 + 16 * w + (5 + j) = rw (bank-at 0 w q.low) (omega arith) in
      let top : w < 32 = omega (arith, q.high, h.counted.most) in
      reads-four Distributor w j l (rw b (fits_word s h (256 + 16 * w + (5 + j)) (omega arith)))
      (λ i m e. let f : 4 * (8 * w + j) + i / 8 ≡ 32 * w + 4 * j + i / 8 = omega arith in rw f (priority-exists w j i q l m (rw b at e)))
      ∙ rw b

  pub reads-private-priority : (v j : ℕ) → v < vcpus s → j < 8 → read_priority s (Frame v) j ≡ word s (block v + (5 + j))
  unfolding has seen_by is_private
  reads-private-priority v j l m =
      let z : 8 * 0 + j ≡ j = omega arith in
      let b : block v + 5 + j ≡ block v + (5 + j) = omega arith in
      rw z at (reads-four (Frame v) 0 j m (rw b (fits_word s h (block v + (5 + j)) (omega (arith, h.few))))
      (λ i n e. lt-ltb (4 * (8 * 0 + j) + i / 8) 32 (omega arith)))
      ∙ rw b

  -- ---- what a word of sixteen edge flags reads: each at the upper of its two bits

  pub reads-spi-config : (w j : ℕ) → SpiWord s w → j < 2 → read_config s Distributor (2 * w + j) ≡ spread (word s (256 + 16 * w + (13 + j)))
  unfolding read_config has seen_by spread
  reads-spi-config w j q l = gather-same 32 _ (λ i. eqb (i % 2) 1 && bit (word s (256 + 16 * w + (13 + j))) (i / 2)) at
    where
      at : (i : ℕ) → i < 32
          → (eqb (i % 2) 1 && is_spi s (16 * (2 * w + j) + i / 2) && edge s 0 (16 * (2 * w + j) + i / 2)) ≡ (eqb (i % 2) 1 && bit (word s (256 + 16 * w + (13 + j))) (i / 2))
      at i m =
          let f : 16 * (2 * w + j) + i / 2 ≡ 32 * w + 16 * j + i / 2 = omega arith in
          let p : bank 0 w + 13 + j ≡ 256 + 16 * w + (13 + j) = rw (bank-at 0 w q.low) (omega arith) in
          rw (edge-bit s 0 w j (i / 2) l (omega arith), p, f, and_assoc (eqb (i % 2) 1)) (ap (λ (t : Bool). eqb (i % 2) 1 && t) (and-implied _ _ (edge-exists w j (i / 2) q l (omega arith))))

  -- ---- a route

  pub reads-route : (id : ℕ) → 32 ≤ id → id < min (count s) 1020 → read_route s Distributor (2 * (id - 32)) ≡ word s (route_at id)
  unfolding read_route has is_spi
  reads-route id l m =
      let e : 2 * (id - 32) % 2 ≡ 0 = omega arith in
      let f : 32 + 2 * (id - 32) / 2 ≡ id = omega arith in
      rw (e, f, le-leb 32 id l, lt-ltb id (min (count s) 1020) m)
