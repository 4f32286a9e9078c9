-- Writing a word of a memory-mapped register, and changing a line, leave a sound, initialised device sound.
use Rattle.std.specs.Prelude.{Some}
use Prim.Native.Nat.{ℕ, zero, suc, ◌+◌, ◌*◌, ◌/◌, ◌%◌, ◌^◌, ◌≤◌, ◌<◌}
use mathlib.Core.Path.{◌≡◌, refl, sym, ap, ◌∙◌}
use mathlib.Core.Bool.{Bool, true, false, cond, ◌&&◌}
use mathlib.Core.List.{List}
use mathlib.Core.Logic.{◌⊎◌, inl, inr, ⊎_elim}
use native.Mathlib.Omega.{arith}
use borrow.Author.Tests.{eqb-true, ne_eqb, lt-ltb, ltb-true, leb-true, le-leb, lt-leb}
use lib.Dec.{eqb, ltb, leb}
use lib.ListN.{get_or, set}
use lib.Pow.{pow_mono}
use Rattle.model.specs.Words.{bit, gather, with_bit, all_below}
use Rattle.model.specs.Layout.{state_length, word, count, vcpus, block, running_at, bank, latch_field, line_field, route_at, edge_field}
use Rattle.model.specs.Interrupts.{is_private, is_ppi, is_spi, flag, edge, priority, set_flag}
use Rattle.model.specs.Sound.{fits, used_bits, block_bits, bank_bits, last_bank_bits}
use Rattle.model.specs.Registers.{has, seen_by, flag_after, write_flags, write_priority, write_config, write_route, write, flags, rule_for, written_status, status_at, banks, words_of, decode, rows}
use Rattle.model.specs.Lines.{latches, line_changed}
use Rattle.model.specs.Calls.{has_line}
use Rattle.model.specs.declared.By.{By}
use Rattle.model.specs.declared.By.TheVariants.{Guest, Attribute}
use Rattle.model.specs.declared.View.{View}
use Rattle.model.specs.declared.View.TheVariants.{Distributor, Frame}
use Rattle.model.specs.declared.Flags.{Flags}
use Rattle.model.specs.declared.Flags.TheVariants.{Group, SetEnable, ClearEnable, SetPending, ClearPending, SetActive, ClearActive, Lines}
use Rattle.model.specs.declared.Rule.{Rule}
use Rattle.model.specs.declared.Register.{Register}
use Rattle.model.specs.declared.Register.TheVariants.{Fixed, Control, Typer, Iidr, Status, Bits, Priority, Config, Route, FrameTyper, FrameAffinity}
use Rattle.model.proofs.Bits.{gather-lt, bit-gather, bit_below, word-is}
use Rattle.model.proofs.Tests.{both, below_at}
use Rattle.model.proofs.Within.{fits-bit, fits_le, bits_fit}
use Rattle.model.proofs.Soundness.{Sound, Ready, ready-is-sound, word-used}
use Rattle.model.proofs.Roles.{block-free}
use Rattle.model.proofs.Decode.{decode-words, config-view}
use Rattle.model.proofs.Masks.{route-bits, header-bits, block-is, block-word, bank-is}
use Rattle.model.proofs.Fields.{spi-within, banks-most, bank-at, flag-bit, priority-bit, edge-bit}
use Rattle.model.proofs.Stores.{MayStore, stands, store_same, store-sound, store-ready, Free, Outside, block-store, outside-store}

-- ---- words that fit a mask

-- a number of n bits, where the mask has the lowest n
pub low_fits : (n u m : ℕ) → (u < 2 ^ n) × (n ≤ 32) → all_below (bit m) n ≡ true → fits u m ≡ true
low_fits n u m l e = bits_fit u m (omega (arith, l.0, pow_mono l.1)) (λ i j b. below_at (bit m) n e i (bit_below n u i l.0 b))

of-cond : (c x y : Bool) → cond c x y ≡ true → ((c ≡ true) × (x ≡ true)) ⊎ (y ≡ true)
of-cond true x y e = inl (refl, e)
of-cond false x y e = inr e

-- ---- the flags, priorities and edge flags of a bank: a computed test for each table

-- the least ID that has flag k: an SGI has no line
abbrev pub least_id : ℕ → ℕ
least_id k = cond (eqb k line_field) 16 0

abbrev flags_from : ℕ → ℕ → Bool
flags_from l m = all_below (λ i. cond (leb l i) (bit m i) true) 32

block-flags : all_below (λ k. flags_from (least_id k) (get_or block_bits k 0)) 5 ≡ true
unfolding all_below bit
block-flags = refl

bank-flags : all_below (λ k. all_below (bit (get_or bank_bits k 0)) 32) 5 ≡ true
unfolding all_below bit
bank-flags = refl

last-flags : all_below (λ k. all_below (bit (get_or last_bank_bits k 0)) 28) 5 ≡ true
unfolding all_below bit
last-flags = refl

abbrev eighths : ℕ → Bool
eighths m = all_below (λ i. cond (leb 3 (i % 8)) (bit m i) true) 32

eighth : (m i : ℕ) → eighths m ≡ true → i < 32 → leb 3 (i % 8) ≡ true → bit m i ≡ true
eighth m i e l b = rw b at (below_at (λ j. cond (leb 3 (j % 8)) (bit m j) true) 32 e i l)

block-eighths : all_below (λ j. eighths (get_or block_bits (5 + j) 0)) 8 ≡ true
unfolding all_below bit
block-eighths = refl

bank-eighths : all_below (λ j. eighths (get_or bank_bits (5 + j) 0)) 8 ≡ true
unfolding all_below bit
bank-eighths = refl

last-eighths : all_below (λ j. eighths (get_or last_bank_bits (5 + j) 0)) 7 ≡ true
unfolding all_below bit
last-eighths = refl

bank-edges : all_below (λ j. all_below (bit (get_or bank_bits (13 + j) 0)) 16) 2 ≡ true
unfolding all_below bit
bank-edges = refl

abbrev last_edges : ℕ → Bool
last_edges j = all_below (λ i. cond (ltb (16 * j + i) 28) (bit (get_or last_bank_bits (13 + j) 0) i) true) 16

last-edges : all_below last_edges 2 ≡ true
unfolding all_below bit
last-edges = refl

-- ---- what a write leaves: the state with one word stored that may stand there, and that no vCPU's running mark

pub record Leaves (s : List ℕ) (p : ℕ) (t : List ℕ) : Type 0 where
  pub stored : ℕ
  pub state : t ≡ set s p stored
  pub may : MayStore s p stored
  pub idle : (v : ℕ) → v < vcpus s → ¬ (p ≡ running_at v)

-- ---- the interrupt id as vCPU v sees it is there: its own private one, or an SPI

pub data Present (s : List ℕ) (v id : ℕ) : Type 0 where
  own : v < vcpus s → id < 32 → Present s v id
  shared : is_spi s id ≡ true → Present s v id

module _ (s : List ℕ) (h : Ready s) where
  pub leaves-sound : {p : ℕ} {t : List ℕ} → Leaves s p t → Sound t
  leaves-sound {p} l = rw l.state (store-sound s p l.stored h.few l.may (ready-is-sound s h))

  pub leaves-ready : {p : ℕ} {t : List ℕ} → Leaves s p t → Ready t
  leaves-ready {p} l = rw l.state (store-ready s p l.stored h.few l.may h)

  -- as many vCPUs, and an interrupt that is there stays there
  pub leaves-number : {p : ℕ} {t : List ℕ} → Leaves s p t → vcpus t ≡ vcpus s
  leaves-number {p} l = rw l.state (store_same s p l.stored h.few l.may).alike.same_number

  pub leaves-present : {p : ℕ} {t : List ℕ} (v id : ℕ) → Leaves s p t → Present s v id → Present t v id
  unfolding is_spi
  leaves-present {p} v id l (own m n) = own (rw (leaves-number l) m) n
  leaves-present {p} v id l (shared e) = shared (rw (l.state, (store_same s p l.stored h.few l.may).alike.same_count) e)

  -- ---- a place where every word that fits may be stored

  record Open (p : ℕ) : Type 0 where
    inside : p < state_length
    store : (w : ℕ) → fits w (used_bits (count s) (vcpus s) p) ≡ true → MayStore s p w
    idle : (v : ℕ) → v < vcpus s → ¬ (p ≡ running_at v)

  outside : (p : ℕ) → Outside p → Open p
  outside p o = record { inside = o.inside; store = λ w f. outside-store s h.few p w o (rw (word-used s h.mark p w) f); idle = λ v l. o.apart v 17 (omega (arith, h.few)) (omega arith) }

  -- a flag or a priority of bank w, as a vCPU sees it
  in-bank : (v w j : ℕ) → (w ≡ 0 → v < vcpus s) → w < 32 → j < 13 → Open (bank v w + j)
  in-bank v zero j first l m =
      let k = first refl in
      record {
        inside = omega (arith, h.few);
        store = λ w f. block-store s h.few v j w k (omega arith) (rw (word-used s h.mark (block v + j) w) f);
        idle = λ u n e. omega arith;
      }
  in-bank v (suc w) j first l m = outside (256 + 16 * suc w + j) (omega arith)

  leaves : {p q : ℕ} (w : ℕ) → Open p → q ≡ p → fits w (used_bits (count s) (vcpus s) p) ≡ true → Leaves s p (set s q w)
  leaves w o e f = record { stored = w; state = ap (λ (k : ℕ). set s k w) e; may = o.store w f; idle = o.idle }

  -- a later word of a vCPU's block
  pub stores-block : (v j w : ℕ) → v < vcpus s → 18 ≤ j → Free j w → fits w (get_or block_bits j 0) ≡ true → Leaves s (block v + j) (set s (block v + j) w)
  stores-block v j w l a b f = record {
    stored = w;
    state = refl;
    may = block-store s h.few v j w l b (rw (word-used s h.mark (block v + j) w, block-is s h v j l b.small) f);
    idle = λ u k e. omega (arith, b.small);
  }

  -- ---- where an interrupt is there, the masks of its bank have its bits

  record Spi (id : ℕ) : Type 0 where
    low : 32 ≤ id
    counted : id < count s
    high : id < 1020

  open-spi : (id : ℕ) → is_spi s id ≡ true → Spi id
  open-spi id e = let p = spi-within s id e in record { low = p.0; counted = omega arith; high = omega arith }

  not-spi : (id : ℕ) → id < 32 → is_spi s id ≡ false
  unfolding is_spi
  not-spi id l = rw (lt-leb 32 id l)

  spi-bit : (v id j i : ℕ) → is_spi s id ≡ true → j < 16 → bit (get_or bank_bits j 0) i ≡ true → (992 ≤ id → bit (get_or last_bank_bits j 0) i ≡ true)
      → bit (used_bits (count s) (vcpus s) (bank v (id / 32) + j)) i ≡ true
  spi-bit v id j i e l a b =
      let q = open-spi id e in
      rw (bank-at v (id / 32) (omega arith))
      (bank-is s h (λ x. bit x i ≡ true) (id / 32) j (record { low = omega arith; high = omega (arith, h.counted.step) }) l (λ r. a) (λ r. b (omega arith)))

  flag-may : (v k id : ℕ) → k < 5 → leb (least_id k) id ≡ true → Present s v id → bit (used_bits (count s) (vcpus s) (bank v (id / 32) + k)) (id % 32) ≡ true
  flag-may v k id l t (own m n) =
      let d : id / 32 ≡ 0 = omega arith in
      let r : id % 32 ≡ id = omega arith in
      rw (d, r, block-is s h v k m (omega arith))
      (rw t at (below_at (λ i. cond (leb (least_id k) i) (bit (get_or block_bits k 0) i) true) 32 (below_at (λ j. flags_from (least_id j) (get_or block_bits j 0)) 5 block-flags k l) id n))
  flag-may v k id l t (shared e) =
      let q = open-spi id e in
      spi-bit v id k (id % 32) e (omega arith) (below_at (bit (get_or bank_bits k 0)) 32 (below_at _ 5 bank-flags k l) (id % 32) (omega arith))
      (λ z. below_at (bit (get_or last_bank_bits k 0)) 28 (below_at _ 5 last-flags k l) (id % 32) (omega arith))

  -- word j of the eight that hold a bank's priorities
  priority-may : (v j i id : ℕ) → j ≡ id % 32 / 4 → i < 32 → leb 3 (i % 8) ≡ true → Present s v id
      → bit (used_bits (count s) (vcpus s) (bank v (id / 32) + (5 + j))) i ≡ true
  priority-may v j i id k l t (own m n) =
      let d : id / 32 ≡ 0 = omega arith in
      rw (d, block-is s h v (5 + j) m (omega arith)) (eighth (get_or block_bits (5 + j) 0) i (below_at (λ a. eighths (get_or block_bits (5 + a) 0)) 8 block-eighths j (omega arith)) l t)
  priority-may v j i id k l t (shared e) =
      let q = open-spi id e in
      spi-bit v id (5 + j) i e (omega arith) (eighth (get_or bank_bits (5 + j) 0) i (below_at (λ a. eighths (get_or bank_bits (5 + a) 0)) 8 bank-eighths j (omega arith)) l t)
      (λ z. eighth (get_or last_bank_bits (5 + j) 0) i (below_at (λ a. eighths (get_or last_bank_bits (5 + a) 0)) 7 last-eighths j (omega arith)) l t)

  -- half j of the two that hold an SPI bank's edge flags
  edge-may : (v j i id : ℕ) → j ≡ id % 32 / 16 → i ≡ id % 16 → is_spi s id ≡ true → bit (used_bits (count s) (vcpus s) (bank v (id / 32) + (13 + j))) i ≡ true
  edge-may v j i id k l e =
      let q = open-spi id e in
      spi-bit v id (13 + j) i e (omega arith) (below_at (bit (get_or bank_bits (13 + j) 0)) 16 (below_at (λ a. all_below (bit (get_or bank_bits (13 + a) 0)) 16) 2 bank-edges j (omega arith)) i (omega arith))
      (λ z. rw (lt-ltb (16 * j + i) 28 (omega arith))
      at (below_at (λ n. cond (ltb (16 * j + n) 28) (bit (get_or last_bank_bits (13 + j) 0) n) true) 16 (below_at last_edges 2 last-edges j (omega arith)) i (omega arith)))

  -- a word whose every bit stood there before, or may stand there
  renewed : (p n : ℕ) (f : ℕ → Bool) → p < state_length → n ≤ 32
      → ((i : ℕ) → i < n → f i ≡ true → (bit (used_bits (count s) (vcpus s) p) i ≡ true) ⊎ (bit (word s p) i ≡ true))
      → fits (gather n f) (used_bits (count s) (vcpus s) p) ≡ true
  renewed p n f l k g =
      bits_fit (gather n f) (used_bits (count s) (vcpus s) p) (omega (arith, gather-lt n f, pow_mono k)) (λ i j b.
      let m : i < n = bit_below n (gather n f) i (gather-lt n f) b in
      ⊎_elim (λ e. e) (λ e. fits-bit (word s p) (used_bits (count s) (vcpus s) p) i (h.used p l) e) (g i m (sym (bit-gather n f i m) ∙ b)))

  -- ---- the words that the registers store

  view-has : (x : View) (id : ℕ) → seen_by x < vcpus s → has s x id ≡ true → Present s (seen_by x) id
  unfolding has seen_by is_private
  view-has Distributor id l e = shared e
  view-has (Frame v) id l e = own l (ltb-true id 32 e)

  -- 32 flags
  pub stores-flags : (x : View) (k from : ℕ) (r : Rule) (w value : ℕ) → seen_by x < vcpus s → w < 32 → k < 5 → from ≡ least_id k
      → Leaves s (bank (seen_by x) w + k) (write_flags s x k from r w value)
  unfolding write_flags
  stores-flags x k from r w value l m n f =
      let o = in-bank (seen_by x) w k (λ e. l) m (omega arith) in
      leaves _ o refl (renewed (bank (seen_by x) w + k) 32 _ o.inside (omega arith) (λ i j t.
      ⊎_elim (λ c.
      let a = both (has s x (32 * w + i)) (leb from (32 * w + i)) c.0 in
      let d : (32 * w + i) / 32 ≡ w = omega arith in
      let b : (32 * w + i) % 32 ≡ i = omega arith in
      inl (rw (d, b) at (flag-may (seen_by x) k (32 * w + i) n (rw f at a.1) (view-has x (32 * w + i) l a.0))))
      (λ c. inr (sym (flag-bit s (seen_by x) w k i j) ∙ c))
      (of-cond (has s x (32 * w + i) && leb from (32 * w + i)) (flag_after r (flag k s (seen_by x) (32 * w + i)) (bit value i)) (flag k s (seen_by x) (32 * w + i)) t)))

  -- four priorities
  pub stores-priority : (x : View) (meant : ℕ → Bool) (w j value : ℕ) → seen_by x < vcpus s → w < 32 → j < 8
      → Leaves s (bank (seen_by x) w + (5 + j)) (write_priority s x meant (8 * w + j) value)
  unfolding write_priority
  stores-priority x meant w j value l m n =
      let d : (8 * w + j) / 8 ≡ w = omega arith in
      let r : (8 * w + j) % 8 ≡ j = omega arith in
      let q : bank (seen_by x) w + 5 + j ≡ bank (seen_by x) w + (5 + j) = omega arith in
      let o = in-bank (seen_by x) w (5 + j) (λ e. l) m (omega arith) in
      leaves _ o (rw (d, r) q) (renewed (bank (seen_by x) w + (5 + j)) 32 _ o.inside (omega arith) (λ i k t.
      ⊎_elim (λ c.
      let a : (4 * (8 * w + j) + i / 8) / 32 ≡ w = omega arith in
      let e = (both (meant (i / 8)) (has s x (4 * (8 * w + j) + i / 8)) c.0).1 in
      inl (rw a at (priority-may (seen_by x) j i (4 * (8 * w + j) + i / 8) (omega arith) k (both (leb 3 (i % 8)) (bit value i) c.1).0 (view-has x (4 * (8 * w + j) + i / 8) l e))))
      (λ c. let b : bit (word s (bank (seen_by x) w + 5 + j)) i ≡ true = sym (priority-bit s (seen_by x) w j i n k) ∙ c in inr (rw q at b))
      (of-cond (meant (i / 8) && has s x (4 * (8 * w + j) + i / 8)) (leb 3 (i % 8) && bit value i) (bit (priority s (seen_by x) (4 * (8 * w + j) + i / 8)) (i % 8)) t)))

  -- sixteen edge flags
  written-edge : (w j i : ℕ) → j < 2 → i < 16 → edge s 0 (16 * (2 * w + j) + i) ≡ bit (word s (bank 0 w + (13 + j))) i
  written-edge w j i l m = let q : bank 0 w + 13 + j ≡ bank 0 w + (13 + j) = omega arith in rw q at (edge-bit s 0 w j i l m)

  -- those of SGIs and PPIs are written as they stood
  private-edges : (j : ℕ) → j < 2 → (f : ℕ → Bool) → ((i : ℕ) → i < 16 → f i ≡ bit (word s (block 0 + (13 + j))) i) → gather 16 f ≡ word s (block 0 + (13 + j))
  private-edges j l f e =
      let m = leb-true (get_or block_bits (13 + j) 0) 0xffff (below_at (λ i. leb (get_or block_bits (13 + i) 0) 0xffff) 2 test j l) in
      sym (word-is 16 (word s (block 0 + (13 + j))) f (omega (arith, fits_le (word s (block 0 + (13 + j))) (get_or block_bits (13 + j) 0) (block-word s h 0 (13 + j) h.some (omega arith)))) (λ i n. sym (e i n)))
    where
      test : all_below (λ i. leb (get_or block_bits (13 + i) 0) 0xffff) 2 ≡ true
      test = unfold all_below in refl

  pub stores-config : (w j value : ℕ) → w < 32 → j < 2 → Leaves s (bank 0 w + (13 + j)) (write_config s Distributor (2 * w + j) value)
  unfolding write_config has seen_by
  stores-config zero j value l m =
      let d : (2 * 0 + j) / 2 ≡ 0 = omega arith in
      let r : (2 * 0 + j) % 2 ≡ j = omega arith in
      let q : block 0 + edge_field + j ≡ block 0 + (edge_field + j) = omega arith in
      record {
        stored = word s (block 0 + (13 + j));
        state = rw (d, r, q) (ap (set s (block 0 + (13 + j))) (private-edges j m _ (λ i n. rw (not-spi (16 * (2 * 0 + j) + i) (omega arith)) (written-edge 0 j i m n))));
        may = record { inside = omega arith; free = block-free 0 (edge_field + j) (omega arith) (omega arith) (λ e. omega arith); may = stands s (ready-is-sound s h) (block 0 + (edge_field + j)) (omega arith) };
        idle = λ v n e. omega arith;
      }
  stores-config (suc w) j value l m =
      let d : (2 * suc w + j) / 2 ≡ suc w = omega arith in
      let r : (2 * suc w + j) % 2 ≡ j = omega arith in
      let p = 256 + 16 * suc w + (13 + j) in
      let o = outside p (omega arith) in
      leaves _ o (rw (d, r) (omega arith)) (renewed p 16 _ o.inside (omega arith) (λ i n t.
      ⊎_elim (λ c. let a : (16 * (2 * suc w + j) + i) / 32 ≡ suc w = omega arith in inl (rw a at (edge-may 0 j i (16 * (2 * suc w + j) + i) (omega arith) (omega arith) c.0)))
      (λ c. inr (sym (written-edge (suc w) j i m n) ∙ c))
      (of-cond (is_spi s (16 * (2 * suc w + j) + i)) (bit value (2 * i + 1)) (edge s 0 (16 * (2 * suc w + j) + i)) t)))

  -- a route, bits 23-0
  pub stores-route : (id value : ℕ) → is_spi s id ≡ true → Leaves s (route_at id) (set s (route_at id) (value % 2 ^ 24))
  stores-route id value e =
      let q = open-spi id e in
      leaves _ (outside (route_at id) (omega arith)) refl
      (rw (route-bits (count s) (vcpus s) id q.low (omega arith)) (low_fits 24 (value % 2 ^ 24) 0x00ffffff (omega arith) (unfold all_below bit in refl)))

  -- the distributor's group enables, and a STATUSR
  pub stores-enables : (value : ℕ) → Leaves s 3 (set s 3 (value % 4))
  stores-enables value = leaves _ (outside 3 (omega arith)) refl (rw (header-bits (count s) (vcpus s) 3 (omega arith)) (low_fits 2 (value % 4) 3 (omega arith) (unfold all_below bit in refl)))

  pub stores-status : (x : View) (w : ℕ) → seen_by x < vcpus s → w < 16 → Leaves s (status_at x) (set s (status_at x) w)
  unfolding status_at seen_by
  stores-status Distributor w l m = leaves _ (outside 4 (omega arith)) refl (rw (header-bits (count s) (vcpus s) 4 (omega arith)) (low_fits 4 w 15 (omega arith) (unfold all_below bit in refl)))
  stores-status (Frame v) w l m = stores-block v 18 w l (omega arith) (omega arith) (low_fits 4 w 15 (omega arith) (unfold all_below bit in refl))

  status-small : (by : By) (old value : ℕ) → written_status by old value < 16
  unfolding written_status
  status-small Guest old value = gather-lt 4 _
  status-small Attribute old value = omega arith

  -- ---- writing word k of a register, in a view whose vCPU is there; the distributor's is 0, and an initialised device has it

  -- the least ID of a row is that of its flag
  flag-row : (f : Flags) → ((flags f).field < 5) × ((flags f).from ≡ least_id (flags f).field)
  unfolding flags
  flag-row Group = (omega arith, refl)
  flag-row SetEnable = (omega arith, refl)
  flag-row ClearEnable = (omega arith, refl)
  flag-row SetPending = (omega arith, refl)
  flag-row ClearPending = (omega arith, refl)
  flag-row SetActive = (omega arith, refl)
  flag-row ClearActive = (omega arith, refl)
  flag-row Lines = (omega arith, refl)

  -- a register of 32 flags, group 7 too
  pub bits-sound : (by : By) (x : View) (f : Flags) (k value : ℕ) → seen_by x < vcpus s → k < banks x → Sound (write by s x (Bits f) k value)
  unfolding write
  bits-sound by x f k value l m =
      leaves-sound (stores-flags x (flags f).field (flags f).from (rule_for by (flags f)) k value l (omega (arith, banks-most x)) (flag-row f).0 (flag-row f).1)

  -- the bytes of a word of priorities that `meant` names
  pub priority-sound : (x : View) (meant : ℕ → Bool) (k value : ℕ) → seen_by x < vcpus s → k < 8 * banks x → Sound (write_priority s x meant k value)
  priority-sound x meant k value l m =
      let e : 8 * (k / 8) + k % 8 ≡ k = omega arith in
      rw e at (leaves-sound (stores-priority x meant (k / 8) (k % 8) value l (omega (arith, banks-most x)) (omega arith)))

  config-sound : (k value : ℕ) → k < 64 → Sound (write_config s Distributor k value)
  config-sound k value l =
      let e : 2 * (k / 2) + k % 2 ≡ k = omega arith in
      rw e at (leaves-sound (stores-config (k / 2) (k % 2) value (omega arith) (omega arith)))

  -- only an SPI has a route
  routed : {v id : ℕ} → 32 ≤ id → Present s v id → is_spi s id ≡ true
  routed l (own m n) = absurd (omega arith)
  routed l (shared e) = e

  route-sound : (x : View) (k value : ℕ) → seen_by x < vcpus s → Sound (write_route s x k value)
  route-sound x k value l = step (eqb (k % 2) 0 && has s x (32 + k / 2)) refl
    where
      step : (b : Bool) → (eqb (k % 2) 0 && has s x (32 + k / 2)) ≡ b → Sound (write_route s x k value)
      step true e =
          let a = view-has x (32 + k / 2) l (both (eqb (k % 2) 0) (has s x (32 + k / 2)) e).1 in
          unfold write_route in rw e (leaves-sound (stores-route (32 + k / 2) value (routed (omega arith) a)))
      step false e = unfold write_route in rw e (ready-is-sound s h)

  -- any register; ICFGR in the distributor alone
  pub register-sound : (by : By) (x : View) (r : Register) (k value : ℕ) → seen_by x < vcpus s → k < words_of x r → (r ≡ Config → x ≡ Distributor) → Sound (write by s x r k value)
  unfolding write words_of banks
  register-sound by x (Fixed c) k value l m d = ready-is-sound s h
  register-sound by x Control k value l m d = leaves-sound (stores-enables value)
  register-sound by x Typer k value l m d = ready-is-sound s h
  register-sound by x Iidr k value l m d = ready-is-sound s h
  register-sound by x Status k value l m d = leaves-sound (stores-status x _ l (status-small by (word s (status_at x)) value))
  register-sound by x (Bits f) k value l m d = bits-sound by x f k value l m
  register-sound by x Priority k value l m d = priority-sound x (λ j. true) k value l m
  register-sound by x Config k value l m d = let b : 2 * banks x ≤ 64 = omega (arith, banks-most x) in rw (d refl) (config-sound k value (omega arith))
  register-sound by x Route k value l m d = route-sound x k value l
  register-sound by x FrameTyper k value l m d = ready-is-sound s h
  register-sound by x FrameAffinity k value l m d = ready-is-sound s h

  -- any word that an offset of the view decodes to
  pub write-sound : (by : By) (x : View) (off : ℕ) (r : Register) (k value : ℕ) → seen_by x < vcpus s → decode (rows x) off ≡ Some (r, k) → Sound (write by s x r k value)
  write-sound by x off r k value l d = register-sound by x r k value l (decode-words x off r k d) (λ e. config-view x off k (rw e at d))

  -- ---- changing a line

  -- one flag of an interrupt that is there
  pub stores-flag : (k : ℕ) (t : Bool) (v id : ℕ) → k < 5 → leb (least_id k) id ≡ true → Present s v id → Leaves s (bank v (id / 32) + k) (set_flag k t v id s)
  unfolding set_flag with_bit
  stores-flag k t v id l f q =
      let o = in-bank v (id / 32) k (first q) (small q) (omega arith) in
      leaves _ o refl (renewed (bank v (id / 32) + k) 32 _ o.inside (omega arith) (λ i m e.
      ⊎_elim (λ c. inl (rw (eqb-true i (id % 32) c.0) (flag-may v k id l f q))) (λ c. inr c)
      (of-cond (eqb i (id % 32)) t (bit (word s (bank v (id / 32) + k)) i) e)))
    where
      first : Present s v id → id / 32 ≡ 0 → v < vcpus s
      first (own m n) e = m
      first (shared a) e = let b = open-spi id a in absurd (omega arith)

      small : Present s v id → id / 32 < 32
      small (own m n) = omega arith
      small (shared a) = let b = open-spi id a in omega arith

  -- a flag that SGIs have too: any but the line
  pub stores-no-line : (k : ℕ) (t : Bool) (v id : ℕ) → k < line_field → Present s v id → Leaves s (bank v (id / 32) + k) (set_flag k t v id s)
  stores-no-line k t v id l q = stores-flag k t v id (omega arith) (rw (ne_eqb k line_field (omega arith)) (le-leb 0 id (omega arith))) q

  -- an interrupt that has a line is there, and no SGI
  lined : (v id : ℕ) → has_line s v id ≡ true → Present s v id × (leb 16 id ≡ true)
  unfolding has_line is_ppi
  lined v id e = step (is_ppi id) refl e
    where
      step : (b : Bool) → is_ppi id ≡ b → cond b (ltb v (vcpus s)) (is_spi s id) ≡ true → Present s v id × (leb 16 id ≡ true)
      step true p l = let a = both (leb 16 id) (ltb id 32) p in (own (ltb-true v (vcpus s) l) (ltb-true id 32 a.1), a.0)
      step false p l = let q = open-spi id l in (shared l, le-leb 16 id (omega arith))

  -- the latch may be set: with the line, or by an SGI
  pub latched : (b : Bool) (v id : ℕ) → Present s v id
      → Ready (cond b (set_flag latch_field true v id s) s) × ((u i : ℕ) → Present s u i → Present (cond b (set_flag latch_field true v id s) s) u i)
  latched true v id q = let l = stores-no-line latch_field true v id (omega arith) q in (leaves-ready l, λ u i. leaves-present u i l)
  latched false v id q = (h, λ u i p. p)

pub line-sound : (s : List ℕ) → Ready s → (v id : ℕ) (level : Bool) → has_line s v id ≡ true → Sound (line_changed s v id level)
unfolding line_changed
line-sound s h v id level e =
    let a = lined s h v id e in
    let b = latched s h (latches s v id level) v id a.0 in
    leaves-sound _ b.0 (stores-flag _ b.0 line_field level v id (omega arith) a.1 (b.1 v id a.0))
