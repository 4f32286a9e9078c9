-- A put of a listed attribute: on a device of the same set-up whose word there is fresh, or the first device's already, it leaves the first device's word there.
use Prim.Native.Nat.{ℕ, ◌+◌, ◌*◌, ◌-◌, ◌/◌, ◌%◌, ◌^◌, ◌≤◌, ◌<◌, min, max}
use mathlib.Core.Path.{◌≡◌, refl, sym, ap, ◌∙◌}
use mathlib.Core.Bool.{Bool, true, false, not, cond, ◌&&◌, ◌||◌, true≢false}
use mathlib.Core.List.{List}
use native.Mathlib.Nat.{mod-eq_of_lt}
use native.Mathlib.Omega.{arith}
use borrow.Author.Tests.{eqb-true, lt-ltb, le-leb}
use lib.Dec.{eqb, ltb, leb}
use lib.ListN.{get_or, set}
use Rattle.model.specs.Words.{bit, gather, within, all_below, spread, masked}
use Rattle.model.specs.Layout.{word, count, vcpus, block, bank, route_at, ctlr_field, bpr_field, bpr_at, least_bpr}
use Rattle.model.specs.Interrupts.{is_private, is_spi, flag, edge, priority}
use Rattle.model.specs.Sound.{fits, used_bits, block_bits, bank_bits, last_bank_bits}
use Rattle.model.specs.Registers.{has, seen_by, flag_after, write_flags, write_priority, write_config, write_route, write, flags, rule_for, written_status, status_at}
use Rattle.model.specs.Interface.{plain_write}
use Rattle.model.specs.Attributes.{Attribute, item_write}
use Rattle.model.specs.Demands.{Alike}
use Rattle.model.specs.declared.By.TheVariants as by
use Rattle.model.specs.declared.View.{View}
use Rattle.model.specs.declared.View.TheVariants.{Distributor, Frame}
use Rattle.model.specs.declared.Rule.{Rule}
use Rattle.model.specs.declared.Rule.TheVariants.{Replaces, Sets}
use Rattle.model.proofs.Bits.{word-is}
use Rattle.model.proofs.Tests.{both, implied, and-true, and-implied, below_at}
use Rattle.model.proofs.Within.{bit-none, fits-bit, fits_lt, fits_le, wider}
use Rattle.model.proofs.Soundness.{Ready, open-vcpu}
use Rattle.model.proofs.Masks.{route-bits, SpiWord, fits_word, header-word, block-word, bank-is}
use Rattle.model.proofs.Fields.{flag-bit, priority-bit, edge-bit, bank-at}
use Rattle.model.proofs.Readings.{flag-exists, priority-exists, edge-exists, private, line-ppi}
use Rattle.model.proofs.Listed.{Listed, Kept, groups, enables, latches, actives, Stored, pmr, ctlr, ap0r, ap1r, igrpen0, igrpen1, control, status, spi-flags, spi-lines, spi-priority, spi-config, spi-route, vcpu-status, vcpu-flags, vcpu-lines, vcpu-priority, vcpu-system, bpr0, bpr1}
use Rattle.model.proofs.Places.{stored_at, place_of, shown, system_shape, shape_of, plain_of, named_by, spread-bit}
use Rattle.model.proofs.Cover.{edge-words, spi-of, vcpu-of}
use Rattle.model.specs.Values.{icc_ctlr_fixed, icc_ctlr_bits, gicd_ctlr_fixed}

-- ---- one bit

-- what a write of bit b leaves of a flag that is clear, or b already
pub data Puts (old w : ℕ) : Rule → Type 0 where
  replaces : Puts old w Replaces
  sets-clear : old ≡ 0 → Puts old w Sets
  sets_same : old ≡ w → Puts old w Sets

or-itself : (b : Bool) → (b || b) ≡ b
or-itself true = refl
or-itself false = refl

written-bit : {old w : ℕ} {r : Rule} → Puts old w r → (i : ℕ) → flag_after r (bit old i) (bit w i) ≡ bit w i
unfolding flag_after
written-bit replaces i = refl
written-bit (sets-clear e) i = rw (e, bit-none i)
written-bit (sets_same e) i = rw e (or-itself _)

-- where an interrupt does not exist neither word has a bit
kept-bit : (e old b : Bool) {x : Bool} → x ≡ b → (old ≡ true → e ≡ true) → (b ≡ true → e ≡ true) → cond e x old ≡ b
kept-bit true old b h p q = h
kept-bit false true b h p q = absurd (true≢false (sym (p refl)))
kept-bit false false true h p q = absurd (true≢false (sym (q refl)))
kept-bit false false false h p q = refl

same_bits : (w : ℕ) (f : ℕ → Bool) → w < 2 ^ 32 → ((i : ℕ) → i < 32 → f i ≡ bit w i) → gather 32 f ≡ w
same_bits w f l h = sym (word-is 32 w f l (λ i m. sym (h i m)))

-- ---- the registers

module _ (s : List ℕ) (h : Ready s) where
  puts-flags : (x : View) (k from b : ℕ) {r : Rule} (w : ℕ) → Puts (word s (bank (seen_by x) b + k)) w r → w < 2 ^ 32
      → ((i : ℕ) → i < 32 → bit (word s (bank (seen_by x) b + k)) i ≡ true → (has s x (32 * b + i) && leb from (32 * b + i)) ≡ true)
      → ((i : ℕ) → i < 32 → bit w i ≡ true → (has s x (32 * b + i) && leb from (32 * b + i)) ≡ true)
      → write_flags s x k from r b w ≡ set s (bank (seen_by x) b + k) w
  unfolding write_flags
  puts-flags x k from b {r} w q l p t = ap (set s (bank (seen_by x) b + k)) (same_bits w _ l at)
    where
      at : (i : ℕ) → i < 32
          → cond (has s x (32 * b + i) && leb from (32 * b + i)) (flag_after r (flag k s (seen_by x) (32 * b + i)) (bit w i)) (flag k s (seen_by x) (32 * b + i)) ≡ bit w i
      at i m =
          rw (flag-bit s (seen_by x) b k i m)
          (kept-bit (has s x (32 * b + i) && leb from (32 * b + i)) (bit (word s (bank (seen_by x) b + k)) i) (bit w i)
          (written-bit q i) (p i m) (t i m))

  -- priorities: any word of multiples of 8
  high_bits : all_below (λ i. not (bit 0xf8f8f8f8 i) || leb 3 (i % 8)) 32 ≡ true
  unfolding all_below bit
  high_bits = refl

  eights : (w i : ℕ) → fits w 0xf8f8f8f8 ≡ true → i < 32 → bit w i ≡ true → leb 3 (i % 8) ≡ true
  eights w i f l b = implied (bit 0xf8f8f8f8 i) (leb 3 (i % 8)) (below_at _ 32 high_bits i l) (fits-bit w 0xf8f8f8f8 i f b)

  puts-priority : (x : View) (b j w : ℕ) → j < 8 → fits w 0xf8f8f8f8 ≡ true
      → ((i : ℕ) → i < 32 → bit (word s (bank (seen_by x) b + 5 + j)) i ≡ true → has s x (4 * (8 * b + j) + i / 8) ≡ true)
      → ((i : ℕ) → i < 32 → bit w i ≡ true → has s x (4 * (8 * b + j) + i / 8) ≡ true)
      → write_priority s x (λ n. true) (8 * b + j) w ≡ set s (bank (seen_by x) b + 5 + j) w
  unfolding write_priority
  puts-priority x b j w l f p t =
      let d : (8 * b + j) / 8 ≡ b = omega arith in
      let r : (8 * b + j) % 8 ≡ j = omega arith in
      rw (d, r) (ap (set s (bank (seen_by x) b + 5 + j)) (same_bits w _ (fits_lt w 0xf8f8f8f8 f) at))
    where
      at : (i : ℕ) → i < 32
          → cond (true && has s x (4 * (8 * b + j) + i / 8)) (leb 3 (i % 8) && bit w i) (bit (priority s (seen_by x) (4 * (8 * b + j) + i / 8)) (i % 8)) ≡ bit w i
      at i m =
          rw (priority-bit s (seen_by x) b j i l m) (kept-bit (has s x (4 * (8 * b + j) + i / 8)) (bit (word s (bank (seen_by x) b + 5 + j)) i) (bit w i)
          (and-implied (leb 3 (i % 8)) (bit w i) (eights w i f m)) (p i m) (t i m))

  -- edge flags, as ICFGR reads them
  puts-config : (b j w : ℕ) → SpiWord s b → j < 2 → w < 2 ^ 16
      → ((i : ℕ) → i < 16 → bit (word s (256 + 16 * b + (13 + j))) i ≡ true → is_spi s (32 * b + 16 * j + i) ≡ true)
      → ((i : ℕ) → i < 16 → bit w i ≡ true → is_spi s (32 * b + 16 * j + i) ≡ true)
      → write_config s Distributor (2 * b + j) (spread w) ≡ set s (256 + 16 * b + (13 + j)) w
  unfolding write_config has seen_by
  puts-config b j w q l f p t =
      let d : (2 * b + j) / 2 ≡ b = omega arith in
      let r : (2 * b + j) % 2 ≡ j = omega arith in
      let k : bank 0 b + 13 + j ≡ 256 + 16 * b + (13 + j) = rw (bank-at 0 b q.low) (omega arith) in
      rw (d, r, k) (ap (set s (256 + 16 * b + (13 + j))) (sym (word-is 16 w _ f (λ i m. sym (at i m)))))
    where
      at : (i : ℕ) → i < 16 → cond (is_spi s (16 * (2 * b + j) + i)) (bit (spread w) (2 * i + 1)) (edge s 0 (16 * (2 * b + j) + i)) ≡ bit w i
      at i m =
          let e : 16 * (2 * b + j) + i ≡ 32 * b + 16 * j + i = omega arith in
          let k : bank 0 b + 13 + j ≡ 256 + 16 * b + (13 + j) = rw (bank-at 0 b q.low) (omega arith) in
          rw (edge-bit s 0 b j i l m, e, k) (kept-bit (is_spi s (32 * b + 16 * j + i)) (bit (word s (256 + 16 * b + (13 + j))) i) (bit w i) (spread-bit w i m) (p i m) (t i m))

  puts-route : (id w : ℕ) → 32 ≤ id → id < min (count s) 1020 → w < 2 ^ 24 → write_route s Distributor (2 * (id - 32)) w ≡ set s (route_at id) w
  unfolding write_route has is_spi
  puts-route id w l m f =
      let e : 2 * (id - 32) % 2 ≡ 0 = omega arith in
      let g : 32 + 2 * (id - 32) / 2 ≡ id = omega arith in
      rw (e, g, le-leb 32 id l, lt-ltb id (min (count s) 1020) m, mod-eq_of_lt f)

-- ---- the words that a sound device has, as a put wants them

-- what holds of each number below n that fits a mask, by one computed test
of_mask : (m n : ℕ) (f : ℕ → Bool) → all_below (λ w. not (fits w m) || f w) n ≡ true → (w : ℕ) → w < n → fits w m ≡ true → f w ≡ true
of_mask m n f e w l h = implied (fits w m) (f w) (below_at (λ u. not (fits u m) || f u) n e w l) h

-- PMR: bits 7-3
pmr-word : (w : ℕ) → fits w 0xf8 ≡ true → w % 256 / 8 * 8 ≡ w
pmr-word w e = eqb-true _ _ (of_mask 0xf8 249 (λ u. eqb (u % 256 / 8 * 8) u) test w (omega (arith, fits_le w 0xf8 e)) e)
  where
    test : all_below (λ u. not (fits u 0xf8) || eqb (u % 256 / 8 * 8) u) 249 ≡ true
    test = unfold all_below fits within in refl

-- CTLR: the bits that it keeps
pub ctlr-word : (w : ℕ) → fits w icc_ctlr_bits ≡ true → masked icc_ctlr_bits (icc_ctlr_fixed + w) ≡ w
ctlr-word w e = eqb-true _ _ (of_mask icc_ctlr_bits (icc_ctlr_bits + 1) (λ u. eqb (masked icc_ctlr_bits (icc_ctlr_fixed + u)) u) test w (omega (arith, fits_le w icc_ctlr_bits e)) e)
  where
    test : all_below (λ u. not (fits u icc_ctlr_bits) || eqb (masked icc_ctlr_bits (icc_ctlr_fixed + u)) u) (icc_ctlr_bits + 1) ≡ true
    test = unfold all_below fits within masked gather bit in refl

module _ (s : List ℕ) (h : Ready s) where
  route-word : (id : ℕ) → 32 ≤ id → id < min (count s) 1020 → word s (route_at id) < 2 ^ 24
  route-word id l m = omega (arith, fits_le (word s (route_at id)) 0x00ffffff (rw (route-bits (count s) (vcpus s) id l m) at (h.used (route_at id) (omega arith))))

  -- the masks of the eight words of priorities, by one computed test
  eight-masks : all_below (λ j. eqb (get_or bank_bits (5 + j) 0) 0xf8f8f8f8 && (within 32 (get_or last_bank_bits (5 + j) 0) 0xf8f8f8f8 && eqb (get_or block_bits (5 + j) 0) 0xf8f8f8f8)) 8 ≡ true
  unfolding all_below within
  eight-masks = refl

  eight-words : (j : ℕ) → j < 8 → (get_or bank_bits (5 + j) 0 ≡ 0xf8f8f8f8) × (within 32 (get_or last_bank_bits (5 + j) 0) 0xf8f8f8f8 ≡ true) × (get_or block_bits (5 + j) 0 ≡ 0xf8f8f8f8)
  eight-words j l =
      let a = both (eqb (get_or bank_bits (5 + j) 0) 0xf8f8f8f8) _ (below_at _ 8 eight-masks j l) in
      let b = both (within 32 (get_or last_bank_bits (5 + j) 0) 0xf8f8f8f8) (eqb (get_or block_bits (5 + j) 0) 0xf8f8f8f8) a.1 in
      (eqb-true _ _ a.0, b.0, eqb-true _ _ b.1)

  spi-eights : (w j : ℕ) → SpiWord s w → j < 8 → fits (word s (256 + 16 * w + (5 + j))) 0xf8f8f8f8 ≡ true
  spi-eights w j q l =
      let p = 256 + 16 * w + (5 + j) in
      let e = eight-words j l in
      wider (word s p) (used_bits (count s) (vcpus s) p) 0xf8f8f8f8 (h.used p (omega (arith, q.high, h.counted.most)))
      (bank-is s h (λ x. within 32 x 0xf8f8f8f8 ≡ true) w (5 + j) q (omega arith) (λ r. rw e.0 (unfold within in refl)) (λ r. e.1))

-- ---- a put of a listed attribute

-- what the register does with a bit: the set registers of a pair set, all others replace
abbrev pub kept_rule : Kept → Rule
kept_rule groups = Replaces
kept_rule enables = Sets
kept_rule latches = Replaces
kept_rule actives = Sets

abbrev pub rule_of : {s : List ℕ} {a : Attribute} → Listed s a → Rule
rule_of control = Replaces
rule_of status = Replaces
rule_of (spi-flags w k q) = kept_rule k
rule_of (spi-lines w q) = Replaces
rule_of (spi-priority w j q l) = Replaces
rule_of (spi-config w j q l) = Replaces
rule_of (spi-route id l h) = Replaces
rule_of (vcpu-status v l) = Replaces
rule_of (vcpu-flags v k l) = kept_rule k
rule_of (vcpu-lines v l) = Replaces
rule_of (vcpu-priority v j l m) = Replaces
rule_of (vcpu-system v p l) = Replaces

module _ (f s : List ℕ) (hf : Ready f) (hs : Ready s) (same : Alike f s) where
  same-spi : (id : ℕ) → is_spi f id ≡ true → is_spi s id ≡ true
  unfolding is_spi
  same-spi id e = rw same.same_count e

  put-spi-flags : (w k from : ℕ) {r : Rule} → Puts (word s (256 + 16 * w + k)) (word f (256 + 16 * w + k)) r → SpiWord f w → k < 5 → from ≤ 32
      → write_flags s Distributor k from r w (word f (256 + 16 * w + k)) ≡ set s (256 + 16 * w + k) (word f (256 + 16 * w + k))
  unfolding has seen_by
  put-spi-flags w k from q o l g =
      let b : bank 0 w ≡ 256 + 16 * w = bank-at 0 w o.low in
      let at_least : (i : ℕ) → leb from (32 * w + i) ≡ true = λ i. le-leb from (32 * w + i) (omega (arith, o.low)) in
      puts-flags s hs Distributor k from w (word f (256 + 16 * w + k)) (rw b q) (fits_word f hf (256 + 16 * w + k) (omega (arith, o.high, hf.counted.most)))
      (λ i m e. and-true (flag-exists s hs w k i (spi-of f s same w o) l m (rw b at e)) (at_least i))
      (λ i m e. and-true (same-spi (32 * w + i) (flag-exists f hf w k i o l m e)) (at_least i))
      ∙ rw b

  put-private-flags : (v k : ℕ) {r : Rule} → Puts (word s (block v + k)) (word f (block v + k)) r → v < vcpus f → k < 4
      → write_flags s (Frame v) k 0 r 0 (word f (block v + k)) ≡ set s (block v + k) (word f (block v + k))
  unfolding has seen_by
  put-private-flags v k q l m =
      puts-flags s hs (Frame v) k 0 0 (word f (block v + k)) q (fits_word f hf (block v + k) (omega (arith, hf.few)))
      (λ i n e. and-true (private s hs i n) (le-leb 0 (32 * 0 + i) (omega arith))) (λ i n e. and-true (private s hs i n) (le-leb 0 (32 * 0 + i) (omega arith)))

  put-private-lines : (v : ℕ) → v < vcpus f
      → write_flags s (Frame v) 4 16 Replaces 0 (word f (block v + 4)) ≡ set s (block v + 4) (word f (block v + 4))
  unfolding has seen_by
  put-private-lines v l =
      puts-flags s hs (Frame v) 4 16 0 (word f (block v + 4)) replaces (fits_word f hf (block v + 4) (omega (arith, hf.few)))
      (λ i n e. and-true (private s hs i n) (line-ppi s hs v (vcpu-of f s same v l) i n e)) (λ i n e. and-true (private s hs i n) (line-ppi f hf v l i n e))

  put-spi-priority : (w j : ℕ) → SpiWord f w → j < 8
      → write_priority s Distributor (λ n. true) (8 * w + j) (word f (256 + 16 * w + (5 + j))) ≡ set s (256 + 16 * w + (5 + j)) (word f (256 + 16 * w + (5 + j)))
  unfolding has seen_by
  put-spi-priority w j q l =
      let b : bank 0 w + 5 + j ≡ 256 + 16 * w + (5 + j) = rw (bank-at 0 w q.low) (omega arith) in
      let e : (i : ℕ) → 4 * (8 * w + j) + i / 8 ≡ 32 * w + 4 * j + i / 8 = λ i. omega arith in
      puts-priority s hs Distributor w j (word f (256 + 16 * w + (5 + j))) l (spi-eights f hf w j q l)
      (λ i m t. rw (e i) (priority-exists s hs w j i (spi-of f s same w q) l m (rw b at t)))
      (λ i m t. rw (e i) (same-spi (32 * w + 4 * j + i / 8) (priority-exists f hf w j i q l m t)))
      ∙ rw b

  put-private-priority : (v j : ℕ) → v < vcpus f → j < 8
      → write_priority s (Frame v) (λ n. true) j (word f (block v + (5 + j))) ≡ set s (block v + (5 + j)) (word f (block v + (5 + j)))
  unfolding has seen_by is_private
  put-private-priority v j l m =
      let z : 8 * 0 + j ≡ j = omega arith in
      let b : block v + 5 + j ≡ block v + (5 + j) = omega arith in
      let own : (i : ℕ) → i < 32 → ltb (4 * (8 * 0 + j) + i / 8) 32 ≡ true = λ i n. lt-ltb (4 * (8 * 0 + j) + i / 8) 32 (omega arith) in
      rw z at (puts-priority s hs (Frame v) 0 j (word f (block v + (5 + j))) m (rw (eight-words f hf j m).2 at (block-word f hf v (5 + j) l (omega arith))) (λ i n t. own i n) (λ i n t. own i n))
      ∙ rw b

  put-system : (v : ℕ) (p : Stored) → v < vcpus f
      → plain_write by.Attribute s v (plain_of p) (shown (system_shape p) (word f (block v + stored_at p))) ≡ set s (block v + stored_at p) (word f (block v + stored_at p))
  unfolding plain_write
  put-system v pmr l = ap (set s (block v + 19)) (pmr-word _ (block-word f hf v 19 l (omega arith)))
  put-system v ctlr l = ap (set s (block v + 20)) (ctlr-word _ (block-word f hf v ctlr_field l (omega arith)))
  put-system v bpr0 l =
      let w = word f (bpr_at v 0) in
      let e : max (least_bpr 0) (w % 8) ≡ w = omega (arith, fits_le w 7 (block-word f hf v (bpr_field 0) l (omega arith)), (open-vcpu f v (hf.each_vcpu v l)).bpr0) in
      ap (set s (bpr_at v 0)) e
  put-system v bpr1 l =
      let w = word f (bpr_at v 1) in
      let e : max (least_bpr 1) (w % 8) ≡ w = omega (arith, fits_le w 7 (block-word f hf v (bpr_field 1) l (omega arith)), (open-vcpu f v (hf.each_vcpu v l)).bpr1) in
      ap (set s (bpr_at v 1)) e
  put-system v ap0r l = ap (set s (block v + 23)) (mod-eq_of_lt (fits_word f hf (block v + 23) (omega (arith, hf.few))))
  put-system v ap1r l = ap (set s (block v + 24)) (mod-eq_of_lt (fits_word f hf (block v + 24) (omega (arith, hf.few))))
  put-system v igrpen0 l =
      let w = word f (block v + 25) in
      let e : w % 2 ≡ w = omega (arith, fits_le w 1 (block-word f hf v 25 l (omega arith))) in
      ap (set s (block v + 25)) e
  put-system v igrpen1 l =
      let w = word f (block v + 26) in
      let e : w % 2 ≡ w = omega (arith, fits_le w 1 (block-word f hf v 26 l (omega arith))) in
      ap (set s (block v + 26)) e

  pub put_item : {a : Attribute} (l : Listed f a) → Puts (word s (place_of l)) (word f (place_of l)) (rule_of l)
      → item_write s (named_by l) (shown (shape_of l) (word f (place_of l))) ≡ set s (place_of l) (word f (place_of l))
  unfolding item_write write flags rule_for written_status status_at seen_by
  put_item control before =
      let w = word f 3 in
      let e : (gicd_ctlr_fixed + w) % 4 ≡ w = omega (arith, fits_le w 3 (header-word f hf 3 (omega arith))) in
      ap (set s 3) e
  put_item status before =
      let w = word f 4 in
      let e : w % 16 ≡ w = omega (arith, fits_le w 15 (header-word f hf 4 (omega arith))) in
      ap (set s 4) e
  put_item (spi-flags w groups q) before = put-spi-flags w 0 0 before q (omega arith) (omega arith)
  put_item (spi-flags w enables q) before = put-spi-flags w 1 0 before q (omega arith) (omega arith)
  put_item (spi-flags w latches q) before = put-spi-flags w 2 0 before q (omega arith) (omega arith)
  put_item (spi-flags w actives q) before = put-spi-flags w 3 0 before q (omega arith) (omega arith)
  put_item (spi-lines w q) before = put-spi-flags w 4 16 before q (omega arith) (omega arith)
  put_item (spi-priority w j q l) before = put-spi-priority w j q l
  put_item (spi-config w j q l) before =
      puts-config s hs w j (word f (256 + 16 * w + (13 + j))) (spi-of f s same w q) l (edge-words f hf w j q l)
      (λ i m e. edge-exists s hs w j i (spi-of f s same w q) l m e) (λ i m e. same-spi (32 * w + 16 * j + i) (edge-exists f hf w j i q l m e))
  put_item (spi-route id l m) before = puts-route s hs id (word f (route_at id)) l (rw same.same_count m) (route-word f hf id l m)
  put_item (vcpu-status v l) before =
      let w = word f (block v + 18) in
      let e : w % 16 ≡ w = omega (arith, fits_le w 15 (block-word f hf v 18 l (omega arith))) in
      ap (set s (block v + 18)) e
  put_item (vcpu-flags v groups l) before = put-private-flags v 0 before l (omega arith)
  put_item (vcpu-flags v enables l) before = put-private-flags v 1 before l (omega arith)
  put_item (vcpu-flags v latches l) before = put-private-flags v 2 before l (omega arith)
  put_item (vcpu-flags v actives l) before = put-private-flags v 3 before l (omega arith)
  put_item (vcpu-lines v l) before = put-private-lines v l
  put_item (vcpu-priority v j l m) before = put-private-priority v j l m
  put_item (vcpu-system v p l) before = put-system v p l
