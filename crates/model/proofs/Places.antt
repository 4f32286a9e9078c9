-- Each listed attribute is one word of the state, at a place of its own, and what it reads is one-to-one in that word.
use Rattle.std.specs.Prelude.{Some, None, Option}
use Prim.Native.Nat.{ℕ, zero, suc, ◌+◌, ◌*◌, ◌-◌, ◌/◌, ◌%◌, ◌^◌, ◌≤◌, ◌<◌}
use mathlib.Core.Path.{◌≡◌, refl, sym, ap, ◌∙◌}
use mathlib.Core.Bool.{Bool, true, false, cond, ◌&&◌}
use mathlib.Core.List.{List, [], ◌∷◌}
use native.Mathlib.Nat.{mod-eq_of_lt}
use native.Mathlib.Decide.{ℕ_discrete}
use native.Mathlib.Omega.{arith}
use borrow.Author.Tests.{eq-eqb, ne_eqb, lt-ltb, le-ltb, not-true}
use lib.Dec.{eqb, ltb}
use lib.ListN.{get_or}
use Rattle.model.specs.Words.{bit, lowest, spread}
use Rattle.model.specs.Layout.{word, vcpus, block, bank, affinity, route_at, pmr_at, bpr_at, apr_at, ctlr_at, igrpen_at, affinity_at, bpr_field}
use Rattle.model.specs.Registers.{decode, rows, read, flags, shown_to, status_at, seen_by}
use Rattle.model.specs.Interface.{system, system_in, group_index, plain_read}
use Rattle.model.specs.Attributes.{Attribute, attr, low, high, group_of, index_of, mapped_item, mapped, system_item, item, item_in, item_of, item_read}
use Rattle.model.specs.Record.{of_vcpu}
use Rattle.model.specs.declared.View.{View}
use Rattle.model.specs.declared.View.TheVariants.{Distributor, Frame}
use Rattle.model.specs.declared.Flags.{Flags}
use Rattle.model.specs.declared.Flags.TheVariants.{Group, SetEnable, SetPending, SetActive, Lines}
use Rattle.model.specs.declared.Register.{Register}
use Rattle.model.specs.declared.Register.TheVariants.{Fixed, Control, Typer, Iidr, Status, Bits, Priority, Config, Route, FrameTyper, FrameAffinity}
use Rattle.model.specs.declared.InterruptGroup.TheVariants.{Group0, Group1}
use Rattle.model.specs.declared.Plain.{Plain}
use Rattle.model.specs.declared.Plain.TheVariants.{Pmr, Bpr, Apr, Ctlr, Sre, Igrpen}
use Rattle.model.specs.declared.SystemRegister.TheVariants.{Both}
use Rattle.model.specs.declared.Item.{Item}
use Rattle.model.specs.declared.Item.TheVariants.{Mapped, System}
use Rattle.model.proofs.Bits.{bit-gather, word-is}
use Rattle.model.proofs.Soundness.{Ready, open-vcpu}
use Rattle.model.proofs.Decode.{decode-group, decode-set-enable, decode-set-pending, decode-set-active, decode-priority, decode-config, decode-route, decode-control, decode-status, decode-frame-priority, decode-frame-status, decode-frame-group, decode-frame-set-enable, decode-frame-set-pending, decode-frame-set-active}
use Rattle.model.proofs.Fields.{bank-at}
use Rattle.model.proofs.Readings.{reads-spi-flags, reads-private-flags, reads-private-lines, reads-spi-priority, reads-private-priority, reads-spi-config, reads-route}
use Rattle.model.proofs.Listed.{Kept, groups, enables, latches, actives, offset_of, Stored, pmr, ctlr, ap0r, ap1r, igrpen0, igrpen1, encoding_of, Listed, control, status, spi-flags, spi-lines, spi-priority, spi-config, spi-route, vcpu-status, vcpu-flags, vcpu-lines, vcpu-priority, vcpu-system, bpr0, bpr1}
use Rattle.model.proofs.Masks.{SpiWord, fits_word}
use Rattle.model.specs.Values.{icc_ctlr_fixed, gicd_ctlr_fixed}

-- ---- the place, and how the word there is shown

abbrev pub field_of : Kept → ℕ
field_of groups = 0
field_of enables = 1
field_of latches = 2
field_of actives = 3

abbrev pub stored_at : Stored → ℕ
stored_at pmr = 19
stored_at ctlr = 20
stored_at bpr0 = 21
stored_at bpr1 = 22
stored_at ap0r = 23
stored_at ap1r = 24
stored_at igrpen0 = 25
stored_at igrpen1 = 26

pub field-small : (k : Kept) → field_of k < 4
field-small groups = omega arith
field-small enables = omega arith
field-small latches = omega arith
field-small actives = omega arith

pub stored-small : (p : Stored) → (18 ≤ stored_at p) × (stored_at p < 27)
stored-small pmr = omega arith
stored-small ctlr = omega arith
stored-small bpr0 = omega arith
stored-small bpr1 = omega arith
stored-small ap0r = omega arith
stored-small ap1r = omega arith
stored-small igrpen0 = omega arith
stored-small igrpen1 = omega arith

pub small-encoding : (p : Stored) → encoding_of p < 2 ^ 32
small-encoding pmr = omega arith
small-encoding ctlr = omega arith
small-encoding bpr0 = omega arith
small-encoding bpr1 = omega arith
small-encoding ap0r = omega arith
small-encoding ap1r = omega arith
small-encoding igrpen0 = omega arith
small-encoding igrpen1 = omega arith

abbrev pub place_of : {s : List ℕ} {a : Attribute} → Listed s a → ℕ
place_of control = 3
place_of status = 4
place_of (spi-flags w k q) = 256 + 16 * w + field_of k
place_of (spi-lines w q) = 256 + 16 * w + 4
place_of (spi-priority w j q l) = 256 + 16 * w + (5 + j)
place_of (spi-config w j q l) = 256 + 16 * w + (13 + j)
place_of (spi-route id l h) = route_at id
place_of (vcpu-status v l) = block v + 18
place_of (vcpu-flags v k l) = block v + field_of k
place_of (vcpu-lines v l) = block v + 4
place_of (vcpu-priority v j l m) = block v + (5 + j)
place_of (vcpu-system v p l) = block v + stored_at p

-- a word is shown as itself, above a base, or as sixteen flags at the odd bits
pub data Shape : Type 0 where
  itself edges : Shape
  above : ℕ → Shape

abbrev pub shown : Shape → ℕ → ℕ
shown itself w = w
shown edges w = spread w
shown (above c) w = c + w

abbrev pub system_shape : Stored → Shape
system_shape pmr = itself
system_shape ctlr = above icc_ctlr_fixed
system_shape bpr0 = itself
system_shape bpr1 = itself
system_shape ap0r = itself
system_shape ap1r = itself
system_shape igrpen0 = itself
system_shape igrpen1 = itself

abbrev pub shape_of : {s : List ℕ} {a : Attribute} → Listed s a → Shape
shape_of control = above gicd_ctlr_fixed
shape_of status = itself
shape_of (spi-flags w k q) = itself
shape_of (spi-lines w q) = itself
shape_of (spi-priority w j q l) = itself
shape_of (spi-config w j q l) = edges
shape_of (spi-route id l h) = itself
shape_of (vcpu-status v l) = itself
shape_of (vcpu-flags v k l) = itself
shape_of (vcpu-lines v l) = itself
shape_of (vcpu-priority v j l m) = itself
shape_of (vcpu-system v p l) = system_shape p

-- ---- the item that it names

abbrev pub flags_of : Kept → Flags
flags_of groups = Group
flags_of enables = SetEnable
flags_of latches = SetPending
flags_of actives = SetActive

abbrev pub plain_of : Stored → Plain
plain_of pmr = Pmr
plain_of ctlr = Ctlr
plain_of bpr0 = Bpr Group0
plain_of bpr1 = Bpr Group1
plain_of ap0r = Apr Group0
plain_of ap1r = Apr Group1
plain_of igrpen0 = Igrpen Group0
plain_of igrpen1 = Igrpen Group1

abbrev pub named_by : {s : List ℕ} {a : Attribute} → Listed s a → Option Item
named_by control = Some (Mapped Distributor Control 0)
named_by status = Some (Mapped Distributor Status 0)
named_by (spi-flags w k q) = Some (Mapped Distributor (Bits (flags_of k)) w)
named_by (spi-lines w q) = Some (Mapped Distributor (Bits Lines) w)
named_by (spi-priority w j q l) = Some (Mapped Distributor Priority (8 * w + j))
named_by (spi-config w j q l) = Some (Mapped Distributor Config (2 * w + j))
named_by (spi-route id l h) = Some (Mapped Distributor Route (2 * (id - 32)))
named_by (vcpu-status v l) = Some (Mapped (Frame v) Status 0)
named_by (vcpu-flags v k l) = Some (Mapped (Frame v) (Bits (flags_of k)) 0)
named_by (vcpu-lines v l) = Some (Mapped (Frame v) (Bits Lines) 0)
named_by (vcpu-priority v j l m) = Some (Mapped (Frame v) Priority j)
named_by (vcpu-system v p l) = Some (System (Frame v) (plain_of p))

-- the index of a vCPU's affinity is its index
lowest-is : (f : ℕ → Bool) (n i v : ℕ) → i ≤ v → v < i + n → f v ≡ true → ((u : ℕ) → u < v → f u ≡ false) → lowest f n i ≡ v
unfolding lowest
lowest-is f zero i v a b e h = absurd (omega arith)
lowest-is f (suc n) i v a b e h = go (ℕ_discrete i v) (λ q. lowest-is f n (suc i) v q (omega arith) e h)
  where
    go : Dec (i ≡ v) → (suc i ≤ v → lowest f n (suc i) ≡ v) → elim (f i) [ true ↦ i | false ↦ lowest f n (suc i) ] ≡ v
    go (yes q) ih = let t : f i ≡ true = rw q e in rw t q
    go (no q) ih = let t : f i ≡ false = h i (omega arith) in rw t (ih (omega arith))

module _ (s : List ℕ) (h : Ready s) where
  pub index-of : (v : ℕ) → v < vcpus s → index_of s (affinity s v) ≡ v
  unfolding index_of
  index-of v l =
      lowest-is (λ u. eqb (affinity s u) (affinity s v)) (vcpus s) 0 v (omega arith) (omega arith) (eq-eqb (affinity s v) (affinity s v) refl)
      (λ u m. not-true _ ((open-vcpu s v (h.each_vcpu v l)).distinct u m))

  -- the parts of an attribute's number of vCPU v
  pub vcpu-parts : (v a : ℕ) → v < vcpus s → a < 2 ^ 32 → (low (of_vcpu s v a) ≡ a) × (high (of_vcpu s v a) ≡ affinity s v)
  vcpu-parts v a q l =
      let d : of_vcpu s v a / 2 ^ 32 ≡ affinity s v = omega arith in
      (omega arith, ap (λ (x : ℕ). x % 2 ^ 32) d ∙ mod-eq_of_lt (fits_word s h (affinity_at v) (omega (arith, h.few))))

  -- attributes of the distributor, of a frame, of a CPU interface
  in-distributor : (off k : ℕ) (r : Register) → off < 2 ^ 32 → off % 4 ≡ 0 → decode (rows Distributor) off ≡ Some (r, k) → item_of (attr 1 off) s ≡ Some (Mapped Distributor r k)
  unfolding item_of item_in group_of item mapped mapped_item
  in-distributor off k r l m e =
      let z : low off ≡ off = omega arith in
      rw (z, m, e)

  in_frame : (v off k : ℕ) (r : Register) → v < vcpus s → off < 2 ^ 32 → off % 4 ≡ 0 → decode (rows (Frame v)) off ≡ Some (r, k)
      → item_of (attr 5 (of_vcpu s v off)) s ≡ Some (Mapped (Frame v) r k)
  unfolding item_of item_in group_of item mapped mapped_item
  in_frame v off k r q l m e =
      let z = vcpu-parts v off q l in
      rw (z.0, z.1, index-of v q, m, e)

  in-interface : (v : ℕ) (p : Stored) → v < vcpus s → item_of (attr 6 (of_vcpu s v (encoding_of p))) s ≡ Some (System (Frame v) (plain_of p))
  unfolding item_of item_in group_of item system_item
  in-interface v p q =
      let z = vcpu-parts v (encoding_of p) q (small-encoding p) in
      rw (z.0, z.1, index-of v q, names p)
    where
      names : (o : Stored) → system (encoding_of o) ≡ Both (plain_of o)
      names pmr = unfold system system_in in refl
      names ctlr = unfold system system_in in refl
      names bpr0 = unfold system system_in in refl
      names bpr1 = unfold system system_in in refl
      names ap0r = unfold system system_in in refl
      names ap1r = unfold system system_in in refl
      names igrpen0 = unfold system system_in in refl
      names igrpen1 = unfold system system_in in refl

  -- every listed attribute names its item
  pub names-item : {a : Attribute} (l : Listed s a) → item_of a s ≡ named_by l
  names-item control = in-distributor 0x0 0 Control (omega arith) refl decode-control
  names-item status = in-distributor 0x10 0 Status (omega arith) refl decode-status
  names-item (spi-flags w k q) = of-kept k
    where
      few : w < 32
      few = omega (arith, q.high, h.counted.most)

      of-kept : (o : Kept) → item_of (attr 1 (offset_of o + 4 * w)) s ≡ Some (Mapped Distributor (Bits (flags_of o)) w)
      of-kept groups = let m = few in in-distributor (0x80 + 4 * w) w (Bits Group) (omega arith) (omega arith) (decode-group w few)
      of-kept enables = let m = few in in-distributor (0x100 + 4 * w) w (Bits SetEnable) (omega arith) (omega arith) (decode-set-enable w few)
      of-kept latches = let m = few in in-distributor (0x200 + 4 * w) w (Bits SetPending) (omega arith) (omega arith) (decode-set-pending w few)
      of-kept actives = let m = few in in-distributor (0x300 + 4 * w) w (Bits SetActive) (omega arith) (omega arith) (decode-set-active w few)
  names-item (spi-lines w q) = in_lines w q.low (omega (arith, q.high, h.counted.most))
    where
      in_lines : (u : ℕ) → 1 ≤ u → u < 32 → item_of (attr 7 (32 * u)) s ≡ Some (Mapped Distributor (Bits Lines) u)
      in_lines u a b = unfold item_of item_in group_of item in
          (let z : low (32 * u) ≡ 32 * u = omega arith in
          let d : 32 * u / 32 ≡ u = omega arith in
          rw (z, le-ltb (32 * u) 32 (omega arith), d))
  names-item (spi-priority w j q l) =
      let few : w < 32 = omega (arith, q.high, h.counted.most) in
      let e : 0x400 + 32 * w + 4 * j ≡ 0x400 + 4 * (8 * w + j) = omega arith in
      rw e (in-distributor (0x400 + 4 * (8 * w + j)) (8 * w + j) Priority (omega arith) (omega arith) (decode-priority (8 * w + j) (omega arith)))
  names-item (spi-config w j q l) =
      let few : w < 32 = omega (arith, q.high, h.counted.most) in
      let e : 0xc00 + 8 * w + 4 * j ≡ 0xc00 + 4 * (2 * w + j) = omega arith in
      rw e (in-distributor (0xc00 + 4 * (2 * w + j)) (2 * w + j) Config (omega arith) (omega arith) (decode-config (2 * w + j) (omega arith)))
  names-item (spi-route id l m) =
      let e : 0x6000 + 8 * id ≡ 0x6100 + 4 * (2 * (id - 32)) = omega arith in
      rw e (in-distributor (0x6100 + 4 * (2 * (id - 32))) (2 * (id - 32)) Route (omega arith) (omega arith) (decode-route (2 * (id - 32)) (omega arith)))
  names-item (vcpu-status v l) = in_frame v 0x10 0 Status l (omega arith) refl (decode-frame-status v)
  names-item (vcpu-flags v k l) = of-kept k
    where
      of-kept : (o : Kept) → item_of (attr 5 (of_vcpu s v (0x10000 + offset_of o))) s ≡ Some (Mapped (Frame v) (Bits (flags_of o)) 0)
      of-kept groups = in_frame v 0x10080 0 (Bits Group) l (omega arith) refl (decode-frame-group v)
      of-kept enables = in_frame v 0x10100 0 (Bits SetEnable) l (omega arith) refl (decode-frame-set-enable v)
      of-kept latches = in_frame v 0x10200 0 (Bits SetPending) l (omega arith) refl (decode-frame-set-pending v)
      of-kept actives = in_frame v 0x10300 0 (Bits SetActive) l (omega arith) refl (decode-frame-set-active v)
  names-item (vcpu-lines v l) = in_lines
    where
      in_lines : item_of (attr 7 (of_vcpu s v 0)) s ≡ Some (Mapped (Frame v) (Bits Lines) 0)
      in_lines = unfold item_of item_in group_of item in
          (let z = vcpu-parts v 0 l (omega arith) in
          rw (z.0, z.1, index-of v l))
  names-item (vcpu-priority v j l m) = in_frame v (0x10400 + 4 * j) j Priority l (omega arith) (omega arith) (decode-frame-priority v j m)
  names-item (vcpu-system v p l) = in-interface v p l

  -- and reads the word at its place
  item-reads : {a : Attribute} (l : Listed s a) → item_read s (named_by l) ≡ shown (shape_of l) (word s (place_of l))
  unfolding item_read read flags shown_to status_at plain_read seen_by
  item-reads control = refl
  item-reads status = refl
  item-reads (spi-flags w groups q) = reads-spi-flags s h w 0 0 q (omega arith) (omega arith)
  item-reads (spi-flags w enables q) = reads-spi-flags s h w 1 0 q (omega arith) (omega arith)
  item-reads (spi-flags w latches q) = reads-spi-flags s h w 2 0 q (omega arith) (omega arith)
  item-reads (spi-flags w actives q) = reads-spi-flags s h w 3 0 q (omega arith) (omega arith)
  item-reads (spi-lines w q) = reads-spi-flags s h w 4 16 q (omega arith) (omega arith)
  item-reads (spi-priority w j q l) = reads-spi-priority s h w j q l
  item-reads (spi-config w j q l) = reads-spi-config s h w j q l
  item-reads (spi-route id l m) = reads-route s h id l m
  item-reads (vcpu-status v l) = refl
  item-reads (vcpu-flags v groups l) = reads-private-flags s h v 0 l (omega arith)
  item-reads (vcpu-flags v enables l) = reads-private-flags s h v 1 l (omega arith)
  item-reads (vcpu-flags v latches l) = reads-private-flags s h v 2 l (omega arith)
  item-reads (vcpu-flags v actives l) = reads-private-flags s h v 3 l (omega arith)
  item-reads (vcpu-lines v l) = reads-private-lines s h v l
  item-reads (vcpu-priority v j l m) = reads-private-priority s h v j l m
  item-reads (vcpu-system v pmr l) = refl
  item-reads (vcpu-system v ctlr l) = refl
  item-reads (vcpu-system v bpr0 l) = refl
  item-reads (vcpu-system v bpr1 l) = refl
  item-reads (vcpu-system v ap0r l) = refl
  item-reads (vcpu-system v ap1r l) = refl
  item-reads (vcpu-system v igrpen0 l) = refl
  item-reads (vcpu-system v igrpen1 l) = refl

  pub reads-place : {a : Attribute} (l : Listed s a) → item_read s (item_of a s) ≡ shown (shape_of l) (word s (place_of l))
  reads-place l = ap (item_read s) (names-item l) ∙ item-reads l

-- ---- the value read is one-to-one in the word

abbrev pub room_of : Shape → ℕ
room_of itself = 2 ^ 32
room_of edges = 2 ^ 16
room_of (above c) = 2 ^ 32

pub spread-bit : (w i : ℕ) → i < 16 → bit (spread w) (2 * i + 1) ≡ bit w i
unfolding spread
spread-bit w i l =
    let r : (2 * i + 1) % 2 ≡ 1 = omega arith in
    let d : (2 * i + 1) / 2 ≡ i = omega arith in
    bit-gather 32 (λ j. eqb (j % 2) 1 && bit w (j / 2)) (2 * i + 1) (omega arith) ∙ rw (r, d)

pub shown-once : (k : Shape) (w u : ℕ) → w < room_of k → u < room_of k → shown k w ≡ shown k u → w ≡ u
shown-once itself w u a b e = e
shown-once edges w u a b e =
    word-is 16 w (bit u) a (λ i l. sym (spread-bit w i l) ∙ ap (λ (x : ℕ). bit x (2 * i + 1)) e ∙ spread-bit u i l)
    ∙ sym (word-is 16 u (bit u) b (λ i l. refl))
shown-once (above c) w u a b e = omega arith

-- ---- and its place is its own: the attribute can be told from the place

abbrev pub offset_at : ℕ → ℕ
offset_at j = get_or (0x80 ∷ 0x100 ∷ 0x200 ∷ 0x300 ∷ []) j 0

abbrev pub encoding_at : ℕ → ℕ
encoding_at j = get_or (0xc230 ∷ 0xc664 ∷ 0xc643 ∷ 0xc663 ∷ 0xc644 ∷ 0xc648 ∷ 0xc666 ∷ 0xc667 ∷ []) j 0

unfoldable pub bank_attribute : ℕ → ℕ → Attribute
bank_attribute w j =
    cond (ltb j 4) (attr 1 (offset_at j + 4 * w))
    (cond (eqb j 4) (attr 7 (32 * w))
    (cond (ltb j 13) (attr 1 (0x400 + 32 * w + 4 * (j - 5))) (attr 1 (0xc00 + 8 * w + 4 * (j - 13)))))

unfoldable pub block_attribute : List ℕ → ℕ → ℕ → Attribute
block_attribute s v j =
    cond (ltb j 4) (attr 5 (of_vcpu s v (0x10000 + offset_at j)))
    (cond (eqb j 4) (attr 7 (of_vcpu s v 0))
    (cond (ltb j 13) (attr 5 (of_vcpu s v (0x10400 + 4 * (j - 5))))
    (cond (eqb j 18) (attr 5 (of_vcpu s v 0x10)) (attr 6 (of_vcpu s v (encoding_at (j - 19)))))))

unfoldable pub attribute_at : List ℕ → ℕ → Attribute
attribute_at s p =
    cond (ltb p 16) (cond (eqb p 3) (attr 1 0x0) (attr 1 0x10))
    (cond (ltb p 272) (block_attribute s ((p - 16) / 32) ((p - 16) % 32))
    (cond (ltb p 768) (bank_attribute ((p - 256) / 16) ((p - 256) % 16)) (attr 1 (0x6000 + 8 * (p - 736)))))

module _ (s : List ℕ) (h : Ready s) where
  in_block : (v j : ℕ) → v < vcpus s → j < 32 → attribute_at s (block v + j) ≡ block_attribute s v j
  unfolding attribute_at
  in_block v j l m =
      let d : (block v + j - 16) / 32 ≡ v = omega arith in
      let r : (block v + j - 16) % 32 ≡ j = omega arith in
      rw (le-ltb (block v + j) 16 (omega arith), lt-ltb (block v + j) 272 (omega (arith, h.few)), d, r)

  in-bank : (w j : ℕ) → SpiWord s w → j < 16 → attribute_at s (256 + 16 * w + j) ≡ bank_attribute w j
  unfolding attribute_at
  in-bank w j q m =
      let d : (256 + 16 * w + j - 256) / 16 ≡ w = omega arith in
      let r : (256 + 16 * w + j - 256) % 16 ≡ j = omega arith in
      let low : 1 ≤ w = q.low in
      let few : w < 32 = omega (arith, q.high, h.counted.most) in
      rw (le-ltb (256 + 16 * w + j) 16 (omega arith), le-ltb (256 + 16 * w + j) 272 (omega arith), lt-ltb (256 + 16 * w + j) 768 (omega arith), d, r)

  pub from_place : {a : Attribute} (l : Listed s a) → attribute_at s (place_of l) ≡ a
  unfolding attribute_at bank_attribute block_attribute
  from_place control = refl
  from_place status = refl
  from_place (spi-flags w groups q) = in-bank w 0 q (omega arith)
  from_place (spi-flags w enables q) = in-bank w 1 q (omega arith)
  from_place (spi-flags w latches q) = in-bank w 2 q (omega arith)
  from_place (spi-flags w actives q) = in-bank w 3 q (omega arith)
  from_place (spi-lines w q) = in-bank w 4 q (omega arith)
  from_place (spi-priority w j q l) =
      let e : 5 + j - 5 ≡ j = omega arith in
      in-bank w (5 + j) q (omega arith) ∙ rw (le-ltb (5 + j) 4 (omega arith), ne_eqb (5 + j) 4 (λ z. omega arith), lt-ltb (5 + j) 13 (omega arith), e)
  from_place (spi-config w j q l) =
      let e : 13 + j - 13 ≡ j = omega arith in
      in-bank w (13 + j) q (omega arith) ∙ rw (le-ltb (13 + j) 4 (omega arith), ne_eqb (13 + j) 4 (λ z. omega arith), le-ltb (13 + j) 13 (omega arith), e)
  from_place (spi-route id l m) =
      let e : route_at id - 736 ≡ id = omega arith in
      rw (le-ltb (route_at id) 16 (omega arith), le-ltb (route_at id) 272 (omega arith), le-ltb (route_at id) 768 (omega arith), e)
  from_place (vcpu-status v l) = in_block v 18 l (omega arith)
  from_place (vcpu-flags v groups l) = in_block v 0 l (omega arith)
  from_place (vcpu-flags v enables l) = in_block v 1 l (omega arith)
  from_place (vcpu-flags v latches l) = in_block v 2 l (omega arith)
  from_place (vcpu-flags v actives l) = in_block v 3 l (omega arith)
  from_place (vcpu-lines v l) = in_block v 4 l (omega arith)
  from_place (vcpu-priority v j l m) =
      let e : 5 + j - 5 ≡ j = omega arith in
      in_block v (5 + j) l (omega arith) ∙ rw (le-ltb (5 + j) 4 (omega arith), ne_eqb (5 + j) 4 (λ z. omega arith), lt-ltb (5 + j) 13 (omega arith), e)
  from_place (vcpu-system v pmr l) = in_block v 19 l (omega arith)
  from_place (vcpu-system v ctlr l) = in_block v 20 l (omega arith)
  from_place (vcpu-system v bpr0 l) = in_block v (bpr_field 0) l (omega arith)
  from_place (vcpu-system v bpr1 l) = in_block v (bpr_field 1) l (omega arith)
  from_place (vcpu-system v ap0r l) = in_block v 23 l (omega arith)
  from_place (vcpu-system v ap1r l) = in_block v 24 l (omega arith)
  from_place (vcpu-system v igrpen0 l) = in_block v 25 l (omega arith)
  from_place (vcpu-system v igrpen1 l) = in_block v 26 l (omega arith)

  -- two listed attributes at one place are the same attribute
  pub own-place : {a b : Attribute} (l : Listed s a) (m : Listed s b) → place_of l ≡ place_of m → a ≡ b
  own-place l m e = sym (from_place l) ∙ ap (attribute_at s) e ∙ from_place m

-- ---- an attribute has one place: it follows from the item that it names

unfoldable pub register_place : View → Register → ℕ → ℕ
register_place x (Fixed c) k = 0
register_place x Control k = 3
register_place x Typer k = 0
register_place x Iidr k = 0
register_place x Status k = status_at x
register_place x (Bits f) k = bank (seen_by x) k + (flags f).field
register_place x Priority k = bank (seen_by x) (k / 8) + (5 + k % 8)
register_place x Config k = bank (seen_by x) (k / 2) + (13 + k % 2)
register_place x Route k = route_at (32 + k / 2)
register_place x FrameTyper k = 0
register_place x FrameAffinity k = 0

unfoldable pub plain_place : ℕ → Plain → ℕ
plain_place v Pmr = pmr_at v
plain_place v (Bpr g) = bpr_at v (group_index g)
plain_place v (Apr g) = apr_at v (group_index g)
plain_place v Ctlr = ctlr_at v
plain_place v Sre = 0
plain_place v (Igrpen g) = igrpen_at v (group_index g)

unfoldable pub item_place : Option Item → ℕ
item_place (Some (Mapped x r k)) = register_place x r k
item_place (Some (System x p)) = plain_place (seen_by x) p
item_place None = 0

module _ (s : List ℕ) (h : Ready s) where
  item-place : {a : Attribute} (l : Listed s a) → item_place (named_by l) ≡ place_of l
  unfolding item_place register_place plain_place flags status_at seen_by
  item-place control = refl
  item-place status = refl
  item-place (spi-flags w groups q) = rw (bank-at 0 w q.low)
  item-place (spi-flags w enables q) = rw (bank-at 0 w q.low)
  item-place (spi-flags w latches q) = rw (bank-at 0 w q.low)
  item-place (spi-flags w actives q) = rw (bank-at 0 w q.low)
  item-place (spi-lines w q) = rw (bank-at 0 w q.low)
  item-place (spi-priority w j q l) =
      let d : (8 * w + j) / 8 ≡ w = omega arith in
      let r : (8 * w + j) % 8 ≡ j = omega arith in
      rw (d, r, bank-at 0 w q.low)
  item-place (spi-config w j q l) =
      let d : (2 * w + j) / 2 ≡ w = omega arith in
      let r : (2 * w + j) % 2 ≡ j = omega arith in
      rw (d, r, bank-at 0 w q.low)
  item-place (spi-route id l m) = let e : 32 + 2 * (id - 32) / 2 ≡ id = omega arith in rw e
  item-place (vcpu-status v l) = refl
  item-place (vcpu-flags v groups l) = refl
  item-place (vcpu-flags v enables l) = refl
  item-place (vcpu-flags v latches l) = refl
  item-place (vcpu-flags v actives l) = refl
  item-place (vcpu-lines v l) = refl
  item-place (vcpu-priority v j l m) =
      let d : j / 8 ≡ 0 = omega arith in
      let r : j % 8 ≡ j = omega arith in
      rw (d, r)
  item-place (vcpu-system v pmr l) = refl
  item-place (vcpu-system v ctlr l) = refl
  item-place (vcpu-system v bpr0 l) = refl
  item-place (vcpu-system v bpr1 l) = refl
  item-place (vcpu-system v ap0r l) = refl
  item-place (vcpu-system v ap1r l) = refl
  item-place (vcpu-system v igrpen0 l) = refl
  item-place (vcpu-system v igrpen1 l) = refl

  pub one_place : {a b : Attribute} (l : Listed s a) (m : Listed s b) → a ≡ b → place_of l ≡ place_of m
  one_place {a} {b} l m e =
      sym (item-place l) ∙ ap item_place (sym (names-item s h l) ∙ ap (λ (x : Attribute). item_of x s) e ∙ names-item s h m) ∙ item-place m
