-- A put reads back exactly what some device of the target's set-up reads there, as the page says of restore.
use Rattle.std.specs.Prelude.{Option}
use Prim.Native.Nat.{ℕ, ◌+◌, ◌*◌, ◌-◌, ◌/◌, ◌%◌, ◌≤◌, ◌<◌, min}
use mathlib.Core.Path.{◌≡◌, refl, sym, ap, ◌∙◌}
use mathlib.Core.Bool.{true}
use mathlib.Core.List.{List, Memᴰ}
use mathlib.Core.Logic.{◌↔◌}
use native.Mathlib.Omega.{arith}
use borrow.Author.Tests.{eqb-true}
use lib.ListN.{set}
use Rattle.model.specs.Layout.{count, vcpus, block, bank, route_at}
use Rattle.model.specs.Registers.{has, seen_by, write_priority, write_route, write, flags, rule_for, written_status, status_at}
use Rattle.model.specs.Attributes.{Attribute, item_of, takes, item_read, item_write}
use Rattle.model.specs.Record.{listed, attribute_of, entry_read, readable}
use Rattle.model.specs.Demands.{Stopped, Fresh, Alike}
use Rattle.model.specs.declared.By.TheVariants as by
use Rattle.model.specs.declared.View.TheVariants.{Distributor, Frame}
use Rattle.model.specs.declared.InterruptGroup.TheVariants.{Group0, Group1}
use Rattle.model.specs.declared.Item.{Item}
use Rattle.model.proofs.Tests.{both}
use Rattle.model.proofs.Soundness.{stopped-ready, Ready, ready-is-sound, Resting, stopped-resting, resting-stopped}
use Rattle.model.proofs.Derived.{with-sound, with-stopped, with-alike, with-names, with-reads}
use Rattle.model.proofs.Masks.{SpiWord}
use Rattle.model.proofs.Fields.{bank-at}
use Rattle.model.proofs.Readings.{is-spi}
use Rattle.model.proofs.Listed.{Listed, groups, enables, latches, actives, pmr, ctlr, ap0r, ap1r, igrpen0, igrpen1, control, status, spi-flags, spi-lines, spi-priority, spi-config, spi-route, vcpu-status, vcpu-flags, vcpu-lines, vcpu-priority, vcpu-system, family, bpr0, bpr1}
use Rattle.model.proofs.Places.{place_of, named_by, names-item, reads-place}
use Rattle.model.proofs.Cover.{carried}
use Rattle.model.proofs.Stores.{store_same, store-resting}
use Rattle.model.proofs.Writes.{Leaves, stores-flags, stores-priority, stores-config, stores-route, stores-enables, stores-status}
use Rattle.model.proofs.System.{stores-pmr, stores-ctlr, stores-bpr, stores-apr, stores-igrpen}
use Rattle.model.proofs.Restores.{fresh-ready, fresh-stopped}
use Rattle.model.proofs.Recorded.{value-readable}
use Rattle.model.specs.Roles.{with_derived}

-- ---- a put of any value to a listed attribute stores a word that may stand there

module _ (s : List ℕ) (h : Ready s) where
  -- a word of an SPI bank
  top : {w : ℕ} → SpiWord s w → w < 32
  top q = omega (arith, q.high, h.counted.most)

  of-bank : (w j : ℕ) {t : List ℕ} → SpiWord s w → Leaves s (bank 0 w + j) t → Leaves s (256 + 16 * w + j) t
  of-bank w j q l = rw (bank-at 0 w q.low) at l

  put-route : (id value : ℕ) → 32 ≤ id → id < min (count s) 1020 → Leaves s (route_at id) (write_route s Distributor (2 * (id - 32)) value)
  unfolding write_route has
  put-route id value l m =
      let e : 2 * (id - 32) % 2 ≡ 0 = omega arith in
      let g : 32 + 2 * (id - 32) / 2 ≡ id = omega arith in
      let i = is-spi s h id l (omega arith) (omega arith) in
      rw (e, g, i) (stores-route s h id value i)

  put-private-priority : (v j value : ℕ) → v < vcpus s → j < 8 → Leaves s (block v + (5 + j)) (write_priority s (Frame v) (λ i. true) j value)
  unfolding seen_by
  put-private-priority v j value l m =
      let z : 8 * 0 + j ≡ j = omega arith in
      rw z at (stores-priority s h (Frame v) (λ i. true) 0 j value l (omega arith) m)

  pub put-leaves : {a : Attribute} (l : Listed s a) (value : ℕ) → Leaves s (place_of l) (item_write s (named_by l) value)
  unfolding item_write write flags rule_for written_status status_at seen_by
  put-leaves control x = stores-enables s h x
  put-leaves status x = stores-status s h Distributor (x % 16) h.some (omega arith)
  put-leaves (spi-flags w groups q) x = of-bank w 0 q (stores-flags s h Distributor 0 0 _ w x h.some (top q) (omega arith) refl)
  put-leaves (spi-flags w enables q) x = of-bank w 1 q (stores-flags s h Distributor 1 0 _ w x h.some (top q) (omega arith) refl)
  put-leaves (spi-flags w latches q) x = of-bank w 2 q (stores-flags s h Distributor 2 0 _ w x h.some (top q) (omega arith) refl)
  put-leaves (spi-flags w actives q) x = of-bank w 3 q (stores-flags s h Distributor 3 0 _ w x h.some (top q) (omega arith) refl)
  put-leaves (spi-lines w q) x = of-bank w 4 q (stores-flags s h Distributor 4 16 _ w x h.some (top q) (omega arith) refl)
  put-leaves (spi-priority w j q l) x = of-bank w (5 + j) q (stores-priority s h Distributor (λ i. true) w j x h.some (top q) l)
  put-leaves (spi-config w j q l) x = of-bank w (13 + j) q (stores-config s h w j x (top q) l)
  put-leaves (spi-route id l m) x = put-route id x l m
  put-leaves (vcpu-status v l) x = stores-status s h (Frame v) (x % 16) l (omega arith)
  put-leaves (vcpu-flags v groups l) x = stores-flags s h (Frame v) 0 0 _ 0 x l (omega arith) (omega arith) refl
  put-leaves (vcpu-flags v enables l) x = stores-flags s h (Frame v) 1 0 _ 0 x l (omega arith) (omega arith) refl
  put-leaves (vcpu-flags v latches l) x = stores-flags s h (Frame v) 2 0 _ 0 x l (omega arith) (omega arith) refl
  put-leaves (vcpu-flags v actives l) x = stores-flags s h (Frame v) 3 0 _ 0 x l (omega arith) (omega arith) refl
  put-leaves (vcpu-lines v l) x = stores-flags s h (Frame v) 4 16 _ 0 x l (omega arith) (omega arith) refl
  put-leaves (vcpu-priority v j l m) x = put-private-priority v j x l m
  put-leaves (vcpu-system v pmr l) x = stores-pmr s h by.Attribute v x l
  put-leaves (vcpu-system v ctlr l) x = stores-ctlr s h by.Attribute v x l
  put-leaves (vcpu-system v bpr0 l) x = stores-bpr s h by.Attribute v Group0 x l
  put-leaves (vcpu-system v bpr1 l) x = stores-bpr s h by.Attribute v Group1 x l
  put-leaves (vcpu-system v ap0r l) x = stores-apr s h by.Attribute v Group0 x l
  put-leaves (vcpu-system v ap1r l) x = stores-apr s h by.Attribute v Group1 x l
  put-leaves (vcpu-system v igrpen0 l) x = stores-igrpen s h by.Attribute v Group0 x l
  put-leaves (vcpu-system v igrpen1 l) x = stores-igrpen s h by.Attribute v Group1 x l

-- ---- and leaves the core of a stopped device of the same set-up

-- s is the core of a stopped device of t's count and affinities
pub record RestingLike (t s : List ℕ) : Type 0 where
  pub resting : Resting s
  pub alike : Alike t s

pub alike_then : (r s t : List ℕ) → Alike r s → Alike s t → Alike r t
alike_then r s t a b = record {
  same_count = b.same_count ∙ a.same_count;
  same_number = b.same_number ∙ a.same_number;
  same_affinities = λ v l. b.same_affinities v (rw a.same_number l) ∙ a.same_affinities v l;
}

pub like-itself : (t : List ℕ) → Resting t → RestingLike t t
like-itself t h = record { resting = h; alike = record { same_count = refl; same_number = refl; same_affinities = λ v l. refl } }

pub put-like : (t s : List ℕ) → RestingLike t s → {a : Attribute} → Listed t a → (v : ℕ) → RestingLike t (item_write s (item_of a s) v)
put-like t s h {a} l v =
    let rs = h.resting.is_ready in
    let there = (carried t s h.alike l).there in
    let p = put-leaves s rs there v in
    let put : item_write s (item_of a s) v ≡ set s (place_of there) p.stored = ap (λ (j : Option Item). item_write s j v) (names-item s rs there) ∙ p.state in
    rw put (record {
      resting = store-resting s (place_of there) p.stored rs.few p.may h.resting p.idle;
      alike = alike_then t s _ h.alike (store_same s (place_of there) p.stored rs.few p.may).alike;
    })

-- with its derived words it is such a device
pub derived-like : (t s : List ℕ) → RestingLike t s → Stopped (with_derived s) × Alike t (with_derived s)
derived-like t s h = (
  record { is_sound = with-sound s (ready-is-sound s h.resting.is_ready); is_stopped = with-stopped s (resting-stopped s h.resting) },
  alike_then t s (with_derived s) h.alike (with-alike s h.resting.is_ready.few),
)

-- ---- the rule

-- some sound, stopped device of the target's count and affinities reads v there
unfoldable pub ReadsSo : List ℕ → Attribute → ℕ → Type 0
ReadsSo t a v = (d : List ℕ) × Stopped d × Alike t d × (entry_read d (attribute_of a) ≡ v)

pub alike-back : (s t : List ℕ) → Alike s t → Alike t s
alike-back s t e = record {
  same_count = sym e.same_count;
  same_number = sym e.same_number;
  same_affinities = λ v l. sym (e.same_affinities v (rw e.same_number at l));
}

module _ (t : List ℕ) (ht : Fresh t) {a : Attribute} (m : Listed t a) (v : ℕ) where
  rt : Ready t
  rt = fresh-ready t ht

  -- a put that reads back leaves such a device
  reads_so : readable t (attribute_of a) v ≡ true → ReadsSo t a v
  unfolding ReadsSo readable entry_read
  reads_so e =
      (with_derived d, like.0, like.1, ap (item_read (with_derived d)) (with-names d a) ∙ with-reads d (item_of a d) ∙ ap (item_read d) named ∙ eqb-true _ v (both (takes (item_of a t) v) _ e).1)
    where
      d : List ℕ
      d = item_write t (item_of a t) v

      p : RestingLike t d
      p = put-like t t (like-itself t (stopped-resting t (fresh-stopped t ht))) m v

      like : Stopped (with_derived d) × Alike t (with_derived d)
      like = derived-like t d p

      -- it has the attribute at the same item
      named : item_of a d ≡ item_of a t
      named =
          let c = carried t d p.alike m in
          names-item d p.resting.is_ready c.there ∙ c.names ∙ sym (names-item t rt m)

  -- a value that such a device reads is taken and reads back
  so-readable : ReadsSo t a v → readable t (attribute_of a) v ≡ true
  unfolding ReadsSo entry_read
  so-readable r =
      let d = r.0 in
      let same = alike-back t d r.2 in
      let c = carried t d r.2 m in
      let hd = stopped-ready d r.1 in
      rw (sym (reads-place d hd c.there) ∙ r.3) at (value-readable d t r.1 ht same c.there)

pub readable-exactly : (t : List ℕ) → Fresh t → (a : Attribute) → Memᴰ a (listed t) → (v : ℕ) → (readable t (attribute_of a) v ≡ true) ↔ ReadsSo t a v
readable-exactly t ht a m v =
    let l = family t (fresh-ready t ht) m in
    (reads_so t ht l v, so-readable t ht l v)
