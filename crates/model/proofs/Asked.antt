-- Gets of listed attributes as calls: a get answers what the word shows, a put takes that value, and what an answered get tells of its number.
use Rattle.std.specs.Prelude.{Ok}
use Prim.Native.Nat.{ℕ, zero, suc, ◌+◌, ◌-◌, ◌*◌, ◌/◌, ◌%◌, ◌^◌, ◌≤◌, ◌<◌}
use mathlib.Core.Path.{◌≡◌, refl, sym, ap, ◌∙◌}
use mathlib.Core.Bool.{Bool, true, false, true≢false, false≢true}
use mathlib.Core.List.{List}
use mathlib.Core.Logic.{⊎_elim}
use native.Mathlib.Omega.{arith}
use borrow.Author.Tests.{eq-eqb, lt-ltb, le-ltb, le-leb}
use lib.Dec.{eqb, ltb}
use lib.IntN.{pos, neg_ℤ}
use Rattle.model.specs.Words.{lowest}
use Rattle.model.specs.Layout.{word, vcpus, ctlr_field, ctlr_at}
use Rattle.model.specs.Interface.{plain_takes}
use Rattle.model.specs.Attributes.{Attribute, low, high, group_of, index_of, number_ok, affinity_known, item, item_in, item_of, known, register_takes, takes, item_read}
use Rattle.model.specs.Calls.{Call, get_attribute, call, register_checks, get_checks, refusal, get_value, describe}
use Rattle.model.specs.Record.{of_vcpu}
use Rattle.model.specs.Demands.{Stopped, Alike}
use Rattle.model.specs.declared.RegisterGroup.{RegisterGroup}
use Rattle.model.specs.declared.RegisterGroup.TheVariants.{Distributor, Redistributor, Interface, Lines}
use Rattle.model.specs.declared.AttributeGroup.TheVariants.{Registers}
use Rattle.model.proofs.Tests.{and-true}
use Rattle.model.proofs.Soundness.{stopped-ready, Ready}
use Rattle.model.proofs.Refused.{none_of, tests-next, unrefused, IsGranted, is-granted, every_call, errno-positive}
use Rattle.model.proofs.Listed.{Listed, groups, enables, latches, actives, pmr, ctlr, ap0r, ap1r, igrpen0, igrpen1, encoding_of, control, status, spi-flags, spi-lines, spi-priority, spi-config, spi-route, vcpu-status, vcpu-flags, vcpu-lines, vcpu-priority, vcpu-system, bpr0, bpr1}
use Rattle.model.proofs.Places.{small-encoding, place_of, shown, shape_of, named_by, index-of, vcpu-parts, names-item}
use Rattle.model.proofs.Cover.{shows}
use Rattle.model.proofs.Masks.{block-word}
use Rattle.model.specs.Values.{icc_ctlr_fixed}

-- ---- the group of a listed attribute

pub group_for : {s : List ℕ} {a : Attribute} → Listed s a → RegisterGroup
group_for control = Distributor
group_for status = Distributor
group_for (spi-flags w k q) = Distributor
group_for (spi-lines w q) = Lines
group_for (spi-priority w j q l) = Distributor
group_for (spi-config w j q l) = Distributor
group_for (spi-route id l h) = Distributor
group_for (vcpu-status v l) = Redistributor
group_for (vcpu-flags v k l) = Redistributor
group_for (vcpu-lines v l) = Lines
group_for (vcpu-priority v j l m) = Redistributor
group_for (vcpu-system v p l) = Interface

pub group-is : {s : List ℕ} {a : Attribute} (l : Listed s a) → group_of a.group ≡ Registers (group_for l)
unfolding group_of group_for
group-is control = refl
group-is status = refl
group-is (spi-flags w k q) = refl
group-is (spi-lines w q) = refl
group-is (spi-priority w j q l) = refl
group-is (spi-config w j q l) = refl
group-is (spi-route id l h) = refl
group-is (vcpu-status v l) = refl
group-is (vcpu-flags v k l) = refl
group-is (vcpu-lines v l) = refl
group-is (vcpu-priority v j l m) = refl
group-is (vcpu-system v p l) = refl

-- ---- devices of the same set-up: an attribute names the same in both

lowest-same : (f g : ℕ → Bool) (n i : ℕ) → ((v : ℕ) → i ≤ v → v < i + n → f v ≡ g v) → lowest f n i ≡ lowest g n i
unfolding lowest
lowest-same f g zero i h = refl
lowest-same f g (suc n) i h = step (f i) (g i) (h i (omega arith) (omega arith)) (lowest-same f g n (suc i) (λ v a b. h v (omega arith) (omega arith)))
  where
    step : (b c : Bool) → b ≡ c → lowest f n (suc i) ≡ lowest g n (suc i)
        → ◌≡◌ {A = ℕ} (elim b [ true ↦ i | false ↦ lowest f n (suc i) ]) (elim c [ true ↦ i | false ↦ lowest g n (suc i) ])
    step true true e q = refl
    step false false e q = q
    step true false e q = absurd (true≢false e)
    step false true e q = absurd (false≢true e)

module _ (f s : List ℕ) (same : Alike f s) where
  same_index : (a : ℕ) → index_of s a ≡ index_of f a
  unfolding index_of
  same_index a = rw same.same_number (lowest-same _ _ (vcpus f) 0 (λ v l h. ap (λ (x : ℕ). eqb x a) (same.same_affinities v (omega arith))))

  pub same_item : (q : RegisterGroup) (n : ℕ) → item q n s ≡ item q n f
  unfolding item
  same_item Distributor n = refl
  same_item Redistributor n = rw (same_index (high n))
  same_item Interface n = rw (same_index (high n))
  same_item Lines n = rw (same_index (high n))

  pub same_known : (q : RegisterGroup) (n : ℕ) → affinity_known q n s ≡ affinity_known q n f
  unfolding affinity_known
  same_known Distributor n = refl
  same_known Redistributor n = rw (same_index (high n), same.same_number)
  same_known Interface n = rw (same_index (high n), same.same_number)
  same_known Lines n = rw (same_index (high n), same.same_number)

-- ---- the value that a listed attribute reads is one that it takes

module _ (s : List ℕ) (h : Ready s) where
  -- a value of 32 bits, in the groups that ask for one
  below : {a : Attribute} (l : Listed s a) → ltb (shown (shape_of l) (word s (place_of l))) (2 ^ 32) ≡ true
  below l = lt-ltb _ (2 ^ 32) (shows s h l).small

  pub value_taken : {a : Attribute} (l : Listed s a) → takes (named_by l) (shown (shape_of l) (word s (place_of l))) ≡ true
  unfolding takes register_takes plain_takes
  value_taken control = and-true (below control) refl
  value_taken status = and-true (below status) refl
  value_taken (spi-flags w k q) = and-true (below (spi-flags w k q)) refl
  value_taken (spi-lines w q) = and-true (below (spi-lines w q)) refl
  value_taken (spi-priority w j q l) = and-true (below (spi-priority w j q l)) refl
  value_taken (spi-config w j q l) = and-true (below (spi-config w j q l)) refl
  value_taken (spi-route id l m) = and-true (below (spi-route id l m)) refl
  value_taken (vcpu-status v l) = and-true (below (vcpu-status v l)) refl
  value_taken (vcpu-flags v k l) = and-true (below (vcpu-flags v k l)) refl
  value_taken (vcpu-lines v l) = and-true (below (vcpu-lines v l)) refl
  value_taken (vcpu-priority v j l m) = and-true (below (vcpu-priority v j l m)) refl
  value_taken (vcpu-system v pmr l) = refl
  value_taken (vcpu-system v ctlr l) =
      let w = word s (ctlr_at v) in
      let e : icc_ctlr_fixed + w - icc_ctlr_fixed ≡ w = omega arith in
      and-true (le-leb icc_ctlr_fixed (icc_ctlr_fixed + w) (omega arith)) (rw e (block-word s h v ctlr_field l (omega arith)))
  value_taken (vcpu-system v bpr0 l) = refl
  value_taken (vcpu-system v bpr1 l) = refl
  value_taken (vcpu-system v ap0r l) = refl
  value_taken (vcpu-system v ap1r l) = refl
  value_taken (vcpu-system v igrpen0 l) = refl
  value_taken (vcpu-system v igrpen1 l) = refl

  -- its number is as its group asks, and names a vCPU where it has to
  number_ok_listed : {a : Attribute} (l : Listed s a) → number_ok (group_for l) a.number ≡ true
  unfolding number_ok group_for
  number_ok_listed control = refl
  number_ok_listed status = refl
  number_ok_listed (spi-flags w k q) = refl
  number_ok_listed (spi-lines w q) =
      let few : w < 32 = omega (arith, q.high, h.counted.most) in
      and-true (eq-eqb (low (32 * w) / 1024) 0 (omega arith)) (eq-eqb (low (32 * w) % 1024 % 32) 0 (omega arith))
  number_ok_listed (spi-priority w j q l) = refl
  number_ok_listed (spi-config w j q l) = refl
  number_ok_listed (spi-route id l m) = refl
  number_ok_listed (vcpu-status v l) = refl
  number_ok_listed (vcpu-flags v k l) = refl
  number_ok_listed (vcpu-lines v l) = rw (vcpu-parts s h v 0 l (omega arith)).0
  number_ok_listed (vcpu-priority v j l m) = refl
  number_ok_listed (vcpu-system v p l) = refl

  vcpu-known : (v a : ℕ) → v < vcpus s → a < 2 ^ 32 → ltb (index_of s (high (of_vcpu s v a))) (vcpus s) ≡ true
  vcpu-known v a l m = rw ((vcpu-parts s h v a l m).1, index-of s h v l) (lt-ltb v (vcpus s) l)

  affinity-known : {a : Attribute} (l : Listed s a) → affinity_known (group_for l) a.number s ≡ true
  unfolding affinity_known group_for
  affinity-known control = refl
  affinity-known status = refl
  affinity-known (spi-flags w k q) = refl
  affinity-known (spi-lines w q) =
      let few : w < 32 = omega (arith, q.high, h.counted.most) in
      let z : low (32 * w) ≡ 32 * w = omega arith in
      rw (z, le-ltb (32 * w) 32 (omega (arith, q.low)))
  affinity-known (spi-priority w j q l) = refl
  affinity-known (spi-config w j q l) = refl
  affinity-known (spi-route id l m) = refl
  affinity-known (vcpu-status v l) = vcpu-known v 0x10 l (omega arith)
  affinity-known (vcpu-flags v groups l) = vcpu-known v 0x10080 l (omega arith)
  affinity-known (vcpu-flags v enables l) = vcpu-known v 0x10100 l (omega arith)
  affinity-known (vcpu-flags v latches l) = vcpu-known v 0x10200 l (omega arith)
  affinity-known (vcpu-flags v actives l) = vcpu-known v 0x10300 l (omega arith)
  affinity-known (vcpu-lines v l) = rw (vcpu-parts s h v 0 l (omega arith)).0 (vcpu-known v 0 l (omega arith))
  affinity-known (vcpu-priority v j l m) = vcpu-known v (0x10400 + 4 * j) l (omega arith)
  affinity-known (vcpu-system v p l) = vcpu-known v (encoding_of p) l (small-encoding p)

  pub named-known : {a : Attribute} (l : Listed s a) → known (named_by l) ≡ true
  unfolding known
  named-known control = refl
  named-known status = refl
  named-known (spi-flags w k q) = refl
  named-known (spi-lines w q) = refl
  named-known (spi-priority w j q l) = refl
  named-known (spi-config w j q l) = refl
  named-known (spi-route id l m) = refl
  named-known (vcpu-status v l) = refl
  named-known (vcpu-flags v k l) = refl
  named-known (vcpu-lines v l) = refl
  named-known (vcpu-priority v j l m) = refl
  named-known (vcpu-system v p l) = refl

-- an attribute of a group that names registers
pub item-of : (a : Attribute) (s : List ℕ) (q : RegisterGroup) → group_of a.group ≡ Registers q → item_of a s ≡ item q a.number s
unfolding item_of item_in
item-of a s q e = rw e

-- ---- a get of a listed attribute answers what the word shows

pub get-answers : (s : List ℕ) → Stopped s → {a : Attribute} → Listed s a → (call (get_attribute a.group a.number) s).answer ≡ pos (item_read s (item_of a s))
unfolding describe get_checks register_checks get_value
get-answers s hs {a} l = (is-granted c s grants).answer ∙ ap pos (rw (e, ← i))
  where
    c : Call
    c = get_attribute a.group a.number

    h : Ready s
    h = stopped-ready s hs

    e : group_of a.group ≡ Registers (group_for l)
    e = group-is l

    i : item_of a s ≡ item (group_for l) a.number s
    i = item-of a s (group_for l) e

    grants : refusal c s ≡ Ok tt
    grants =
        tests-next c s hs.is_sound ∙ rw e (none_of (register_checks (group_for l) a.number s)
        (number_ok_listed s h l, (affinity-known s h l, (hs.is_stopped, (rw (← i, names-item s h l) (named-known s h l), tt)))))

-- ---- a put that a get on the first device has answered for

-- what an answered get of a number n tells
pub record Answered (f : List ℕ) (q : RegisterGroup) (n v : ℕ) : Type 0 where
  pub number : number_ok q n ≡ true
  pub affinity : affinity_known q n f ≡ true
  pub reads : item_read f (item q n f) ≡ v

pub get-answered : (f : List ℕ) (g n v : ℕ) (q : RegisterGroup) → group_of g ≡ Registers q → (call (get_attribute g n) f).answer ≡ pos v → Answered f q n v
unfolding describe get_checks register_checks get_value
get-answered f g n v q e a = ⊎_elim told (λ r. absurd (sign _ (errno-positive r.0) (sym r.1.answer ∙ a))) (every_call (get_attribute g n) f)
  where
    sign : (m : ℕ) → 0 < m → neg_ℤ (pos m) ≡ pos v → ⊥
    sign zero l z = absurd (omega arith)
    sign (suc m) l z = let y : ◌≡◌ {A = ℕ} 0 1 = cc in omega arith

    told : IsGranted (get_attribute g n) f → Answered f q n v
    told r =
        let p = rw e at (unrefused (get_attribute g n) f r.grants).1 in
        let y : pos (item_read f (item q n f)) ≡ pos v = (rw e at (sym r.answer)) ∙ a in
        record { number = p.0; affinity = p.1.0; reads = cc }
