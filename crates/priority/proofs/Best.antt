-- The search, step by step: what is left to do from here gives the best.
use Prim.Native.Nat.{ℕ, zero, suc, ◌+◌, ◌-◌, ◌*◌, ◌/◌, ◌%◌, ◌^◌, ◌≤◌, ◌<◌, min}
use mathlib.Core.Path.{◌≡◌, refl, sym, ap, ◌∙◌}
use mathlib.Core.Bool.{Bool, true, false, not, cond, ◌&&◌, ◌||◌, and-false}
use mathlib.Core.List.{List}
use native.Mathlib.Nat.{add-zero, add-suc, zero-add, div-one}
use native.Mathlib.Numerals.{add-one}
use native.Mathlib.Omega.{arith}
use borrow.Author.Tests.{le-ltb}
use lib.Count.{count_trailing_zeros}
use lib.Dec.{eqb, ltb}
use lib.Pow.{shr-shr}
use Rattle.model.specs.Values.{id_span}
use Rattle.model.specs.Words.{val, bit}
use Rattle.model.specs.Layout.{word, count, affinity, bank, route_at}
use Rattle.model.specs.Interrupts.{is_private, is_spi, group, enabled, active, pending}
use Rattle.model.specs.Interface.{own_or_routed, group_on, candidate, rank, nothing, better, scan, best}
use Rattle.model.proofs.Bits.{gather-lt, bit-gather}
use Rattle.model.proofs.Best.{scan-add, scan-kept}
use Rattle.words.specs.Words.{byte_of, rest}
use Rattle.words.proofs.Over.{over, lower-rest, over_none, over-next, over-stops, trailing_lt}
use Rattle.priority.specs.Search.{ready_with, ready_mask, all_bits, routed}

-- ---- a candidate is one that is ready, and whose route leads here

-- the group's enable, by the group
by-group : (g : Bool) (on : ℕ → Bool) → on (val g) ≡ cond g (on 1) (on 0)
by-group true on = refl
by-group false on = refl

regroup : (o p e a g : Bool) (x b : ℕ) → cond (o && p && e && a && g) x b ≡ cond (p && e && a && g) (cond o x b) b
regroup true p e a g x b = refl
regroup false true true true true x b = refl
regroup false true true true false x b = refl
regroup false true true false g x b = refl
regroup false true false a g x b = refl
regroup false false e a g x b = refl

module _ (s : List ℕ) (v : ℕ) where
  abbrev ready : ℕ → Bool
  ready id = ready_with (group_on s v 0) (group_on s v 1) s v id

  better-ready : (id b : ℕ) → better s v id b ≡ cond (ready id) (routed s v id b) b
  unfolding better candidate ready_with routed
  better-ready id b =
      rw (by-group (group s v id) (group_on s v))
      (regroup (own_or_routed s v id) (pending s v id) (enabled s v id) (not (active s v id)) (cond (group s v id) (group_on s v 1) (group_on s v 0)) (min (rank s v id) b) b)

  -- ---- one interrupt: the tests of the code

  pub own-or-routed : (id a : ℕ) (r : Bool) → r ≡ is_spi s id → a ≡ affinity s v → (ltb id 32 || (r && eqb (word s (768 + id - 32)) a)) ≡ own_or_routed s v id
  unfolding own_or_routed is_private
  own-or-routed id a r e q = let p : 768 + id - 32 ≡ route_at id = omega arith in rw (p, e, q)

  pub rank-read : (id at r : ℕ) → at ≡ bank v (id / 32) → r ≡ byte_of (word s (at + 5 + id % 32 / 4)) (id % 4) → r * id_span + id ≡ rank s v id
  unfolding rank
  rank-read id at r e q = rw (q, e)

  -- no better, whoever takes it
  pub no-lower-rank : (id b r : ℕ) → r ≡ rank s v id → b ≤ r → b ≡ routed s v id b
  unfolding routed
  no-lower-rank id b r q l = go (own_or_routed s v id)
    where
      go : (t : Bool) → b ≡ cond t (min (rank s v id) b) b
      go true = omega arith
      go false = refl

  module _ (id b : ℕ) (t : Bool) (e : t ≡ own_or_routed s v id) where
    pub not-here : t ≡ false → b ≡ routed s v id b
    unfolding routed
    not-here h = rw (← e, h)

    pub lower-rank : (r : ℕ) → t ≡ true → r ≡ rank s v id → r < b → r ≡ routed s v id b
    unfolding routed
    lower-rank r h q l = rw (← e, h) (omega arith)

  -- what the search does at bit i of word w
  abbrev pub step : ℕ → ℕ → ℕ → ℕ
  step w i b = routed s v (32 * w + i) b

  -- ---- a word's interrupts are the set bits of its mask

  module _ (w m : ℕ) (bits : (i : ℕ) → i < 32 → bit m i ≡ ready (32 * w + i)) where
    scan-bits : (n i b : ℕ) → i + n ≤ 32 → scan s v n (32 * w + i) b ≡ over (step w) n i (m / 2 ^ i) b
    unfolding scan over bit
    scan-bits zero i b h = refl
    scan-bits (suc n) i b h =
        let half : m / 2 ^ i / 2 ≡ m / 2 ^ suc i = shr-shr m i 1 ∙ ap (λ (k : ℕ). m / 2 ^ k) (add-one i) in
        let here : better s v (32 * w + i) b ≡ cond (eqb (m / 2 ^ i % 2) 1) (step w i b) b =
        better-ready (32 * w + i) b ∙ ap (λ (t : Bool). cond t (step w i b) b) (sym (bits i (omega arith))) in
        rw (here, half, ← add-suc (32 * w) i) (scan-bits n (suc i) (cond (eqb (m / 2 ^ i % 2) 1) (step w i b) b) (omega arith))

    scan-word : (b : ℕ) → scan s v 32 (32 * w) b ≡ over (step w) 32 0 m b
    scan-word b = ap (λ (k : ℕ). scan s v 32 k b) (sym (add-zero (32 * w))) ∙ scan-bits 32 0 b (omega arith) ∙ ap (λ (k : ℕ). over (step w) 32 0 k b) (div-one m)

  -- ---- what no later interrupt changes

  kept : (j b : ℕ) → b ≤ j → routed s v j b ≡ b
  unfolding routed rank
  kept j b h = go (own_or_routed s v j)
    where
      go : (t : Bool) → cond t (min (rank s v j) b) b ≡ b
      go true = omega arith
      go false = refl

  ready-kept : (j b : ℕ) → routed s v j b ≡ b → better s v j b ≡ b
  ready-kept j b e = better-ready j b ∙ rw e (go (ready j))
    where
      go : (t : Bool) → cond t b b ≡ b
      go true = refl
      go false = refl

  -- no interrupt from 1020 on exists
  absent : (j b : ℕ) → min (count s) 1020 ≤ j → 32 ≤ j → better s v j b ≡ b
  unfolding routed own_or_routed is_private is_spi
  absent j b h l = ready-kept j b (simp (le-ltb j 32 l, le-ltb j (min (count s) 1020) h, and-false))

  -- priority 0 has just come: the best is that interrupt's ID
  drops : (id b : ℕ) → id_span ≤ b → routed s v id b < id_span → routed s v id b ≤ id
  unfolding routed rank
  drops id b f = go (own_or_routed s v id)
    where
      go : (t : Bool) → cond t (min (rank s v id) b) b < id_span → cond t (min (rank s v id) b) b ≤ id
      go true h = omega arith
      go false h = absurd (omega arith)

  -- ---- the search's state: what is left; no priority 0 has come

  pub record Outer (b w : ℕ) : Type 0 where
    pub far : id_span ≤ b
    pub left : scan s v (count s - 32 * w) (32 * w) b ≡ best s v

  pub record Inner (b w m : ℕ) : Type 0 where
    pub far : id_span ≤ b
    pub small : m < 2 ^ 32
    pub left : scan s v (count s - (32 * w + 32)) (32 * w + 32) (over (step w) 32 0 m b) ≡ best s v

  pub begin : count s ≤ 1024 → Outer nothing 0
  unfolding best
  begin h =
      let n = min (count s) 1020 in
      let split : count s - 32 * 0 ≡ n + (count s - n) = omega arith in
      record {
        far = omega arith;
        left = rw split (scan-add s v n (count s - n) 0 nothing ∙ scan-kept s v (count s - n) (0 + n) (best s v) (λ j p q. absent j (best s v) (omega arith) (omega arith)));
      }

  -- the mask of word w, with the groups' masks on0 and on1
  pub enter : (b w m on0 on1 : ℕ) (t0 t1 : Bool) → 32 * w + 32 ≤ count s → Outer b w → m ≡ ready_mask s v w on0 on1 → on0 ≡ all_bits t0 → t0 ≡ group_on s v 0
      → on1 ≡ all_bits t1 → t1 ≡ group_on s v 1 → Inner b w m
  unfolding ready_mask all_bits
  enter b w m on0 on1 t0 t1 h o e e0 g0 e1 g1 =
      let bits : (i : ℕ) → i < 32 → bit m i ≡ ready (32 * w + i) =
      λ i l. rw (e, bit-gather 32 (λ j. ready_with (bit on0 j) (bit on1 j) s v (32 * w + j)) i l, e0, e1, bit-gather 32 (λ j. t0) i l, bit-gather 32 (λ j. t1) i l, g0, g1) in
      let split : count s - 32 * w ≡ 32 + (count s - (32 * w + 32)) = omega arith in
      record {
        far = o.far;
        small = rw e (gather-lt 32 _);
        left = rw (← scan-word w m bits b, ← scan-add s v 32 (count s - (32 * w + 32)) (32 * w) b, ← split) o.left;
      }

  -- one turn of the inner loop takes b to r
  module _ (b w m r : ℕ) (n : Inner b w m) (p : ¬ (m ≡ 0)) (e : r ≡ step w (count_trailing_zeros 32 m) b) where
    pub onward : (q d : ℕ) → q ≡ rest m → q < m → d ≤ r → id_span ≤ d → Inner r w q
    onward q d z k j i =
        let h : id_span ≤ r = omega arith in
        let l : 0 < m = omega arith in
        let next : over (step w) 32 0 m b ≡ over (step w) 32 0 (rest m) r =
        over-next (step w) 32 0 m b l n.small ∙ cc (lower-rest m l n.small, zero-add (count_trailing_zeros 32 m)) in
        record { far = h; small = omega (arith, n.small); left = rw (z, ← next) n.left }

    pub left-early : r < id_span → r ≡ best s v
    left-early h =
        let l : 0 < m = omega arith in
        let t = count_trailing_zeros 32 m in
        let low : r ≤ 32 * w + t = rw e (drops (32 * w + t) b n.far (rw e at h)) in
        let inner : over (step w) 32 0 m b ≡ r = over-stops (step w) t b r (sym e) (λ j k. kept (32 * w + j) r (omega arith)) 32 0 m l n.small (zero-add t) in
        let outer : scan s v (count s - (32 * w + 32)) (32 * w + 32) r ≡ r =
        scan-kept s v _ _ r (λ j k q. ready-kept j r (kept j r (omega (arith, trailing_lt 32 m l n.small)))) in
        sym outer ∙ rw inner at n.left

  pub leave : (b w m : ℕ) → m ≡ 0 → Inner b w m → Outer b (w + 1)
  leave b w m z n =
      let next : 32 * (w + 1) ≡ 32 * w + 32 = omega arith in
      record { far = n.far; left = rw next (rw (z, over_none) at n.left) }

  pub finish : (b w : ℕ) → count s ≤ 32 * w → Outer b w → b ≡ best s v
  unfolding scan
  finish b w h o =
      let none : count s - 32 * w ≡ 0 = omega arith in
      rw none at o.left
