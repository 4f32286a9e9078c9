-- The core of a sound state, part by part: its length, its set-up, each vCPU, each word. Derived words are in proofs/Derived.
use Prim.Native.Nat.{ℕ, ◌+◌, ◌%◌, ◌≤◌, ◌<◌}
use mathlib.Core.Path.{◌≡◌, refl, ◌∙◌}
use mathlib.Core.Bool.{true, not, ◌&&◌, ◌||◌}
use mathlib.Core.List.{List}
use mathlib.Core.Logic.{⊎_elim}
use native.Mathlib.Omega.{arith}
use borrow.Author.Tests.{eqb-true, eq-eqb, leb-true, le-leb}
use lib.Dec.{eqb, leb}
use lib.ListN.{length}
use Rattle.model.specs.Values.{edge_bits}
use Rattle.model.specs.Words.{every, all_below}
use Rattle.model.specs.Layout.{state_length, most_vcpus, word, initialised, count, vcpus, block, bpr_at, bpr_field, edge_field, affinity_field, sgi_edges_at, affinity, running}
use Rattle.model.specs.Roles.{derived_ok}
use Rattle.model.specs.Sound.{fits, used_bits, fresh_bits, allowed_bits, word_ok, is_count, setup, unused, vcpu_ok, core, sound, stopped}
use Rattle.model.specs.Demands.{Stopped}
use Rattle.model.proofs.Tests.{both, and-true, either, or_right, every-at, every-all, below_at, below_all}

pub record Sound (s : List ℕ) : Type 0 where
  pub size : length s ≡ state_length
  pub set_up : setup (initialised s) (count s) (vcpus s) ≡ true
  pub each_vcpu : (v : ℕ) → v < vcpus s → vcpu_ok s v ≡ true
  pub each_word : (k : ℕ) → k < state_length → word_ok (initialised s) (count s) (vcpus s) k (word s k) ≡ true

pub open-core : (s : List ℕ) → core s ≡ true → Sound s
unfolding core
open-core s e =
    let a = both (eqb (length s) state_length) _ e in
    let b = both (setup (initialised s) (count s) (vcpus s)) (all_below (vcpu_ok s) (vcpus s) && every (word_ok (initialised s) (count s) (vcpus s)) 0 s) a.1 in
    let c = both (all_below (vcpu_ok s) (vcpus s)) (every (word_ok (initialised s) (count s) (vcpus s)) 0 s) b.1 in
    let l : length s ≡ state_length = eqb-true (length s) state_length a.0 in
    record {
      size = l;
      set_up = b.0;
      each_vcpu = below_at (vcpu_ok s) (vcpus s) c.0;
      each_word = λ k h. every-at (word_ok (initialised s) (count s) (vcpus s)) s c.1 k (omega arith);
    }

pub close-core : (s : List ℕ) → Sound s → core s ≡ true
unfolding core
close-core s h =
    let l = h.size in
    and-true (eq-eqb _ _ h.size)
    (and-true h.set_up
    (and-true (below_all (vcpu_ok s) (vcpus s) h.each_vcpu)
    (every-all (word_ok (initialised s) (count s) (vcpus s)) s (λ k q. h.each_word k (omega arith)))))

pub sound-core : (s : List ℕ) → sound s ≡ true → core s ≡ true
unfolding sound
sound-core s e = (both (core s) (derived_ok s) e).0

pub open-sound : (s : List ℕ) → sound s ≡ true → Sound s
open-sound s e = open-core s (sound-core s e)

-- a sound state has the right length
pub sound-length : (s : List ℕ) → sound s ≡ true → length s ≡ state_length
sound-length s e = (open-sound s e).size

-- ---- the set-up of an initialised device

pub record Count (c : ℕ) : Type 0 where
  pub least : 64 ≤ c
  pub most : c ≤ 1024
  pub step : c % 32 ≡ 0

pub is-count : (c : ℕ) → is_count c ≡ true → Count c
unfolding is_count
is-count c e =
    let a = both (leb 64 c && leb c 1024) (eqb (c % 32) 0) e in
    let b = both (leb 64 c) (leb c 1024) a.0 in
    record { least = leb-true 64 c b.0; most = leb-true c 1024 b.1; step = eqb-true (c % 32) 0 a.1 }

module _ (i c n : ℕ) (e : setup i c n ≡ true) where
  parts : ((leb i 1 ≡ true) × (leb n most_vcpus ≡ true)) × ((eqb c 0 || is_count c) ≡ true) × ((eqb i 0 || (is_count c && leb 1 n)) ≡ true)
  unfolding setup
  parts =
      let a = both (leb i 1 && leb n most_vcpus && (eqb c 0 || is_count c)) (eqb i 0 || (is_count c && leb 1 n)) e in
      let b = both (leb i 1 && leb n most_vcpus) (eqb c 0 || is_count c) a.0 in
      (both (leb i 1) (leb n most_vcpus) b.0, b.1, a.1)

  pub setup-mark : i ≤ 1
  setup-mark = leb-true i 1 parts.0.0

  pub setup-vcpus : n ≤ 8
  setup-vcpus = leb-true n most_vcpus parts.0.1

  -- a count, or none yet
  pub setup-counted : (eqb c 0 || is_count c) ≡ true
  setup-counted = parts.1

  used : i ≡ 1 → (is_count c && leb 1 n) ≡ true
  used q = ⊎_elim (λ z. absurd (omega (arith, eqb-true i 0 z))) (λ z. z) (either (eqb i 0) (is_count c && leb 1 n) parts.2)

  pub setup-count : i ≡ 1 → Count c
  setup-count q = is-count c (both (is_count c) (leb 1 n) (used q)).0

  pub setup-some : i ≡ 1 → 1 ≤ n
  setup-some q = leb-true 1 n (both (is_count c) (leb 1 n) (used q)).1

-- ---- the bits that a word may have before initialising, and after

module _ (s : List ℕ) where
  pub word-fresh : initialised s ≡ 0 → (k w : ℕ) → word_ok (initialised s) (count s) (vcpus s) k w ≡ fits w (fresh_bits (vcpus s) k)
  unfolding word_ok allowed_bits
  word-fresh i k w = rw i

  pub word-used : initialised s ≡ 1 → (k w : ℕ) → word_ok (initialised s) (count s) (vcpus s) k w ≡ fits w (used_bits (count s) (vcpus s) k)
  unfolding word_ok allowed_bits
  word-used i k w = rw i

-- a sound state has at most eight vCPUs
pub sound-vcpus : (s : List ℕ) → sound s ≡ true → vcpus s ≤ most_vcpus
sound-vcpus s e = setup-vcpus (initialised s) (count s) (vcpus s) (open-sound s e).set_up

-- its count is a multiple of 32, at most 1024
pub sound-count : (s : List ℕ) → sound s ≡ true → (count s ≤ 1024) × (count s % 32 ≡ 0)
sound-count s e =
    ⊎_elim (λ z. let q = eqb-true (count s) 0 z in (omega arith, omega arith)) (λ z. ((is-count (count s) z).most, (is-count (count s) z).step))
    (either (eqb (count s) 0) (is_count (count s)) (setup-counted (initialised s) (count s) (vcpus s) (open-sound s e).set_up))

-- ---- a sound, initialised device: its numbers, and the bits that each word may have

pub record Ready (s : List ℕ) : Type 0 where
  pub size : length s ≡ state_length
  pub mark : initialised s ≡ 1
  pub counted : Count (count s)
  pub some : 1 ≤ vcpus s
  pub few : vcpus s ≤ 8
  pub each_vcpu : (v : ℕ) → v < vcpus s → vcpu_ok s v ≡ true
  pub used : (k : ℕ) → k < state_length → fits (word s k) (used_bits (count s) (vcpus s) k) ≡ true

pub core-ready : (s : List ℕ) → Sound s → initialised s ≡ 1 → Ready s
core-ready s h i =
    record {
      size = h.size;
      mark = i;
      counted = setup-count _ _ _ h.set_up i;
      some = setup-some _ _ _ h.set_up i;
      few = setup-vcpus _ _ _ h.set_up;
      each_vcpu = h.each_vcpu;
      used = λ k l. rw (word-used s i k (word s k)) at (h.each_word k l);
    }

pub ready : (s : List ℕ) → sound s ≡ true → initialised s ≡ 1 → Ready s
ready s e i = core-ready s (open-sound s e) i

-- ---- a stopped one

pub stopped-mark : (s : List ℕ) → stopped s ≡ true → initialised s ≡ 1
unfolding stopped
stopped-mark s e = eqb-true (initialised s) 1 (both (eqb (initialised s) 1) (all_below (λ v. eqb (running s v) 0) (vcpus s)) e).0

pub stopped-running : (s : List ℕ) → stopped s ≡ true → (v : ℕ) → v < vcpus s → running s v ≡ 0
unfolding stopped
stopped-running s e v l =
    eqb-true (running s v) 0 (below_at (λ u. eqb (running s u) 0) (vcpus s) (both (eqb (initialised s) 1) (all_below (λ u. eqb (running s u) 0) (vcpus s)) e).1 v l)

-- ---- what a vCPU has

pub record Vcpu (s : List ℕ) (v : ℕ) : Type 0 where
  pub edges : word s (sgi_edges_at v) ≡ edge_bits
  pub bpr0 : 2 ≤ word s (bpr_at v 0)
  pub bpr1 : 3 ≤ word s (bpr_at v 1)
  pub distinct : (u : ℕ) → u < v → not (eqb (affinity s u) (affinity s v)) ≡ true

pub open-vcpu : (s : List ℕ) (v : ℕ) → vcpu_ok s v ≡ true → Vcpu s v
unfolding vcpu_ok unused
open-vcpu s v e =
    let a = both (eqb (word s (sgi_edges_at v)) 0xffff && leb 2 (word s (bpr_at v 0)) && leb 3 (word s (bpr_at v 1))) (unused s (affinity s v) v) e in
    let b = both (eqb (word s (sgi_edges_at v)) 0xffff && leb 2 (word s (bpr_at v 0))) (leb 3 (word s (bpr_at v 1))) a.0 in
    let c = both (eqb (word s (sgi_edges_at v)) 0xffff) (leb 2 (word s (bpr_at v 0))) b.0 in
    record {
      edges = eqb-true _ _ c.0;
      bpr0 = leb-true 2 _ c.1;
      bpr1 = leb-true 3 _ b.1;
      distinct = below_at (λ u. not (eqb (affinity s u) (affinity s v))) v a.1;
    }

pub close-vcpu : (s : List ℕ) (v : ℕ) → Vcpu s v → vcpu_ok s v ≡ true
unfolding vcpu_ok unused
close-vcpu s v h =
    and-true (and-true (and-true (eq-eqb _ _ h.edges) (le-leb 2 _ h.bpr0)) (le-leb 3 _ h.bpr1))
    (below_all (λ u. not (eqb (affinity s u) (affinity s v))) v h.distinct)

-- it keeps that where the words of its block, and of those before it, stay
pub vcpu-kept : (s t : List ℕ) (v : ℕ) → ((u j : ℕ) → u ≤ v → j < 32 → word t (block u + j) ≡ word s (block u + j)) → vcpu_ok s v ≡ true → vcpu_ok t v ≡ true
vcpu-kept s t v same e =
    let h = open-vcpu s v e in
    close-vcpu t v (record {
      edges = same v edge_field (omega arith) (omega arith) ∙ h.edges;
      bpr0 = rw (same v (bpr_field 0) (omega arith) (omega arith)) h.bpr0;
      bpr1 = rw (same v (bpr_field 1) (omega arith) (omega arith)) h.bpr1;
      distinct = λ u l. rw (same u affinity_field (omega arith) (omega arith), same v affinity_field (omega arith) (omega arith)) (h.distinct u l);
    })

-- ---- and back: such numbers and words make a sound state

pub count-is : (c : ℕ) → Count c → is_count c ≡ true
unfolding is_count
count-is c h = and-true (and-true (le-leb 64 c h.least) (le-leb c 1024 h.most)) (eq-eqb (c % 32) 0 h.step)

pub ready-is-sound : (s : List ℕ) → Ready s → Sound s
unfolding setup
ready-is-sound s h = record {
  size = h.size;
  set_up = rw (h.mark, count-is (count s) h.counted, le-leb (vcpus s) 8 h.few, le-leb 1 (vcpus s) h.some) (and-true (or_right (eqb (count s) 0) refl) refl);
  each_vcpu = h.each_vcpu;
  each_word = λ k l. rw (word-used s h.mark k (word s k)) (h.used k l);
}

pub running-stopped : (s : List ℕ) → initialised s ≡ 1 → ((v : ℕ) → v < vcpus s → running s v ≡ 0) → stopped s ≡ true
unfolding stopped
running-stopped s i h = and-true (eq-eqb (initialised s) 1 i) (below_all (λ v. eqb (running s v) 0) (vcpus s) (λ v l. eq-eqb (running s v) 0 (h v l)))

pub stopped-ready : (s : List ℕ) → Stopped s → Ready s
stopped-ready s h = ready s h.is_sound (stopped-mark s h.is_stopped)

-- the core of a stopped device
pub record Resting (s : List ℕ) : Type 0 where
  pub is_ready : Ready s
  pub idle : (v : ℕ) → v < vcpus s → running s v ≡ 0

pub stopped-resting : (s : List ℕ) → Stopped s → Resting s
stopped-resting s h = record { is_ready = stopped-ready s h; idle = stopped-running s h.is_stopped }

pub resting-stopped : (s : List ℕ) → Resting s → stopped s ≡ true
resting-stopped s h = running-stopped s h.is_ready.mark h.idle
