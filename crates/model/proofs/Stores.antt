-- Words that a place may have: a state of such words, of a sound state's set-up, has a sound core, and so has one in which such a word is stored.
use Prim.Native.Nat.{ℕ, ◌+◌, ◌≤◌, ◌<◌}
use mathlib.Core.Path.{◌≡◌, sym, ap, ◌∙◌, subst, refl}
use mathlib.Core.Bool.{true, false}
use mathlib.Core.List.{List}
use native.Mathlib.Decide.{ℕ_discrete}
use native.Mathlib.Omega.{arith}
use lib.ListN.{length, set, length-set}
use lib.Seq.{get_or-set_same, get_or-set_other}
use Rattle.model.specs.Values.{edge_bits}
use Rattle.model.specs.Layout.{state_length, word, initialised, initialised_at, count, count_at, vcpus, vcpus_at, block, affinity_field, affinity_at, edge_field, sgi_edges_at, bpr_field, bpr_at, least_bpr, running_at}
use Rattle.model.specs.Sound.{word_ok, vcpu_ok}
use Rattle.model.specs.Roles.{role_of, role_in, is_free}
use Rattle.model.specs.Demands.{Alike}
use Rattle.model.proofs.Soundness.{Sound, setup-vcpus, Ready, core-ready, ready-is-sound, Resting, open-vcpu, close-vcpu}
use Rattle.model.proofs.Roles.{block-role, block-free, outside-free, free_apart}

-- ---- a state of words that may stand there

-- the same initialised mark, count and affinities
pub record SameSetUp (f s : List ℕ) : Type 0 where
  pub same_mark : initialised s ≡ initialised f
  pub alike : Alike f s

-- the word w may stand at place k of a state of s's set-up
pub record MayStand (s : List ℕ) (k w : ℕ) : Type 0 where
  pub fit : word_ok (initialised s) (count s) (vcpus s) k w ≡ true
  pub edges : (v : ℕ) → v < vcpus s → k ≡ sgi_edges_at v → w ≡ edge_bits
  pub bpr0 : (v : ℕ) → v < vcpus s → k ≡ bpr_at v 0 → least_bpr 0 ≤ w
  pub bpr1 : (v : ℕ) → v < vcpus s → k ≡ bpr_at v 1 → least_bpr 1 ≤ w

-- each word of a sound state may stand where it does
pub stands : (s : List ℕ) → Sound s → (k : ℕ) → k < state_length → MayStand s k (word s k)
stands s h k l = record {
  fit = h.each_word k l;
  edges = λ v m e. rw e (open-vcpu s v (h.each_vcpu v m)).edges;
  bpr0 = λ v m e. rw e (open-vcpu s v (h.each_vcpu v m)).bpr0;
  bpr1 = λ v m e. rw e (open-vcpu s v (h.each_vcpu v m)).bpr1;
}

-- and in a state of the same set-up
pub stands_alike : (f s : List ℕ) (k w : ℕ) → SameSetUp f s → MayStand s k w → MayStand f k w
stands_alike f s k w same m = record {
  fit = rw (same.same_mark, same.alike.same_count, same.alike.same_number) at m.fit;
  edges = λ v l e. m.edges v (rw same.alike.same_number l) e;
  bpr0 = λ v l e. m.bpr0 v (rw same.alike.same_number l) e;
  bpr1 = λ v l e. m.bpr1 v (rw same.alike.same_number l) e;
}

-- a state of that length and set-up, each word of which may stand where it does, is sound
module _ (s t : List ℕ) (h : Sound s) (same : SameSetUp s t) (size : length t ≡ state_length) (may : (k : ℕ) → k < state_length → MayStand s k (word t k)) where
  each_vcpu : (v : ℕ) → v < vcpus s → vcpu_ok t v ≡ true
  each_vcpu v l =
      let few : vcpus s ≤ 8 = setup-vcpus _ _ _ h.set_up in
      close-vcpu t v (record {
        edges = (may (sgi_edges_at v) (omega arith)).edges v l refl;
        bpr0 = (may (bpr_at v 0) (omega arith)).bpr0 v l refl;
        bpr1 = (may (bpr_at v 1) (omega arith)).bpr1 v l refl;
        distinct = λ u m. rw (same.alike.same_affinities u (omega arith), same.alike.same_affinities v l) ((open-vcpu s v (h.each_vcpu v l)).distinct u m);
      })

  pub words-sound : Sound t
  words-sound = record {
    size = size;
    set_up = rw (same.same_mark, same.alike.same_count, same.alike.same_number) h.set_up;
    each_vcpu = λ v l. each_vcpu v (rw same.alike.same_number at l);
    each_word = λ k l. rw (same.same_mark, same.alike.same_count, same.alike.same_number) (may k l).fit;
  }

-- ---- storing one word

-- what holds of the word stored, and held of any other, holds after
pub stored : (P : ℕ → Type 0) (s : List ℕ) (p w k : ℕ) → p < length s → (k ≡ p → P w) → (¬ (k ≡ p) → P (word s k)) → P (word (set s p w) k)
stored P s p w k l new old = go (ℕ_discrete k p)
  where
    go : Dec (k ≡ p) → P (word (set s p w) k)
    go (yes e) = subst P (sym (ap (word (set s p w)) e ∙ get_or-set_same s p w 0 l)) (new e)
    go (no e) = subst P (sym (get_or-set_other s p k w 0 e)) (old e)

-- the word w may be stored at place p: it may stand there, and the place has no word of the set-up and no derived one
pub record MayStore (s : List ℕ) (p w : ℕ) : Type 0 where
  pub inside : p < state_length
  pub free : is_free (role_of p) ≡ true
  pub may : MayStand s p w

-- the words of the set-up
mark-set-up : is_free (role_of initialised_at) ≡ false
unfolding role_of role_in is_free
mark-set-up = refl

count-set-up : is_free (role_of count_at) ≡ false
unfolding role_of role_in is_free
count-set-up = refl

number-set-up : is_free (role_of vcpus_at) ≡ false
unfolding role_of role_in is_free
number-set-up = refl

affinity-set-up : (v : ℕ) → v < 8 → is_free (role_of (affinity_at v)) ≡ false
affinity-set-up v l = ap is_free (block-role v affinity_field l (omega arith)) ∙ unfold role_in is_free in refl

module _ (s : List ℕ) (p w : ℕ) (few : vcpus s ≤ 8) (m : MayStore s p w) where
  keeps : (k : ℕ) → ¬ (k ≡ p) → word (set s p w) k ≡ word s k
  keeps k n = get_or-set_other s p k w 0 n

  -- a word of the set-up stays
  stays : (k : ℕ) → is_free (role_of k) ≡ false → word (set s p w) k ≡ word s k
  stays k e = keeps k (free_apart k p e m.free)

  pub store_same : SameSetUp s (set s p w)
  store_same = record {
    same_mark = stays initialised_at mark-set-up;
    alike = record {
      same_count = stays count_at count-set-up;
      same_number = stays vcpus_at number-set-up;
      same_affinities = λ v l. stays (affinity_at v) (affinity-set-up v (omega arith));
    };
  }

  -- the core stays sound
  pub store-sound : Sound s → Sound (set s p w)
  store-sound h =
      words-sound s (set s p w) h store_same (length-set s p w ∙ h.size) (λ k l.
      stored (MayStand s k) s p w k (omega (arith, h.size, m.inside)) (λ e. rw e m.may) (λ n. stands s h k l))

  pub store-ready : Ready s → Ready (set s p w)
  store-ready h = core-ready (set s p w) (store-sound (ready-is-sound s h)) (store_same.same_mark ∙ h.mark)

  -- and stopped, if no vCPU's running mark was stored
  pub store-resting : Resting s → ((v : ℕ) → v < vcpus s → ¬ (p ≡ running_at v)) → Resting (set s p w)
  store-resting h idle = record {
    is_ready = store-ready h.is_ready;
    idle = λ v l.
        let k : v < vcpus s = rw store_same.alike.same_number at l in
        keeps (running_at v) (λ e. idle v k (sym e)) ∙ h.idle v k;
  }

-- where a word that fits may be stored: at word j of a vCPU's block
pub record Free (j w : ℕ) : Type 0 where
  pub small : j < 32
  pub no_edges : ¬ (j ≡ edge_field)
  pub no_affinity : ¬ (j ≡ affinity_field)
  pub bpr0 : j ≡ bpr_field 0 → least_bpr 0 ≤ w
  pub bpr1 : j ≡ bpr_field 1 → least_bpr 1 ≤ w

-- or outside the blocks, after the set-up
pub record Outside (p : ℕ) : Type 0 where
  pub past : 3 ≤ p
  pub inside : p < state_length
  pub apart : (v j : ℕ) → v < 8 → j < 32 → ¬ (p ≡ block v + j)

module _ (s : List ℕ) (few : vcpus s ≤ 8) where
  pub block-store : (v j w : ℕ) → v < vcpus s → Free j w → word_ok (initialised s) (count s) (vcpus s) (block v + j) w ≡ true → MayStore s (block v + j) w
  block-store v j w l a f = record {
    inside = omega (arith, a.small);
    free = block-free v j (omega arith) a.small a.no_affinity;
    may = record {
      fit = f;
      edges = λ u k e. absurd (a.no_edges (omega (arith, a.small)));
      bpr0 = λ u k e. a.bpr0 (omega (arith, a.small));
      bpr1 = λ u k e. a.bpr1 (omega (arith, a.small));
    };
  }

  pub outside-store : (p w : ℕ) → Outside p → word_ok (initialised s) (count s) (vcpus s) p w ≡ true → MayStore s p w
  outside-store p w o f = record {
    inside = o.inside;
    free = outside-free p o.past o.apart;
    may = record {
      fit = f;
      edges = λ v l e. absurd (o.apart v edge_field (omega arith) (omega arith) e);
      bpr0 = λ v l e. absurd (o.apart v (bpr_field 0) (omega arith) (omega arith) e);
      bpr1 = λ v l e. absurd (o.apart v (bpr_field 1) (omega arith) (omega arith) e);
    };
  }
