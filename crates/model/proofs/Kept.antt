-- Making, adding a vCPU, starting and stopping one, the count and initialising leave a sound state sound; any call does, if what it leaves where its tests pass is sound.
use Prim.Native.Nat.{ℕ, ◌+◌, ◌-◌, ◌/◌, ◌%◌, ◌≤◌, ◌<◌}
use mathlib.Core.Path.{◌≡◌, refl, sym, ◌∙◌}
use mathlib.Core.Bool.{Bool, true, false, not, cond, ◌||◌}
use mathlib.Core.List.{List}
use mathlib.Core.Logic.{⊎_elim}
use native.Mathlib.Decide.{ℕ_discrete}
use native.Mathlib.Omega.{arith}
use borrow.Author.Tests.{eqb-false, eq-eqb, ltb-true, lt-ltb, le-leb}
use lib.Dec.{eqb, ltb}
use lib.ListN.{length, get_or, set, length-set}
use lib.Seq.{get_or-set_same, get_or-set_other}
use Rattle.model.specs.Values.{edge_bits}
use Rattle.model.specs.Words.{val, within}
use Rattle.model.specs.Layout.{state_length, word, initialised, is_initialised, count, count_at, vcpus, vcpus_at, block, affinity, affinity_field, affinity_at, bpr_field, bpr_at, least_bpr, edge_field, sgi_edges_at, running_field, running_at}
use Rattle.model.specs.Sound.{entry, fresh_bits, fresh_header_bits, fresh_block_bits, fits, is_count, setup, is_affinity, unused, vcpu_ok, sound}
use Rattle.model.specs.Calls.{Call, make, add_vcpu, set_running, change_line, query_signal, read_distributor, write_distributor, read_frame, write_frame, read_system, write_system, get_attribute, set_attribute, save, restore, describe, in_phase, acceptable, checks, made, vcpu_added, initialised_next, next_core, call}
use Rattle.model.specs.declared.Phase.{Phase}
use Rattle.model.specs.declared.Phase.TheVariants.{Initialised, Changing, Stopped}
use Rattle.model.proofs.Tests.{or_right, below_at}
use Rattle.model.proofs.Within.{zero-fits, fits-none}
use Rattle.model.proofs.Soundness.{Sound, open-sound, sound-length, is-count, setup-mark, setup-vcpus, setup-counted, word-fresh, word-used, core-ready, stopped-mark, close-vcpu, vcpu-kept}
use Rattle.model.proofs.Derived.{with-sound}
use Rattle.model.proofs.Affinities.{affinity-fits}
use Rattle.model.proofs.Fresh.{made-sound, all_ones, initialise-leaves-fresh}
use Rattle.model.proofs.Refused.{Passed, passed, tests-next, IsGranted, every_call}
use Rattle.model.proofs.Masks.{entry-there, fresh-block-bits, block-is}
use Rattle.model.proofs.Stores.{stored, store-sound, block-store}

-- ---- a device in a phase

-- in every phase that a call may ask for it is initialised
pub in-phase : (p : Phase) (s : List ℕ) → in_phase p s ≡ true → is_initialised s ≡ true
in-phase Initialised s e = e
in-phase Changing s e = e
in-phase Stopped s e = eq-eqb (initialised s) 1 (stopped-mark s e)

-- ---- a device that is not initialised

pub not-marked : (s : List ℕ) → Sound s → is_initialised s ≡ false → initialised s ≡ 0
not-marked s h e = omega (arith, setup-mark _ _ _ h.set_up, eqb-false (initialised s) 1 e)

start-set-up : (c n : ℕ) → n ≤ 8 → (eqb c 0 || is_count c) ≡ true → setup 0 c n ≡ true
unfolding setup
start-set-up c n l e = rw (le-leb n 8 l, e)

-- a word may have no fewer bits where there is one vCPU more
fresh-more : (n k w : ℕ) → fits w (fresh_bits n k) ≡ true → fits w (fresh_bits (n + 1) k) ≡ true
unfolding fresh_bits entry
fresh-more n k w e =
    step (ltb k 16) (ltb k 272) (ltb ((k - 16) / 32) n) (ltb ((k - 16) / 32) (n + 1)) (get_or fresh_header_bits k 0) (get_or fresh_block_bits ((k - 16) % 32) 0)
    (λ q. lt-ltb ((k - 16) / 32) (n + 1) (omega (arith, ltb-true ((k - 16) / 32) n q))) e
  where
    step : (a b c d : Bool) (x y : ℕ) → (c ≡ true → d ≡ true) → fits w (cond a x (cond b (cond c y 0) 0)) ≡ true → fits w (cond a x (cond b (cond d y 0) 0)) ≡ true
    step true b c d x y h f = f
    step false false c d x y h f = f
    step false true true d x y h f = rw (h refl) f
    step false true false d x y h f = rw (fits-none w f) (zero-fits _)

-- ---- the count

module _ (s : List ℕ) (x : ℕ) (h : Sound s) (start : initialised s ≡ 0) (ok : is_count x ≡ true) where
  abbrev counted : List ℕ
  counted = set s count_at x

  pub beside : (k : ℕ) → ¬ (k ≡ 1) → word counted k ≡ word s k
  beside k n = get_or-set_other s 1 k x 0 n

  pub still-start : initialised counted ≡ 0
  still-start = beside 0 (λ e. omega arith) ∙ start

  pub same_number : vcpus counted ≡ vcpus s
  same_number = beside 2 (λ e. omega arith)

  pub counted-sound : Sound counted
  counted-sound = record {
    size = length-set s 1 x ∙ h.size;
    set_up = rw (still-start, same_number) (start-set-up (count counted) (vcpus s) (setup-vcpus _ _ _ h.set_up) (rw (get_or-set_same s 1 x 0 (omega (arith, h.size))) (or_right (eqb x 0) ok)));
    each_vcpu = λ v l. vcpu-kept s counted v (λ u j m n. beside (block u + j) (λ e. omega arith)) (h.each_vcpu v (rw same_number at l));
    each_word = λ k l. rw (word-fresh counted still-start k (word counted k), same_number)
        (stored (λ w. fits w (fresh_bits (vcpus s) k) ≡ true) s 1 x k (omega (arith, h.size))
        (λ e. rw e (unfold fresh_bits entry in (all_ones x (omega (arith, (is-count x ok).most)))))
        (λ n. rw (word-fresh s start k (word s k)) at (h.each_word k l)));
  }

-- ---- one vCPU more

-- what add vCPU asks of a sound device
pub record MayAdd (s : List ℕ) (a : ℕ) : Type 0 where
  pub start : initialised s ≡ 0
  pub valid : is_affinity a ≡ true
  pub new : unused s a (vcpus s) ≡ true
  pub room : vcpus s < 8

module _ (s : List ℕ) (a : ℕ) (h : Sound s) (m : MayAdd s a) where
  abbrev n : ℕ
  n = vcpus s

  abbrev t : List ℕ
  t = vcpu_added s n a

  long : length t ≡ state_length
  unfolding vcpu_added
  long = simp length-set h.size

  -- a place where nothing is stored
  record Elsewhere (k : ℕ) : Type 0 where
    no_edges : ¬ (k ≡ sgi_edges_at n)
    no_affinity : ¬ (k ≡ affinity_at n)
    no-bpr0 : ¬ (k ≡ bpr_at n 0)
    no-bpr1 : ¬ (k ≡ bpr_at n 1)
    no_number : ¬ (k ≡ vcpus_at)

  -- P holds of what is stored at place k, or of what stood there
  record Held (P : ℕ → Type 0) (k : ℕ) : Type 0 where
    edges : k ≡ sgi_edges_at n → P edge_bits
    given : k ≡ affinity_at n → P a
    bpr0 : k ≡ bpr_at n 0 → P (least_bpr 0)
    bpr1 : k ≡ bpr_at n 1 → P (least_bpr 1)
    number : k ≡ vcpus_at → P (n + 1)
    old : Elsewhere k → P (word s k)

  holds : (P : ℕ → Type 0) (k : ℕ) → Held P k → P (word t k)
  unfolding vcpu_added
  holds P k p =
      let s1 = set s (sgi_edges_at n) 0xffff in
      let s2 = set s1 (affinity_at n) a in
      let s3 = set s2 (bpr_at n 0) 2 in
      let s4 = set s3 (bpr_at n 1) 3 in
      let l = h.size in
      let r = m.room in
      stored P s4 vcpus_at (n + 1) k (simp length-set (omega arith)) p.number (λ n5.
      stored P s3 (bpr_at n 1) 3 k (simp length-set (omega arith)) p.bpr1 (λ n4.
      stored P s2 (bpr_at n 0) 2 k (simp length-set (omega arith)) p.bpr0 (λ n3.
      stored P s1 (affinity_at n) a k (simp length-set (omega arith)) p.given (λ n2.
      stored P s (sgi_edges_at n) 0xffff k (omega arith) p.edges (λ n1.
      p.old (record { no_edges = n1; no_affinity = n2; no-bpr0 = n3; no-bpr1 = n4; no_number = n5 }))))))

  other : (k : ℕ) → Elsewhere k → word t k ≡ word s k
  other k e = holds (λ x. x ≡ word s k) k (omega arith)

  pub mark : initialised t ≡ 0
  mark = other 0 (omega arith) ∙ m.start

  pub same_count : count t ≡ count s
  same_count = other 1 (omega arith)

  pub number : vcpus t ≡ n + 1
  number = holds (λ x. x ≡ n + 1) vcpus_at (omega arith)

  -- the words of the vCPUs before it stay
  pub kept_word : (u j : ℕ) → u < n → j < 32 → word t (block u + j) ≡ word s (block u + j)
  kept_word u j l q = other (block u + j) (omega arith)

  pub new-affinity : affinity t n ≡ a
  new-affinity = holds (λ x. x ≡ a) (affinity_at n) (omega arith)

  new-vcpu : vcpu_ok t n ≡ true
  unfolding unused
  new-vcpu = close-vcpu t n (record {
    edges = holds (λ x. x ≡ 0xffff) (sgi_edges_at n) (omega arith);
    bpr0 = holds (λ x. 2 ≤ x) (bpr_at n 0) (omega arith);
    bpr1 = holds (λ x. 3 ≤ x) (bpr_at n 1) (omega arith);
    distinct = λ u l. rw (kept_word u affinity_field l (omega arith), new-affinity) (below_at (λ v. not (eqb (affinity s v) a)) n m.new u l);
  })

  -- the bits that the words of the new block may have
  new-bits : (j k : ℕ) → j < 32 → k ≡ block n + j → fresh_bits (n + 1) k ≡ get_or fresh_block_bits j 0
  new-bits j k l e = rw e (fresh-block-bits (n + 1) n j m.room l ∙ entry-there _ fresh_block_bits j (lt-ltb n (n + 1) (omega arith)))

  each_word : (k : ℕ) → k < state_length → fits (word t k) (fresh_bits (n + 1) k) ≡ true
  each_word k l = holds (λ w. fits w (fresh_bits (n + 1) k) ≡ true) k (record {
    edges = λ e. rw (new-bits edge_field k (omega arith) e) (unfold fits within in refl);
    given = λ e. rw (new-bits affinity_field k (omega arith) e) (sym (affinity-fits a) ∙ m.valid);
    bpr0 = λ e. rw (new-bits (bpr_field 0) k (omega arith) e) (unfold fits within in refl);
    bpr1 = λ e. rw (new-bits (bpr_field 1) k (omega arith) e) (unfold fits within in refl);
    number = λ e. rw e (unfold fresh_bits entry in (all_ones (n + 1) (omega (arith, m.room))));
    old = λ e. fresh-more n k (word s k) (rw (word-fresh s m.start k (word s k)) at (h.each_word k l));
  })

  pub added-sound : Sound t
  added-sound = record {
    size = long;
    set_up = rw (mark, same_count, number) (start-set-up (count s) (n + 1) (omega (arith, m.room)) (setup-counted _ _ _ h.set_up));
    each_vcpu = λ v l. go v (rw number at l) (ℕ_discrete v n);
    each_word = λ k l. rw (word-fresh t mark k (word t k), number) (each_word k l);
  }
    where
      go : (v : ℕ) → v < n + 1 → Dec (v ≡ n) → vcpu_ok t v ≡ true
      go v l (yes e) = rw e new-vcpu
      go v l (no e) = vcpu-kept s t v (λ u j q r. kept_word u j (omega arith) r) (h.each_vcpu v (omega arith))

-- ---- starting and stopping a vCPU

running-fits : (on : Bool) → fits (val on) 1 ≡ true
unfolding fits within
running-fits true = refl
running-fits false = refl

pub running-sound : (s : List ℕ) (v : ℕ) (on : Bool) → Sound s → initialised s ≡ 1 → v < vcpus s → Sound (set s (running_at v) (val on))
running-sound s v on h i l =
    let r = core-ready s h i in
    store-sound s (running_at v) (val on) r.few
    (block-store s r.few v running_field (val on) l (omega arith) (rw (word-used s i (running_at v) (val on), block-is s r v running_field l (omega arith)) (running-fits on))) h

-- ---- the calls

-- a sound state is lent as every call asks
sound-lent : (c : Call) (s : List ℕ) → sound s ≡ true → acceptable c s ≡ true
unfolding describe
sound-lent make s h = eq-eqb (length s) state_length (sound-length s h)
sound-lent (add_vcpu a) s h = h
sound-lent (set_running v on) s h = h
sound-lent (change_line v id level) s h = h
sound-lent (query_signal v) s h = h
sound-lent (read_distributor v off size) s h = h
sound-lent (write_distributor v off size x) s h = h
sound-lent (read_frame v f off size) s h = h
sound-lent (write_frame v f off size x) s h = h
sound-lent (read_system v e) s h = h
sound-lent (write_system v e x) s h = h
sound-lent (get_attribute g a) s h = h
sound-lent (set_attribute g a x) s h = h
sound-lent (save buf) s h = h
sound-lent (restore bytes) s h = h

-- a call keeps a state sound if the core of what it leaves is sound where its tests pass
pub kept : (c : Call) (s : List ℕ) → sound s ≡ true → (Passed (checks c s) → Sound (next_core c s)) → sound (call c s).state ≡ true
kept c s h leaves =
    ⊎_elim (λ g. rw g.state (with-sound _ (leaves (passed (checks c s) (sym (tests-next c s (sound-lent c s h)) ∙ g.grants)))))
    (λ r. rw r.1.state h) (every_call c s)

-- what making leaves is sound, whatever stood there
pub make-sound : (s : List ℕ) → IsGranted make s → sound (call make s).state ≡ true
unfolding describe
make-sound s g = rw g.state (with-sound made made-sound)

pub initialise-sound : (s : List ℕ) → sound s ≡ true → (is_initialised s || ltb 0 (vcpus s)) ≡ true → Sound (initialised_next s)
initialise-sound s h p = go (is_initialised s) refl
  where
    go : (b : Bool) → is_initialised s ≡ b → Sound (initialised_next s)
    go true e = unfold initialised_next in (rw e (open-sound s h))
    go false e = (initialise-leaves-fresh s h (not-marked s (open-sound s h) e) (ltb-true 0 (vcpus s) (rw e at p))).1
