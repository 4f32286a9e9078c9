-- What demand 3 asks can be met: for every stopped device there is a fresh one of the same count and affinities, and a list that puts every listed attribute.
use Prim.Native.Nat.{ℕ, zero, suc, ◌+◌, ◌-◌, ◌/◌, ◌%◌, ◌<◌}
use mathlib.Core.Path.{◌≡◌, refl, ap, ◌∙◌}
use mathlib.Core.Bool.{true, cond}
use mathlib.Core.List.{List, [], ◌∷◌, map, Memᴰ}
use native.Mathlib.Nat.{add-zero, zero-add}
use native.Mathlib.Decide.{ℕ_discrete, dec_lt}
use native.Mathlib.Omega.{arith}
use borrow.Author.Tests.{eq-eqb, ne_eqb, lt-ltb, le-ltb}
use lib.Dec.{eqb, ltb}
use lib.ListN.{length, get_or}
use Rattle.model.specs.Words.{within}
use Rattle.model.specs.Layout.{state_length, word, vcpus, block, affinity, edge_field, affinity_field, bpr_field, least_bpr}
use Rattle.model.specs.Sound.{fresh_header_bits, fresh_block_bits, entry, fresh_bits, fits, vcpu_ok, fresh}
use Rattle.model.specs.Attributes.{Attribute, item_of, item_read}
use Rattle.model.specs.Record.{listed}
use Rattle.model.specs.Calls.{Call, set_attribute, call}
use Rattle.model.specs.Demands.{Stopped, Fresh, Alike, Put, puts, put, Restoring, none, one, Whole}
use Rattle.model.proofs.Tests.{and-true, every-all, below_all}
use Rattle.model.proofs.Within.{zero-fits}
use Rattle.model.proofs.Soundness.{stopped-ready, open-sound, Ready, ready, stopped-mark, open-vcpu, close-vcpu}
use Rattle.model.proofs.Fresh.{fresh-sound, all_ones}
use Rattle.model.proofs.Derived.{with-sound, with-fresh, with-alike}
use Rattle.model.proofs.ReadsBack.{alike_then}
use Rattle.model.proofs.Listed.{mem-map, family}
use Rattle.model.proofs.Asked.{get-answers}
use Rattle.model.proofs.Masks.{fits_word, block-word}
use Rattle.model.specs.Values.{edge_bits}
use Rattle.model.specs.Roles.{with_derived}

-- ---- a list of n numbers by their places

tabulate : (ℕ → ℕ) → ℕ → ℕ → List ℕ
tabulate f i zero = []
tabulate f i (suc n) = f i ∷ tabulate f (suc i) n

tabulate-length : (f : ℕ → ℕ) (i n : ℕ) → length (tabulate f i n) ≡ n
unfolding tabulate
tabulate-length f i zero = refl
tabulate-length f i (suc n) = ap suc (tabulate-length f (suc i) n)

tabulate-at : (f : ℕ → ℕ) (i n k : ℕ) → k < n → get_or (tabulate f i n) k 0 ≡ f (i + k)
unfolding tabulate
tabulate-at f i zero k l = absurd (omega arith)
tabulate-at f i (suc n) zero l = rw add-zero
tabulate-at f i (suc n) (suc k) l = let e : i + suc k ≡ suc i + k = omega arith in rw e (tabulate-at f (suc i) n k (omega arith))

-- ---- the words of the fresh device

block_word : List ℕ → ℕ → ℕ → ℕ
block_word s v j = cond (eqb j edge_field) edge_bits (cond (eqb j affinity_field) (affinity s v) (cond (eqb j (bpr_field 0)) (least_bpr 0) (cond (eqb j (bpr_field 1)) (least_bpr 1) 0)))

fresh_word : List ℕ → ℕ → ℕ
fresh_word s k = cond (ltb k 3) (word s k) (cond (ltb k 16) 0 (cond (ltb k 272) (cond (ltb ((k - 16) / 32) (vcpus s)) (block_word s ((k - 16) / 32) ((k - 16) % 32)) 0) 0))

module _ (s : List ℕ) (h : Ready s) where
  fresh_state : List ℕ
  fresh_state = tabulate (fresh_word s) 0 state_length

  long : length fresh_state ≡ state_length
  unfolding fresh_state
  long = tabulate-length (fresh_word s) 0 state_length

  at : (k : ℕ) → k < state_length → word fresh_state k ≡ fresh_word s k
  unfolding fresh_state
  at k l = tabulate-at (fresh_word s) 0 state_length k l ∙ ap (fresh_word s) (zero-add k)

  in-header : (k : ℕ) → k < 3 → word fresh_state k ≡ word s k
  unfolding fresh_word
  in-header k l = at k (omega arith) ∙ rw (lt-ltb k 3 l)

  in_block : (v j : ℕ) → v < vcpus s → j < 32 → word fresh_state (block v + j) ≡ block_word s v j
  unfolding fresh_word
  in_block v j l m =
      let d : (block v + j - 16) / 32 ≡ v = omega arith in
      let r : (block v + j - 16) % 32 ≡ j = omega arith in
      at (block v + j) (omega (arith, h.few))
      ∙ rw (le-ltb (block v + j) 3 (omega arith), le-ltb (block v + j) 16 (omega arith), lt-ltb (block v + j) 272 (omega (arith, h.few)), d, lt-ltb v (vcpus s) l, r)

  is-alike : Alike s fresh_state
  unfolding block_word
  is-alike = record {
    same_count = in-header 1 (omega arith);
    same_number = in-header 2 (omega arith);
    same_affinities = λ v l. in_block v affinity_field l (omega arith);
  }

  each_vcpu : (v : ℕ) → v < vcpus s → vcpu_ok fresh_state v ≡ true
  unfolding block_word
  each_vcpu v l = close-vcpu fresh_state v (record {
    edges = in_block v edge_field l (omega arith);
    bpr0 = rw (in_block v (bpr_field 0) l (omega arith)) (omega arith);
    bpr1 = rw (in_block v (bpr_field 1) l (omega arith)) (omega arith);
    distinct = λ u m. rw (in_block u affinity_field (omega arith) (omega arith), in_block v affinity_field l (omega arith)) ((open-vcpu s v (h.each_vcpu v l)).distinct u m);
  })

  -- each word of a block is within the fresh masks
  block-fits : (v j : ℕ) → v < vcpus s → fits (block_word s v j) (get_or fresh_block_bits j 0) ≡ true
  unfolding block_word
  block-fits v j l = go (ℕ_discrete j edge_field) (ℕ_discrete j affinity_field) (ℕ_discrete j (bpr_field 0)) (ℕ_discrete j (bpr_field 1))
    where
      go : Dec (j ≡ edge_field) → Dec (j ≡ affinity_field) → Dec (j ≡ bpr_field 0) → Dec (j ≡ bpr_field 1) → fits (block_word s v j) (get_or fresh_block_bits j 0) ≡ true
      go (yes e) d16 d21 d22 = rw e (unfold fits within in refl)
      go (no a) (yes e) d21 d22 = rw e (block-word s h v affinity_field l (omega arith))
      go (no a) (no b) (yes e) d22 = rw e (unfold fits within in refl)
      go (no a) (no b) (no c) (yes e) = rw e (unfold fits within in refl)
      go (no a) (no b) (no c) (no d) = rw (ne_eqb j edge_field a, ne_eqb j affinity_field b, ne_eqb j (bpr_field 0) c, ne_eqb j (bpr_field 1) d) (zero-fits (get_or fresh_block_bits j 0))

  word_fits : (k : ℕ) → k < state_length → fits (fresh_word s k) (fresh_bits (vcpus s) k) ≡ true
  unfolding fresh_word fresh_bits entry
  word_fits k l = go (dec_lt k 3) (dec_lt k 16) (dec_lt k 272) (dec_lt ((k - 16) / 32) (vcpus s))
    where
      header : (j : ℕ) → j < 3 → get_or fresh_header_bits j 0 ≡ 0xffffffff
      header zero m = refl
      header (suc zero) m = refl
      header (suc (suc zero)) m = refl
      header (suc (suc (suc j))) m = absurd (omega arith)

      go : Dec (k < 3) → Dec (k < 16) → Dec (k < 272) → Dec ((k - 16) / 32 < vcpus s) → fits (fresh_word s k) (fresh_bits (vcpus s) k) ≡ true
      go (yes a) d2 d3 d4 = rw (lt-ltb k 3 a, lt-ltb k 16 (omega arith), header k a) (all_ones (word s k) (fits_word s h k l))
      go (no a) (yes b) d3 d4 = rw (le-ltb k 3 (omega arith), lt-ltb k 16 b) (zero-fits _)
      go (no a) (no b) (yes c) (yes d) =
          rw (le-ltb k 3 (omega arith), le-ltb k 16 (omega arith), lt-ltb k 272 c, lt-ltb ((k - 16) / 32) (vcpus s) d) (block-fits ((k - 16) / 32) ((k - 16) % 32) d)
      go (no a) (no b) (yes c) (no d) = rw (le-ltb k 3 (omega arith), le-ltb k 16 (omega arith), lt-ltb k 272 c, le-ltb ((k - 16) / 32) (vcpus s) (omega arith)) (zero-fits 0)
      go (no a) (no b) (no c) d4 = rw (le-ltb k 3 (omega arith), le-ltb k 16 (omega arith), le-ltb k 272 (omega arith)) (zero-fits 0)

  is_fresh : fresh fresh_state ≡ true
  unfolding fresh
  is_fresh =
      and-true (eq-eqb (word fresh_state 0) 1 (in-header 0 (omega arith) ∙ h.mark))
      (rw (in-header 2 (omega arith)) (every-all (λ k w. fits w (fresh_bits (vcpus s) k)) fresh_state (λ k l.
      let m : k < state_length = omega (arith, long) in rw (at k m) (word_fits k m))))

pub fresh-alike : (s : List ℕ) → Stopped s → (t : List ℕ) × Fresh t × Alike s t
fresh-alike s hs =
    let i = stopped-mark s hs.is_stopped in
    let h = ready s hs.is_sound i in
    let t = fresh_state s h in (
      with_derived t,
      record {
        is_sound = with-sound t (fresh-sound t (long s h)
            (rw (in-header s h 0 (omega arith), in-header s h 1 (omega arith), in-header s h 2 (omega arith)) (open-sound s hs.is_sound).set_up)
            (rw (in-header s h 2 (omega arith)) (below_all (vcpu_ok t) (vcpus s) (each_vcpu s h)))
            (is_fresh s h));
        is_fresh = with-fresh t (is_fresh s h);
      },
      alike_then s t (with_derived t) (is-alike s h) (with-alike t (rw (in-header s h 2 (omega arith)) h.few)),
    )

-- ---- and there is a list that puts every listed attribute

abbrev put_of : List ℕ → Attribute → Call
put_of s a = set_attribute a.group a.number (item_read s (item_of a s))

module _ (from : List ℕ) (hf : Stopped from) where
  is-put : (a : Attribute) → Memᴰ a (listed from) → Put from a (put_of from a)
  is-put a m =
      puts a.number (item_read from (item_of a from)) refl (get-answers from hf (family from (stopped-ready from hf) m))

  are-restoring : (l : List Attribute) (s : List ℕ) → ((a : Attribute) → Memᴰ a l → Memᴰ a (listed from)) → Restoring from s (map (put_of from) l)
  are-restoring [] s h = none
  are-restoring (a ∷ l) s h =
      one (put (h a (Memᴰ.head refl)) (is-put a (h a (Memᴰ.head refl)))) (are-restoring l (call (put_of from a) s).state (λ b m. h b (Memᴰ.tail m)))

  pub whole-list : (to : List ℕ) → (cs : List Call) × Restoring from to cs × Whole from cs
  whole-list to =
      (map (put_of from) (listed from), are-restoring (listed from) to (λ a m. m), record { put_each = λ a m. (put_of from a, is-put a m, mem-map (put_of from) (listed from) m) })
