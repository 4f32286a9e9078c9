-- The core of a device that was just made is sound; initialising a sound device with a vCPU leaves one that is fresh, with a sound core.
use Prim.Native.Nat.{ℕ, ◌+◌, ◌-◌, ◌/◌, ◌%◌, ◌^◌, ◌≤◌, ◌<◌}
use mathlib.Core.Path.{◌≡◌, refl, ◌∙◌}
use mathlib.Core.Bool.{Bool, true, false, cond}
use mathlib.Core.List.{List}
use native.Mathlib.Decide.{ℕ_discrete, dec_lt}
use native.Mathlib.Omega.{arith}
use borrow.Author.Tests.{eqb-true, eq-eqb, lt-ltb, le-ltb, le-leb}
use lib.Dec.{eqb}
use lib.ListN.{length, get_or, set, length-set}
use lib.Seq.{get_or-set_same, get_or-set_other}
use Rattle.model.specs.Words.{bit, within, every, all_below}
use Rattle.model.specs.Layout.{state_length, word, initialised, count, vcpus, block}
use Rattle.model.specs.Sound.{header_bits, block_bits, fresh_header_bits, fresh_block_bits, entry, used_bits, fresh_bits, allowed_bits, fits, word_ok, is_count, setup, vcpu_ok, core, sound, fresh}
use Rattle.model.specs.Calls.{made, initialised_next}
use Rattle.model.proofs.Tests.{both, and-true, or_right, every-at, every-all, below_at, below_all}
use Rattle.model.proofs.Within.{fits-none, bits_fit, zero-fits, wider}
use Rattle.model.proofs.Soundness.{Sound, open-core, open-sound, setup-vcpus, setup-counted, is-count, word-fresh, word-used, vcpu-kept}

-- just made: all zero
pub made-sound : Sound made
made-sound = open-core made (unfold core made setup is_count every word_ok allowed_bits fresh_bits entry fits all_below in refl)

-- ---- a fresh device is sound

-- entry by entry, the fresh masks lie within those of an initialised device
header-wider : all_below (λ j. within 32 (get_or fresh_header_bits j 0) (get_or header_bits j 0)) 16 ≡ true
unfolding all_below within
header-wider = refl

block-wider : all_below (λ j. within 32 (get_or fresh_block_bits j 0) (get_or block_bits j 0)) 32 ≡ true
unfolding all_below within
block-wider = refl

fresh-wider : (c n k w : ℕ) → fits w (fresh_bits n k) ≡ true → fits w (used_bits c n k) ≡ true
unfolding fresh_bits used_bits entry
fresh-wider c n k w e = go (dec_lt k 16) (dec_lt k 272) (dec_lt ((k - 16) / 32) n)
  where
    none : (m : ℕ) → w ≡ 0 → fits w m ≡ true
    none m z = rw z (zero-fits m)

    go : Dec (k < 16) → Dec (k < 272) → Dec ((k - 16) / 32 < n) → fits w (used_bits c n k) ≡ true
    go (yes a) d2 d3 = rw (lt-ltb k 16 a) (wider w (get_or fresh_header_bits k 0) (get_or header_bits k 0) (rw (lt-ltb k 16 a) at e) (below_at _ 16 header-wider k a))
    go (no a) (yes b) (yes q) =
        rw (le-ltb k 16 (omega arith), lt-ltb k 272 b, lt-ltb ((k - 16) / 32) n q)
        (wider w (get_or fresh_block_bits ((k - 16) % 32) 0) (get_or block_bits ((k - 16) % 32) 0) (rw (le-ltb k 16 (omega arith), lt-ltb k 272 b, lt-ltb ((k - 16) / 32) n q) at e)
        (below_at _ 32 block-wider ((k - 16) % 32) (omega arith)))
    go (no a) (yes b) (no q) = none (used_bits c n k) (fits-none w (rw (le-ltb k 16 (omega arith), lt-ltb k 272 b, le-ltb ((k - 16) / 32) n (omega arith)) at e))
    go (no a) (no b) d3 = none (used_bits c n k) (fits-none w (rw (le-ltb k 16 (omega arith), le-ltb k 272 (omega arith)) at e))

pub fresh-sound : (s : List ℕ) → length s ≡ state_length → setup (initialised s) (count s) (vcpus s) ≡ true → all_below (vcpu_ok s) (vcpus s) ≡ true → fresh s ≡ true → Sound s
unfolding fresh
fresh-sound s size ok each e =
    let a = both (eqb (initialised s) 1) (every (λ k w. fits w (fresh_bits (vcpus s) k)) 0 s) e in
    let i : initialised s ≡ 1 = eqb-true (initialised s) 1 a.0 in
    record {
      size = size;
      set_up = ok;
      each_vcpu = below_at (vcpu_ok s) (vcpus s) each;
      each_word = λ k l. rw (word-used s i k (word s k)) (fresh-wider (count s) (vcpus s) k (word s k) (every-at (λ j w. fits w (fresh_bits (vcpus s) j)) s a.1 k (omega arith)));
    }

-- every word of 32 bits fits the mask of all ones
pub all_ones : (w : ℕ) → w < 2 ^ 32 → fits w 0xffffffff ≡ true
all_ones w m = bits_fit w 0xffffffff m (λ i q e. below_at (bit 0xffffffff) 32 (unfold all_below bit in refl) i q)

-- ---- initialising leaves a fresh device

module _ (s : List ℕ) (h : Sound s) (start : initialised s ≡ 0) (some : 1 ≤ vcpus s) where
  abbrev c : ℕ
  c = cond (eqb (count s) 0) 256 (count s)

  abbrev t : List ℕ
  t = set (set s 1 c) 0 1

  long : length t ≡ state_length
  long = simp length-set h.size

  mark : word t 0 ≡ 1
  mark = get_or-set_same (set s 1 c) 0 1 0 (simp length-set (omega (arith, h.size)))

  pub counted : word t 1 ≡ c
  counted = get_or-set_other (set s 1 c) 0 1 1 0 (λ z. omega arith) ∙ get_or-set_same s 1 c 0 (omega (arith, h.size))

  pub later : (k : ℕ) → 2 ≤ k → word t k ≡ word s k
  later k l = get_or-set_other (set s 1 c) 0 k 1 0 (λ z. omega arith) ∙ get_or-set_other s 1 k c 0 (λ z. omega arith)

  is-valid : is_count c ≡ true
  is-valid = go (eqb (count s) 0) refl
    where
      go : (b : Bool) → eqb (count s) 0 ≡ b → is_count (cond b 256 (count s)) ≡ true
      go true e = unfold is_count in refl
      go false e = rw e at (setup-counted _ _ _ h.set_up)

  ready-set-up : setup (initialised t) (count t) (vcpus t) ≡ true
  unfolding setup
  ready-set-up =
      let few : vcpus s ≤ 8 = setup-vcpus (initialised s) (count s) (vcpus s) h.set_up in
      rw (mark, counted, later 2 (omega arith), is-valid, le-leb (vcpus s) 8 few, le-leb 1 (vcpus s) some) (and-true (or_right (eqb c 0) refl) refl)

  each_vcpu : (v : ℕ) → v < vcpus t → vcpu_ok t v ≡ true
  each_vcpu v l = vcpu-kept s t v (λ u j m n. later (block u + j) (omega arith)) (h.each_vcpu v (rw (later 2 (omega arith)) at l))

  fresh-word : (k : ℕ) → k < state_length → fits (word t k) (fresh_bits (vcpus t) k) ≡ true
  fresh-word k l = rw (later 2 (omega arith)) (go (ℕ_discrete k 0) (ℕ_discrete k 1))
    where
      go : Dec (k ≡ 0) → Dec (k ≡ 1) → fits (word t k) (fresh_bits (vcpus s) k) ≡ true
      go (yes e) d = rw (e, mark) (unfold fits within fresh_bits entry in refl)
      go (no a) (yes e) = rw (e, counted) (unfold fresh_bits entry in (all_ones c (omega (arith, (is-count c is-valid).most))))
      go (no a) (no b) = rw (later k (omega arith), ← word-fresh s start k (word s k)) (h.each_word k l)

  pub initialised-fresh : (fresh t ≡ true) × Sound t
  unfolding fresh
  initialised-fresh =
      let f : fresh t ≡ true = and-true (eq-eqb (word t 0) 1 mark) (every-all (λ k w. fits w (fresh_bits (vcpus t) k)) t (λ k l. fresh-word k (omega (arith, long)))) in
      (f, fresh-sound t long ready-set-up (below_all (vcpu_ok t) (vcpus t) each_vcpu) f)

-- what initialise leaves of a sound device with a vCPU that was not initialised
pub initialise-leaves-fresh : (s : List ℕ) → sound s ≡ true → initialised s ≡ 0 → 1 ≤ vcpus s → (fresh (initialised_next s) ≡ true) × Sound (initialised_next s)
unfolding initialised_next
initialise-leaves-fresh s e i n = rw i (initialised-fresh s (open-sound s e) i n)
