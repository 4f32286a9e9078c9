-- A state is sound and not initialised exactly if making a device, setting its count and adding its vCPUs lead to it, and sound and fresh exactly if
-- initialising after these calls does. So the fresh values are what the calls leave, and no word may have another.
use Prim.Native.Nat.{ℕ, zero, suc, ◌+◌, ◌-◌, ◌/◌, ◌%◌, ◌≤◌, ◌<◌}
use mathlib.Core.Path.{◌≡◌, refl, sym, ap, ◌∙◌}
use mathlib.Core.Bool.{Bool, true, false, not, cond, ◌||◌}
use mathlib.Core.List.{List, [], ◌∷◌, ◌++◌}
use mathlib.Core.Logic.{◌↔◌, ⊎_elim}
use native.Mathlib.Decide.{ℕ_discrete, dec_lt}
use native.Mathlib.Omega.{arith}
use borrow.Author.Tests.{eqb-true, eq-eqb, ne_eqb, lt-ltb, le-ltb, ltb-true}
use lib.Dec.{eqb, ltb}
use lib.ListN.{length, get_or, set}
use lib.Seq.{get_or-set_same}
use Rattle.model.specs.Words.{all_below, each}
use Rattle.model.specs.Layout.{state_length, word, initialised, is_initialised, initialised_at, count, count_at, vcpus, vcpus_at, block, affinity, affinity_at, affinity_field, edge_field, bpr_field, bpr_at}
use Rattle.model.specs.Roles.{with_derived}
use Rattle.model.specs.Sound.{fresh_header_bits, fresh_block_bits, entry, fresh_bits, fits, is_count, is_affinity, unused, sound}
use Rattle.model.specs.Attributes.{group_of}
use Rattle.model.specs.Calls.{Call, make, add_vcpu, set_attribute, describe, acceptable, checks, set_checks, made, vcpu_added, initialised_next, set_state, next_core, call, after}
use Rattle.model.specs.Demands.{Fresh, Alike}
use Rattle.model.proofs.Tests.{or_right, below_at, below_all}
use Rattle.model.proofs.Within.{fits-none, fits_le}
use Rattle.model.proofs.Soundness.{Sound, open-sound, sound-vcpus, setup-mark, setup-vcpus, setup-counted, word-fresh, Ready, ready, Vcpu, open-vcpu}
use Rattle.model.proofs.Derived.{with-word, with-sound, with-fresh, with-alike, core-decides}
use Rattle.model.proofs.Roles.{header-core, block-core}
use Rattle.model.proofs.Affinities.{affinity-fits}
use Rattle.model.proofs.Fresh.{made-sound, counted, later, initialise-leaves-fresh}
use Rattle.model.proofs.Refused.{Passed, tests-next, none_of, unrefused, is-granted, every_call}
use Rattle.model.proofs.Masks.{entry-there, entry_absent, fresh-block-bits, block-word}
use Rattle.model.proofs.Kept as kept
use Rattle.model.proofs.Restores.{fresh-word, fresh-mark}
use Rattle.model.proofs.ReadsBack.{alike_then}
use Rattle.model.proofs.SoundKept.{sound-kept, made_after}

-- ---- the calls that set a device up as s is

-- its count, where it has one
abbrev pub counting : ℕ → List Call
counting c = cond (eqb c 0) [] (set_attribute 3 0 c ∷ [])

-- k vCPUs from index u on, with its affinities
abbrev pub adding : List ℕ → ℕ → ℕ → List Call
adding s u k = each (λ v. add_vcpu (affinity s v) ∷ []) u k

abbrev pub set_up_as : List ℕ → List Call
set_up_as s = make ∷ (counting (count s) ++ adding s 0 (vcpus s))

abbrev pub initialised_as : List ℕ → List Call
initialised_as s = set_up_as s ++ (set_attribute 4 0 0 ∷ [])

-- ---- of one mark, count and list of affinities there is only one state with the fresh values

-- words 3 to 15, and in a block all but four words, may have no bit
header-none : (n k : ℕ) → 3 ≤ k → k < 16 → fresh_bits n k ≡ 0
unfolding fresh_bits entry
header-none n k l m =
    rw (lt-ltb k 16 m) (eqb-true _ 0 (rw (le-ltb k 3 l) at (below_at (λ j. ltb j 3 || eqb (get_or fresh_header_bits j 0) 0) 16 (unfold all_below in refl) k m)))

block_none : (j : ℕ) → j < 32 → ¬ (j ≡ edge_field) → ¬ (j ≡ affinity_field) → ¬ (j ≡ bpr_field 0) → ¬ (j ≡ bpr_field 1) → get_or fresh_block_bits j 0 ≡ 0
block_none j l a b c d =
    eqb-true _ 0 (rw (ne_eqb j edge_field a, ne_eqb j affinity_field b, ne_eqb j (bpr_field 0) c, ne_eqb j (bpr_field 1) d)
    at (below_at (λ i. eqb i edge_field || (eqb i affinity_field || (eqb i (bpr_field 0) || (eqb i (bpr_field 1) || eqb (get_or fresh_block_bits i 0) 0)))) 32 (unfold all_below in refl) j l))

rest-none : (n k : ℕ) → 272 ≤ k → fresh_bits n k ≡ 0
unfolding fresh_bits
rest-none n k l = rw (le-ltb k 16 (omega arith), le-ltb k 272 l)

-- each word has only bits of the fresh values
record Plain (s : List ℕ) : Type 0 where
  is_sound : sound s ≡ true
  each_word : (k : ℕ) → k < state_length → fits (word s k) (fresh_bits (vcpus s) k) ≡ true

start_plain : (s : List ℕ) → sound s ≡ true → initialised s ≡ 0 → Plain s
start_plain s h i = record { is_sound = h; each_word = λ k l. rw (word-fresh s i k (word s k)) at ((open-sound s h).each_word k l) }

fresh-plain : (s : List ℕ) → Fresh s → Plain s
fresh-plain s h = record { is_sound = h.is_sound; each_word = fresh-word s h (open-sound s h.is_sound).size }

module _ (s : List ℕ) (h : Plain s) where
  few : vcpus s ≤ 8
  few = setup-vcpus _ _ _ (open-sound s h.is_sound).set_up

  zero_word : (k : ℕ) → k < state_length → fresh_bits (vcpus s) k ≡ 0 → word s k ≡ 0
  zero_word k l e = fits-none (word s k) (rw e at (h.each_word k l))

  vcpu : (v : ℕ) → v < vcpus s → Vcpu s v
  vcpu v l = open-vcpu s v ((open-sound s h.is_sound).each_vcpu v l)

  in_block : (v j : ℕ) → v < vcpus s → j < 32 → fits (word s (block v + j)) (get_or fresh_block_bits j 0) ≡ true
  in_block v j l m =
      let e = few in
      rw (fresh-block-bits (vcpus s) v j (omega arith) m ∙ entry-there _ fresh_block_bits j (lt-ltb v (vcpus s) l)) at (h.each_word (block v + j) (omega arith))

  -- a BPR within its least value, and no less, is that value
  bpr0 : (v : ℕ) → v < vcpus s → word s (bpr_at v 0) ≡ 2
  bpr0 v l = omega (arith, fits_le (word s (bpr_at v 0)) 2 (in_block v (bpr_field 0) l (omega arith)), (vcpu v l).bpr0)

  bpr1 : (v : ℕ) → v < vcpus s → word s (bpr_at v 1) ≡ 3
  bpr1 v l = omega (arith, fits_le (word s (bpr_at v 1)) 3 (in_block v (bpr_field 1) l (omega arith)), (vcpu v l).bpr1)

module _ (s t : List ℕ) (hs : Plain s) (ht : Plain t) (mark : initialised t ≡ initialised s) (same : Alike s t) where
  both_zero : (k : ℕ) → k < state_length → fresh_bits (vcpus s) k ≡ 0 → word t k ≡ word s k
  both_zero k l e = zero_word t ht k l (rw same.same_number e) ∙ sym (zero_word s hs k l e)

  same-header : (k : ℕ) → k < 16 → word t k ≡ word s k
  same-header k l = go (ℕ_discrete k 0) (ℕ_discrete k 1) (ℕ_discrete k 2)
    where
      go : Dec (k ≡ 0) → Dec (k ≡ 1) → Dec (k ≡ 2) → word t k ≡ word s k
      go (yes e) d1 d2 = rw e mark
      go (no a) (yes e) d2 = rw e same.same_count
      go (no a) (no b) (yes e) = rw e same.same_number
      go (no a) (no b) (no c) = both_zero k (omega arith) (header-none (vcpus s) k (omega arith) l)

  same_block : (v j : ℕ) → v < 8 → j < 32 → word t (block v + j) ≡ word s (block v + j)
  same_block v j l m = go (dec_lt v (vcpus s)) (ℕ_discrete j edge_field) (ℕ_discrete j affinity_field) (ℕ_discrete j (bpr_field 0)) (ℕ_discrete j (bpr_field 1))
    where
      there : v < vcpus s → v < vcpus t
      there q = rw same.same_number q

      go : Dec (v < vcpus s) → Dec (j ≡ edge_field) → Dec (j ≡ affinity_field) → Dec (j ≡ bpr_field 0) → Dec (j ≡ bpr_field 1) → word t (block v + j) ≡ word s (block v + j)
      go (no q) d13 d16 d21 d22 =
          both_zero (block v + j) (omega arith) (fresh-block-bits (vcpus s) v j l m ∙ entry_absent _ fresh_block_bits j (le-ltb v (vcpus s) (omega arith)))
      go (yes q) (yes e) d16 d21 d22 = rw e ((vcpu t ht v (there q)).edges ∙ sym (vcpu s hs v q).edges)
      go (yes q) (no a) (yes e) d21 d22 = rw e (same.same_affinities v q)
      go (yes q) (no a) (no b) (yes e) d22 = rw e (bpr0 t ht v (there q) ∙ sym (bpr0 s hs v q))
      go (yes q) (no a) (no b) (no c) (yes e) = rw e (bpr1 t ht v (there q) ∙ sym (bpr1 s hs v q))
      go (yes q) (no a) (no b) (no c) (no d) =
          both_zero (block v + j) (omega arith) (fresh-block-bits (vcpus s) v j l m ∙ entry-there _ fresh_block_bits j (lt-ltb v (vcpus s) q) ∙ block_none j m a b c d)

  only_one : t ≡ s
  only_one = core-decides s t hs.is_sound ht.is_sound (λ k l core. go k l (dec_lt k 16) (dec_lt k 272))
    where
      go : (k : ℕ) → k < state_length → Dec (k < 16) → Dec (k < 272) → word t k ≡ word s k
      go k l (yes a) b = same-header k a
      go k l (no a) (yes b) =
          let e : block ((k - 16) / 32) + (k - 16) % 32 ≡ k = omega arith in
          rw e at (same_block ((k - 16) / 32) ((k - 16) % 32) (omega arith) (omega arith))
      go k l (no a) (no b) = both_zero k l (rest-none (vcpus s) k (omega arith))

-- ---- what the calls lead to

-- a call whose tests all hold leaves what its description says
goes : (c : Call) (s : List ℕ) → acceptable c s ≡ true → Passed (checks c s) → (call c s).state ≡ with_derived (next_core c s)
goes c s e p = (is-granted c s (tests-next c s e ∙ none_of (checks c s) p)).state

-- what was set up so far: the count c, and u vCPUs with the affinities of s
record SoFar (s : List ℕ) (c u : ℕ) (t : List ℕ) : Type 0 where
  is_sound : sound t ≡ true
  start : initialised t ≡ 0
  counted : count t ≡ c
  number : vcpus t ≡ u
  given : (v : ℕ) → v < u → affinity t v ≡ affinity s v

-- a core that is so is so with its derived words put in
so-far-with : (s : List ℕ) (c u : ℕ) (t : List ℕ) → u ≤ 8 → Sound t → initialised t ≡ 0 → count t ≡ c → vcpus t ≡ u → ((v : ℕ) → v < u → affinity t v ≡ affinity s v) → SoFar s c u (with_derived t)
so-far-with s c u t few h i e n a = record {
  is_sound = with-sound t h;
  start = with-word t initialised_at (header-core initialised_at (omega arith)) ∙ i;
  counted = with-word t count_at (header-core count_at (omega arith)) ∙ e;
  number = with-word t vcpus_at (header-core vcpus_at (omega arith)) ∙ n;
  given = λ v l. with-word t (affinity_at v) (block-core v affinity_field (omega arith) (omega arith)) ∙ a v l;
}

made-so-far : (s t : List ℕ) → length t ≡ state_length → SoFar s 0 0 (call make t).state
unfolding describe made
made-so-far s t l =
    rw (goes make t (eq-eqb (length t) state_length l) tt) (so-far-with s 0 0 made (omega arith) made-sound refl refl refl (λ v m. absurd (omega arith)))

counted-so-far : (s t : List ℕ) (c : ℕ) → is_count c ≡ true → SoFar s 0 0 t → SoFar s c 0 (call (set_attribute 3 0 c) t).state
unfolding describe group_of set_checks set_state
counted-so-far s t c ok h =
    let o = open-sound t h.is_sound in
    rw (goes (set_attribute 3 0 c) t h.is_sound (ok, (rw (h.counted, h.start) refl, tt)))
    (so-far-with s c 0 (set t count_at c) (omega arith) (kept.counted-sound t c o h.start ok) (kept.still-start t c o h.start ok)
    (get_or-set_same t count_at c 0 (omega (arith, o.size))) (kept.same_number t c o h.start ok ∙ h.number) (λ v l. absurd (omega arith)))

-- the affinities of a sound state may be added, one after the other
sound-affinity : (s : List ℕ) → sound s ≡ true → (v : ℕ) → v < vcpus s → is_affinity (affinity s v) ≡ true
sound-affinity s h v l = affinity-fits (affinity s v) ∙ go (ℕ_discrete (initialised s) 1)
  where
    go : Dec (initialised s ≡ 1) → fits (affinity s v) 0x00ffff0f ≡ true
    go (yes i) = block-word s (ready s h i) v affinity_field l (omega arith)
    go (no i) = in_block s (start_plain s h (omega (arith, setup-mark _ _ _ (open-sound s h).set_up))) v affinity_field l (omega arith)

may_add : (s t : List ℕ) (c u : ℕ) → sound s ≡ true → u < vcpus s → SoFar s c u t → kept.MayAdd t (affinity s u)
unfolding unused
may_add s t c u hs l h = record {
  start = h.start;
  valid = sound-affinity s hs u l;
  new = rw h.number (below_all (λ v. not (eqb (affinity t v) (affinity s u))) u (λ v m. rw (h.given v m) ((open-vcpu s u ((open-sound s hs).each_vcpu u l)).distinct v m)));
  room = rw h.number (omega (arith, sound-vcpus s hs));
}

added-so-far : (s t : List ℕ) (c u : ℕ) → sound s ≡ true → u < vcpus s → SoFar s c u t → SoFar s c (suc u) (call (add_vcpu (affinity s u)) t).state
unfolding describe
added-so-far s t c u hs l h =
    rw (goes (add_vcpu (affinity s u)) t h.is_sound (rw h.start refl, (m.valid, (m.new, (lt-ltb (vcpus t) 8 m.room, tt)))))
    (so-far-with s c (suc u) (vcpu_added t (vcpus t) (affinity s u)) (omega (arith, sound-vcpus s hs)) (kept.added-sound t (affinity s u) o m) (kept.mark t (affinity s u) o m)
    (kept.same_count t (affinity s u) o m ∙ h.counted) (omega (arith, kept.number t (affinity s u) o m, h.number)) (λ v q. go v q (ℕ_discrete v u)))
  where
    o : Sound t
    o = open-sound t h.is_sound

    m : kept.MayAdd t (affinity s u)
    m = may_add s t c u hs l h

    go : (v : ℕ) → v < suc u → Dec (v ≡ u) → affinity (vcpu_added t (vcpus t) (affinity s u)) v ≡ affinity s v
    go v q (yes e) = ap (affinity (vcpu_added t (vcpus t) (affinity s u))) (e ∙ sym h.number) ∙ kept.new-affinity t (affinity s u) o m ∙ ap (affinity s) (sym e)
    go v q (no e) = kept.kept_word t (affinity s u) o m v affinity_field (rw h.number (omega arith)) (omega arith) ∙ h.given v (omega arith)

-- all its vCPUs
all-added : (s : List ℕ) (c k u : ℕ) (t : List ℕ) → sound s ≡ true → u + k ≡ vcpus s → SoFar s c u t → SoFar s c (vcpus s) (after (adding s u k) t)
unfolding after each
all-added s c zero u t hs e h = let q : u ≡ vcpus s = omega arith in rw q at h
all-added s c (suc k) u t hs e h = all-added s c k (suc u) (call (add_vcpu (affinity s u)) t).state hs (omega arith) (added-so-far s t c u hs (omega arith) h)

after_both : (cs ds : List Call) (s : List ℕ) → after (cs ++ ds) s ≡ after ds (after cs s)
unfolding after
after_both [] ds s = refl
after_both (c ∷ cs) ds s = after_both cs ds (call c s).state

-- the calls of `set_up_as` lead to the count and the affinities of s
set_up : (s t : List ℕ) → sound s ≡ true → length t ≡ state_length → SoFar s (count s) (vcpus s) (after (set_up_as s) t)
unfolding after
set_up s t hs l = rw (after_both (counting (count s)) (adding s 0 (vcpus s)) (call make t).state) (all-added s (count s) (vcpus s) 0 _ hs (omega arith) (go (eqb (count s) 0) refl))
  where
    m : SoFar s 0 0 (call make t).state
    m = made-so-far s t l

    go : (b : Bool) → eqb (count s) 0 ≡ b → SoFar s (count s) 0 (after (cond b [] (set_attribute 3 0 (count s) ∷ [])) (call make t).state)
    go true e = rw (eqb-true (count s) 0 e) m
    go false e = counted-so-far s (call make t).state (count s) (rw e at (setup-counted _ _ _ (open-sound s hs).set_up)) m

so-far-alike : (s t : List ℕ) → SoFar s (count s) (vcpus s) t → Alike s t
so-far-alike s t h = record { same_count = h.counted; same_number = h.number; same_affinities = h.given }

-- initialising keeps a count that is set, and the affinities
initialised-alike : (t : List ℕ) → Sound t → initialised t ≡ 0 → 1 ≤ vcpus t → ¬ (count t ≡ 0) → Alike t (initialised_next t)
unfolding initialised_next
initialised-alike t o i some c = rw i (record {
  same_count = counted t o i some ∙ rw (ne_eqb (count t) 0 c);
  same_number = later t o i some vcpus_at (omega arith);
  same_affinities = λ v l. later t o i some (affinity_at v) (omega arith);
})

initialise-goes : (t : List ℕ) → sound t ≡ true → 1 ≤ vcpus t → (call (set_attribute 4 0 0) t).state ≡ with_derived (initialised_next t)
unfolding describe group_of set_checks set_state
initialise-goes t h some = goes (set_attribute 4 0 0) t h (refl, (or_right (is_initialised t) (lt-ltb 0 (vcpus t) some), tt))

-- it leaves a fresh device, whatever led to the one before it
pub initialise-fresh : (t : List ℕ) → sound t ≡ true → initialised t ≡ 0 → 1 ≤ vcpus t → Fresh (call (set_attribute 4 0 0) t).state
initialise-fresh t h i some =
    let f = initialise-leaves-fresh t h i some in
    rw (initialise-goes t h some) (record { is_sound = with-sound (initialised_next t) f.1; is_fresh = with-fresh (initialised_next t) f.0 })

-- the calls lead to a fresh device of the count and the affinities of s
pub set-up-fresh : (s t : List ℕ) → sound s ≡ true → initialised s ≡ 1 → length t ≡ state_length → Fresh (after (initialised_as s) t) × Alike s (after (initialised_as s) t)
unfolding after
set-up-fresh s t hs i l =
    rw (after_both (set_up_as s) (set_attribute 4 0 0 ∷ []) t)
    (initialise-fresh u h.is_sound h.start some, rw (initialise-goes u h.is_sound some) (alike_then s n (with_derived n) same (with-alike n (rw same.same_number r.few))))
  where
    r : Ready s
    r = ready s hs i

    u : List ℕ
    u = after (set_up_as s) t

    h : SoFar s (count s) (vcpus s) u
    h = set_up s t hs l

    some : 1 ≤ vcpus u
    some = rw h.number r.some

    n : List ℕ
    n = initialised_next u

    same : Alike s n
    same = alike_then s u n (so-far-alike s u h) (initialised-alike u (open-sound u h.is_sound) h.start some (λ e. omega (arith, h.counted, r.counted.least)))

-- ---- the theorems

-- sound and not initialised: what making, the count and the vCPUs lead to, in words of any content
pub start-exactly : (s t : List ℕ) → length t ≡ state_length → ((sound s ≡ true) × (initialised s ≡ 0)) ↔ (after (set_up_as s) t ≡ s)
start-exactly s t l = (
  λ h. let u = set_up s t h.0 l in
      only_one s (after (set_up_as s) t) (start_plain s h.0 h.1) (start_plain (after (set_up_as s) t) u.is_sound u.start) (u.start ∙ sym h.1) (so-far-alike s (after (set_up_as s) t) u),
  λ e. let h : sound s ≡ true = rw e at (made_after (counting (count s) ++ adding s 0 (vcpus s)) t l) in (h, rw e at (set_up s t h l).start),
)

-- sound and fresh: what initialising after these calls leads to
pub fresh-exactly : (s t : List ℕ) → length t ≡ state_length → Fresh s ↔ ((initialised s ≡ 1) × (after (initialised_as s) t ≡ s))
fresh-exactly s t l = (
  λ h. let i = fresh-mark s h in
      let u = set-up-fresh s t h.is_sound i l in
      (i, only_one s (after (initialised_as s) t) (fresh-plain s h) (fresh-plain (after (initialised_as s) t) u.0) (fresh-mark (after (initialised_as s) t) u.0 ∙ sym i) u.1),
  λ h. let e = h.1 in
      let k : sound s ≡ true = rw e at (made_after (counting (count s) ++ adding s 0 (vcpus s) ++ (set_attribute 4 0 0 ∷ [])) t l) in
      rw e at (set-up-fresh s t k h.0 l).0,
)

-- any calls that make a device, set its count and add vCPUs, refused or not
pub data SettingUp : List Call → Type 0 where
  none : SettingUp []
  makes : {cs : List Call} → SettingUp cs → SettingUp (make ∷ cs)
  counts : (a c : ℕ) {cs : List Call} → SettingUp cs → SettingUp (set_attribute 3 a c ∷ cs)
  adds : (a : ℕ) {cs : List Call} → SettingUp cs → SettingUp (add_vcpu a ∷ cs)

-- a call leaves a device that is not initialised so, if what it leaves where its tests pass is
start-kept : (c : Call) (s : List ℕ) → initialised s ≡ 0 → (Passed (checks c s) → initialised (next_core c s) ≡ 0) → initialised (call c s).state ≡ 0
start-kept c s i next =
    ⊎_elim (λ g. rw g.state (with-word (next_core c s) initialised_at (header-core initialised_at (omega arith)) ∙ next (unrefused c s g.grants).1))
    (λ r. rw r.1.state i) (every_call c s)

start-after : (cs : List Call) → SettingUp cs → (s : List ℕ) → sound s ≡ true → initialised s ≡ 0 → initialised (after cs s) ≡ 0
unfolding after describe group_of set_checks set_state made
start-after [] none s h i = i
start-after (c ∷ cs) (makes r) s h i = start-after cs r (call make s).state (sound-kept make s h) (start-kept make s i (λ p. refl))
start-after (c ∷ cs) (counts a x r) s h i =
    start-after cs r (call (set_attribute 3 a x) s).state (sound-kept (set_attribute 3 a x) s h) (start-kept (set_attribute 3 a x) s i (λ p. kept.still-start s x (open-sound s h) i p.0))
start-after (c ∷ cs) (adds a r) s h i =
    start-after cs r (call (add_vcpu a) s).state (sound-kept (add_vcpu a) s h)
    (start-kept (add_vcpu a) s i (λ p. kept.mark s a (open-sound s h) (record { start = i; valid = p.1.0; new = p.1.1.0; room = ltb-true _ _ p.1.1.1.0 })))

-- whatever they are, they lead to a sound state that is not initialised
pub any-start : (cs : List Call) → SettingUp cs → (t : List ℕ) → length t ≡ state_length → (sound (after (make ∷ cs) t) ≡ true) × (initialised (after (make ∷ cs) t) ≡ 0)
unfolding after
any-start cs r t l = let m = made-so-far t t l in (made_after cs t l, start-after cs r (call make t).state m.is_sound m.start)
