-- Demand 3 by attributes: putting the listed attributes of a stopped device into a fresh one of the same set-up makes the two equal and for ever after alike.
use Rattle.std.specs.Prelude.{Ok}
use Prim.Native.Nat.{ℕ, ◌+◌, ◌*◌, ◌≤◌, ◌<◌}
use mathlib.Core.Path.{◌≡◌, refl, sym, ap, ◌∙◌, subst}
use mathlib.Core.Bool.{true, false}
use mathlib.Core.List.Memᴰ
use mathlib.Core.List.{List, [], ◌∷◌, ◌++◌, Memᴰ}
use mathlib.Core.Logic.{◌⊎◌, inl, inr, ⊎_elim}
use native.Mathlib.Omega.{arith}
use borrow.Author.Tests.{eqb-true, lt-ltb, le-ltb}
use lib.IntN.{pos, negsuc}
use lib.ListN.{length, set, get_or}
use Rattle.model.specs.Words.{every}
use Rattle.model.specs.Layout.{state_length, word, initialised, vcpus, block, running, is_initialised, running_field}
use Rattle.model.specs.Roles.{role_of, is_derived, with_derived}
use Rattle.model.specs.Sound.{sound, stopped, fresh, fits, fresh_bits, fresh_block_bits}
use Rattle.model.specs.Attributes.{Attribute, attr, item, item_read, item_write, group_of}
use Rattle.model.specs.Calls.{Call, get_attribute, set_attribute, call, register_checks, set_checks, refusal, set_state, after, trace, describe}
use Rattle.model.specs.Demands.{Stopped, Fresh, Alike, Put, puts, Allowed, put, get, refused, Restoring, one, Whole, ByAttributes}
use Rattle.model.specs.declared.RegisterGroup.{RegisterGroup}
use Rattle.model.specs.declared.AttributeGroup.TheVariants.{Registers}
use Rattle.model.proofs.Tests.{both, every-at}
use Rattle.model.proofs.Within.{fits-none}
use Rattle.model.proofs.Soundness.{stopped-ready, Ready, ready, ready-is-sound, stopped-running, running-stopped, stopped-resting, resting-stopped}
use Rattle.model.proofs.Derived.{with-word, with-sound, sound-with, core-decides}
use Rattle.model.proofs.Masks.{entry-there, fresh-block-bits}
use Rattle.model.proofs.Refused.{none_of, tests-next, is-granted, is-refused, every_call, negative-errno}
use Rattle.model.proofs.Listed.{Listed, groups, enables, latches, actives, control, status, spi-flags, spi-lines, spi-priority, spi-config, spi-route, vcpu-status, vcpu-flags, vcpu-lines, vcpu-priority, vcpu-system, family, member}
use Rattle.model.proofs.Places.{place_of, shown, shape_of, named_by, names-item, reads-place}
use Rattle.model.proofs.Cover.{Owned, each_owned, place-core, place_inside}
use Rattle.model.proofs.Puts.{Puts, replaces, sets-clear, sets_same, rule_of, put_item}
use Rattle.model.proofs.Mixed.{Agrees, agrees-put, agrees-kept, agrees-with, Between, between_put, start_between, derived-between, mixed-alike, mixed-ready, mixed-resting}
use Rattle.model.proofs.Asked.{group_for, group-is, same_item, same_known, value_taken, named-known, item-of, Answered, get-answered}

-- ---- a fresh device

pub fresh-word : (s : List ℕ) → Fresh s → length s ≡ state_length → (k : ℕ) → k < state_length → fits (word s k) (fresh_bits (vcpus s) k) ≡ true
unfolding fresh
fresh-word s h l k m =
    every-at (λ j w. fits w (fresh_bits (vcpus s) j)) s (both (is_initialised s) (every (λ j w. fits w (fresh_bits (vcpus s) j)) 0 s) h.is_fresh).1 k (omega arith)

pub fresh-mark : (s : List ℕ) → Fresh s → initialised s ≡ 1
unfolding fresh
fresh-mark s h = eqb-true (initialised s) 1 (both (is_initialised s) (every (λ j w. fits w (fresh_bits (vcpus s) j)) 0 s) h.is_fresh).0

module _ (s : List ℕ) (h : Fresh s) where
  pub fresh-ready : Ready s
  fresh-ready = ready s h.is_sound (fresh-mark s h)

  -- the block of a vCPU is zero but for its SGI edge flags, its affinity and its BPRs
  block-clear : (v j : ℕ) → v < vcpus s → j < 32 → get_or fresh_block_bits j 0 ≡ 0 → word s (block v + j) ≡ 0
  block-clear v j l m e =
      let few = fresh-ready.few in
      let bits : fresh_bits (vcpus s) (block v + j) ≡ 0 = fresh-block-bits (vcpus s) v j (omega arith) m ∙ entry-there _ fresh_block_bits j (lt-ltb v (vcpus s) l) ∙ e in
      fits-none (word s (block v + j)) (rw bits at (fresh-word s h fresh-ready.size (block v + j) (omega arith)))

  -- banks and routes are zero
  rest-clear : (k : ℕ) → 272 ≤ k → k < state_length → word s k ≡ 0
  unfolding fresh_bits
  rest-clear k l m = fits-none (word s k) (rw (le-ltb k 16 (omega arith), le-ltb k 272 l) at (fresh-word s h fresh-ready.size k m))

  pub fresh-stopped : Stopped s
  fresh-stopped = record {
    is_sound = h.is_sound;
    is_stopped = running-stopped s (fresh-mark s h) (λ v l. block-clear v running_field l (omega arith) refl);
  }

-- ---- a put

module _ (from to : List ℕ) (hf : Stopped from) (ht : Fresh to) (same : Alike from to) where
  rf : Ready from
  rf = stopped-ready from hf

  rt : Ready to
  rt = fresh-ready to ht

  in-to : (v : ℕ) → v < vcpus from → v < vcpus to
  in-to v l = rw same.same_number l

  -- the word there is the first device's, or fresh: then the set registers of a pair find it clear
  pub may-put : {a : Attribute} (l : Listed from a) (w : ℕ) → (w ≡ word from (place_of l)) ⊎ (w ≡ word to (place_of l)) → Puts w (word from (place_of l)) (rule_of l)
  may-put control w h = replaces
  may-put status w h = replaces
  may-put (spi-flags b groups q) w h = replaces
  may-put (spi-flags b enables q) w h = ⊎_elim (λ e. sets_same e) (λ e. sets-clear (e ∙ rest-clear to ht (256 + 16 * b + 1) (omega (arith, q.low)) (omega (arith, q.high, rf.counted.most)))) h
  may-put (spi-flags b latches q) w h = replaces
  may-put (spi-flags b actives q) w h = ⊎_elim (λ e. sets_same e) (λ e. sets-clear (e ∙ rest-clear to ht (256 + 16 * b + 3) (omega (arith, q.low)) (omega (arith, q.high, rf.counted.most)))) h
  may-put (spi-lines b q) w h = replaces
  may-put (spi-priority b j q l) w h = replaces
  may-put (spi-config b j q l) w h = replaces
  may-put (spi-route id l m) w h = replaces
  may-put (vcpu-status v l) w h = replaces
  may-put (vcpu-flags v groups l) w h = replaces
  may-put (vcpu-flags v enables l) w h = ⊎_elim (λ e. sets_same e) (λ e. sets-clear (e ∙ block-clear to ht v 1 (in-to v l) (omega arith) refl)) h
  may-put (vcpu-flags v latches l) w h = replaces
  may-put (vcpu-flags v actives l) w h = ⊎_elim (λ e. sets_same e) (λ e. sets-clear (e ∙ block-clear to ht v 3 (in-to v l) (omega arith) refl)) h
  may-put (vcpu-lines v l) w h = replaces
  may-put (vcpu-priority v j l m) w h = replaces
  may-put (vcpu-system v p l) w h = replaces

  -- what an item's write leaves of a state between the two
  pub item-put : (s : List ℕ) → Between from to s → {a : Attribute} (l : Listed from a)
      → item_write s (named_by l) (shown (shape_of l) (word from (place_of l))) ≡ set s (place_of l) (word from (place_of l))
  item-put s b l =
      put_item from s rf (mixed-ready from to rf rt same s b) (mixed-alike from to rf rt same s b) l (may-put l (word s (place_of l)) (b.each (place_of l) (place_inside from rf l) (place-core from rf l)))

  -- the states that the list goes through
  pub record Among (s : List ℕ) : Type 0 where
    pub between : Between from to s
    pub is_sound : sound s ≡ true

  -- storing a word of the first device leads to such a state
  among-put : (s : List ℕ) (p : ℕ) → p < state_length → is_derived (role_of p) ≡ false → Among s → Among (with_derived (set s p (word from p)))
  among-put s p l core m =
      let b = between_put from to s p l core m.between in
      record { between = derived-between from to rf rt same _ b; is_sound = with-sound _ (ready-is-sound _ (mixed-ready from to rf rt same _ b)) }

  -- a put is granted, answers 0 and stores the first device's word
  pub record Stores (c : Call) (s : List ℕ) (p : ℕ) : Type 0 where
    pub answer : (call c s).answer ≡ pos 0
    pub state : (call c s).state ≡ with_derived (set s p (word from p))

  pub put-stores : (s : List ℕ) → Among s → {a : Attribute} {c : Call} (l : Listed from a) → Put from a c → Stores c s (place_of l)
  unfolding describe set_checks register_checks set_state
  put-stores s m {a} l (puts n v e g) =
      record { answer = (is-granted c s grants).answer; state = (is-granted c s grants).state ∙ rw (eg, i, is-value) (ap with_derived (item-put s b l)) }
    where
      b : Between from to s
      b = m.between

      c : Call
      c = set_attribute a.group n v

      q : RegisterGroup
      q = group_for l

      eg : group_of a.group ≡ Registers q
      eg = group-is l

      told : Answered from q n v
      told = get-answered from a.group n v q eg g

      alike : Alike from s
      alike = mixed-alike from to rf rt same s b

      -- the number names the same item here as the listed one there
      there : item q n from ≡ named_by l
      there = sym (item-of (attr a.group n) from q eg) ∙ e ∙ names-item from rf l

      i : item q n s ≡ named_by l
      i = same_item from s alike q n ∙ there

      is-value : v ≡ shown (shape_of l) (word from (place_of l))
      is-value = sym told.reads ∙ ap (item_read from) (there ∙ sym (names-item from rf l)) ∙ reads-place from rf l

      at_rest : stopped s ≡ true
      at_rest = resting-stopped s (mixed-resting from to rf rt same s b (stopped-resting from hf) (stopped-resting to (fresh-stopped to ht)))

      grants : refusal c s ≡ Ok tt
      grants =
          tests-next c s m.is_sound ∙ rw eg (none_of (register_checks q n s ++ _)
          (told.number, (same_known from s alike q n ∙ told.affinity, (at_rest, (rw i (named-known from rf l), (rw (i, is-value) (value_taken from rf l), tt))))))

  -- ---- the list: each call leaves a state between the two, and a word that is the first device's stays so

  get_keeps : (g a : ℕ) (s : List ℕ) → sound s ≡ true → (call (get_attribute g a) s).state ≡ s
  unfolding describe
  get_keeps g a s h = ⊎_elim (λ r. r.state ∙ sound-with s h) (λ r. r.1.state) (every_call (get_attribute g a) s)

  refused-keeps : (c : Call) (s : List ℕ) (e : ℕ) → (call c s).answer ≡ negsuc e → (call c s).state ≡ s
  refused-keeps c s e r = let n = negative-errno c s e r in (is-refused c s n.0 n.1).state

  -- each call of the list leaves the state as it is, or stores a word of the first device
  step : (s : List ℕ) → Among s → {c : Call} → Allowed from s c
      → ((call c s).state ≡ s) ⊎ ((q : ℕ) × (q < state_length) × (is_derived (role_of q) ≡ false) × ((call c s).state ≡ with_derived (set s q (word from q))))
  step s b (put m p) = let l = family from rf m in inr (place_of l, place_inside from rf l, place-core from rf l, (put-stores s b l p).state)
  step s b (get g a) = inl (get_keeps g a s b.is_sound)
  step s b (refused g a v e r) = inl (refused-keeps (set_attribute g a v) s e r)

  step-among : (s : List ℕ) → Among s → {c : Call} → Allowed from s c → Among (call c s).state
  step-among s b a = ⊎_elim (λ e. rw e b) (λ e. rw e.3 (among-put s e.0 e.1 e.2 b)) (step s b a)

  step-agrees : (s : List ℕ) (p : ℕ) → is_derived (role_of p) ≡ false → Among s → {c : Call} → Allowed from s c → Agrees from p s → Agrees from p (call c s).state
  step-agrees s p core b a h = ⊎_elim (λ e. rw e h) (λ e. rw e.3 (agrees-with from _ p core (agrees-kept from s p e.0 e.1 b.between.size h))) (step s b a)

  among-after : (cs : List Call) (s : List ℕ) → Restoring from s cs → Among s → Among (after cs s)
  unfolding after
  among-after [] s r b = b
  among-after (c ∷ cs) s (one a r) b = among-after cs (call c s).state r (step-among s b a)

  agrees_after : (cs : List Call) (s : List ℕ) (p : ℕ) → is_derived (role_of p) ≡ false → Restoring from s cs → Among s → Agrees from p s → Agrees from p (after cs s)
  unfolding after
  agrees_after [] s p core r b h = h
  agrees_after (c ∷ cs) s p core (one a r) b h = agrees_after cs (call c s).state p core r (step-among s b a) (step-agrees s p core b a h)

  -- after its put, a listed attribute's word is the first device's
  put-agrees : (cs : List Call) (s : List ℕ) → Restoring from s cs → Among s → {a : Attribute} {c : Call} (l : Listed from a) → Put from a c
      → Memᴰ c cs → Agrees from (place_of l) (after cs s)
  unfolding after
  put-agrees [] s r b l p m = absurd (Memᴰ.not-nil m)
  put-agrees (d ∷ cs) s (one x r) b {a} l p (Memᴰ.head e) =
      agrees_after cs (call d s).state (place_of l) (place-core from rf l) r (step-among s b x)
      (rw here.state (agrees-with from _ (place_of l) (place-core from rf l) (agrees-put from s (place_of l) (place_inside from rf l) b.between.size)))
    where
      here : Stores d s (place_of l)
      here = put-stores s b l (subst (Put from a) e p)
  put-agrees (d ∷ cs) s (one x r) b l p (Memᴰ.tail m) = put-agrees cs (call d s).state r (step-among s b x) l p m

  -- a state between the two in which every listed word is the first device's is, with its derived words, the first device's
  pub all-agree : (t : List ℕ) → Between from to t → ((a : Attribute) (l : Listed from a) → word t (place_of l) ≡ word from (place_of l)) → with_derived t ≡ from
  unfolding Owned
  all-agree t b h =
      core-decides from (with_derived t) hf.is_sound (with-sound t (ready-is-sound t rm)) (λ p l core. with-word t p core
      ∙ ⊎_elim (λ o. rw o.2 at (h o.0 o.1)) (λ e. e) (each_owned from t rf rm (mixed-alike from to rf rt same t b) idle p l core))
    where
      rm : Ready t
      rm = mixed-ready from to rf rt same t b

      idle : (v : ℕ) → v < vcpus from → running t v ≡ running from v
      idle v l =
          let m = mixed-resting from to rf rt same t b (stopped-resting from hf) (stopped-resting to (fresh-stopped to ht)) in
          m.idle v (rw (mixed-alike from to rf rt same t b).same_number l) ∙ sym (stopped-running from hf.is_stopped v l)

  start : Among to
  start = record { between = start_between from to rf rt same; is_sound = ht.is_sound }

  -- the calls before one of the list
  before-one : (before rest : List Call) (s : List ℕ) → Restoring from s (before ++ rest) → Among s → Among (after before s)
  unfolding after
  before-one [] rest s r b = b
  before-one (c ∷ before) rest s (one a r) b = before-one before rest (call c s).state r (step-among s b a)

  pub by_attributes : (cs : List Call) → Restoring from to cs → Whole from cs → ByAttributes from to cs
  unfolding Agrees
  by_attributes cs r w = record {
    answers = λ before a c rest e m p. (put-stores (after before to) (before-one before (c ∷ rest) to (rw e at r) start) (family from rf m) p).answer;
    same = record { equal = equal; later = λ ds. ap (trace ds) equal };
  }
    where
      equal : after cs to ≡ from
      equal =
          let m = among-after cs to r start in
          sym (sound-with _ m.is_sound) ∙ all-agree (after cs to) m.between (λ a l. let p = w.put_each a (member from rf l) in put-agrees cs to r start l p.1 p.2)
