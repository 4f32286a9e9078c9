-- What a record says for the entries of a fresh device is what the walk over its slots comes to.
use Prim.Native.Nat.{ℕ, suc, ◌+◌, ◌≤◌}
use mathlib.Core.Path.{◌≡◌, refl, sym, ap, ◌∙◌}
use mathlib.Core.Bool.{Bool, true, false, cond}
use mathlib.Core.List.{List, [], ◌∷◌}
use mathlib.Core.Logic.{inr}
use native.Mathlib.Omega.{arith}
use lib.ListN.{set}
use lib.Seq.{get_or-set_same, get_or-set_other}
use Rattle.model.specs.Layout.{word, count, vcpus, block}
use Rattle.model.specs.Sound.{fits, used_bits}
use Rattle.model.specs.Attributes.{Attribute, item_write}
use Rattle.model.specs.Record.{Entry, attribute_of, entry_read, readable, entry_put, Loaded, fault, taking, load, restored}
use Rattle.model.specs.Roles.{with_derived}
use Rattle.model.specs.Demands.{Stopped, Fresh, Alike}
use Rattle.model.specs.declared.Errno.TheVariants.{Einval}
use Rattle.model.proofs.Soundness.{Ready, stopped-ready, stopped-resting}
use Rattle.model.proofs.Derived.{with-word}
use Rattle.model.proofs.Stores.{store_same, store-resting}
use Rattle.model.proofs.Listed.{Listed, member}
use Rattle.model.proofs.Places.{place_of, shape_of, named_by, one_place}
use Rattle.model.proofs.Cover.{place-core, place_inside, carried}
use Rattle.model.proofs.Puts.{put_item}
use Rattle.model.proofs.Restores.{fresh-ready, fresh-stopped, may-put}
use Rattle.model.proofs.ReadsBack.{put-leaves, RestingLike, alike_then, alike-back, like-itself, put-like, derived-like, ReadsSo, readable-exactly}
use Rattle.model.proofs.SavesBack.{turn, Rising, rising-entries, names-there, reads-there}
use Rattle.record.specs.Numbers.{Reading, value, cut, ill, whole, read_on}
use Rattle.record.specs.Table.{shown, hidden, fixed, Slot, slot, slots, takes, slot_put}
use Rattle.record.specs.Walked.{faulty, judging, judged, keeping, kept, outcome}
use Rattle.record.specs.declared.table.Kind.{Kind}
use Rattle.record.specs.declared.table.Kind.TheVariants.{Exactly, SetUp, Within, Fields, Above, Edges}
use Rattle.record.proofs.Groups.{whole-number}
use Rattle.record.proofs.Lists.{Match, none, one}
use Rattle.record.proofs.Shapes.{Tidy, of-shown, is-shown}
use Rattle.record.proofs.Standing.{KindOf, Means, versions, fixes, lists, entries-mean}

same_bool : (a b : Bool) → (a ≡ true → b ≡ true) → (b ≡ true → a ≡ true) → a ≡ b
same_bool true b p q = sym (p refl)
same_bool false true p q = q refl
same_bool false false p q = refl

-- ---- the slot of a listed attribute takes the same in every state, and stores the word that is shown so

tidy-stored : (k : Kind) (f : ℕ) → Tidy k f → fixed k ≡ false
unfolding fixed
tidy-stored (Exactly n) f i = absurd i
tidy-stored SetUp f i = absurd i
tidy-stored (Within m) f i = refl
tidy-stored (Fields b) f i = refl
tidy-stored (Above a m) f i = refl
tidy-stored (Edges b) f i = refl

put-stored : (k : Kind) (f : ℕ) → Tidy k f → (s : List ℕ) (p v : ℕ) → slot_put s (slot p k f) v ≡ set s p (hidden k v)
unfolding slot_put
put-stored k f i s p v = rw (tidy-stored k f i)

takes-alike : (k : Kind) (f : ℕ) → Tidy k f → (s t : List ℕ) (p v : ℕ) → takes s (slot p k f) v ≡ takes t (slot p k f) v
unfolding takes
takes-alike (Exactly n) f i s t p v = absurd i
takes-alike SetUp f i s t p v = absurd i
takes-alike (Within m) f i s t p v = refl
takes-alike (Fields b) f i s t p v = refl
takes-alike (Above a m) f i s t p v = refl
takes-alike (Edges b) f i s t p v = refl

module _ (t : List ℕ) (ht : Fresh t) where
  rt : Ready t
  rt = fresh-ready t ht

  at_rest : RestingLike t t
  at_rest = like-itself t (stopped-resting t (fresh-stopped t ht))

  module _ {a : Attribute} {k : Kind} {f : ℕ} (l : Listed t a) (q : KindOf t (place_of l) (shape_of l) k f) (v : ℕ) where
    abbrev p : ℕ
    p = place_of l

    -- what it reads in a device of t's set-up, by the kind of the word at its place
    reads-kind : (d : List ℕ) → RestingLike t d → entry_read d (attribute_of a) ≡ shown k (word d p)
    reads-kind d h = reads-there t ht d h l ∙ sym (q.alike (word d p))

    reads-takes : ReadsSo t a v → takes t (slot p k f) v ≡ true
    unfolding ReadsSo
    reads-takes r =
        let d = r.0 in
        let hd = stopped-ready d r.1 in
        let e : shown k (word d p) ≡ v = sym (reads-kind d (record { resting = stopped-resting d r.1; alike = r.2 })) ∙ r.3 in
        let m : fits (word d p) (used_bits (count t) (vcpus t) p) ≡ true = rw (r.2.same_count, r.2.same_number) at (hd.used p (place_inside t rt l)) in
        rw e at (is-shown t p k f q.tidy (word d p) (rw q.mask at m) (q.least d hd r.2.same_number))

    module _ (e : takes t (slot p k f) v ≡ true) where
      abbrev w : ℕ
      w = hidden k v

      -- the target with the word that is shown as v, and the derived words
      abbrev d : List ℕ
      d = with_derived (set t p w)

      stopped-d : Stopped d × Alike t d
      stopped-d =
          let o = of-shown t p k f q.tidy v e in
          let m = q.store w o.fit o.least in
          derived-like t (set t p w) (record { resting = store-resting t p w rt.few m at_rest.resting (λ u j. (put-leaves t rt l 0).idle u j); alike = (store_same t p w rt.few m).alike })

      like-d : RestingLike t d
      like-d = record { resting = stopped-resting d stopped-d.0; alike = stopped-d.1 }

      word-d : word d p ≡ w
      word-d = with-word (set t p w) p (place-core t rt l) ∙ get_or-set_same t p w 0 (omega (arith, rt.size, place_inside t rt l))

      reads-d : entry_read d (attribute_of a) ≡ v
      reads-d = reads-kind d like-d ∙ ap (shown k) word-d ∙ (of-shown t p k f q.tidy v e).back

      takes-reads : ReadsSo t a v
      unfolding ReadsSo
      takes-reads = (d, stopped-d.0, stopped-d.1, reads-d)

      -- a put of v stores the word in every device of t's set-up that still has the target's word there
      put_word : (s : List ℕ) → RestingLike t s → word s p ≡ word t p → entry_put s (attribute_of a) v ≡ set s p w
      unfolding entry_put
      put_word s h old =
          let c = carried t d stopped-d.1 l in
          let same = alike-back t d stopped-d.1 in
          let clear : word s (place_of c.there) ≡ word t (place_of c.there) = rw c.place old in
          let z = put_item d s (stopped-ready d stopped-d.0) h.resting.is_ready (alike_then d t s same h.alike) c.there (may-put d t stopped-d.0 ht same c.there _ (inr clear)) in
          rw (names-there t ht s h l) (ap (item_write s (named_by l)) (sym reads-d ∙ reads-there t ht d like-d l) ∙ (rw (c.place, c.shape, c.names) at z) ∙ ap (set s p) word-d)

  -- ---- a value is readable exactly where its slot takes it

  readable-means : {e : Entry} {x : Slot} → Means t e x → (v : ℕ) → readable t e v ≡ takes t x v
  unfolding readable takes
  readable-means versions v = refl
  readable-means (fixes e a) v = rw e
  readable-means (lists {a} {k = k} {f} l e q) v =
      let r = readable-exactly t ht a (member t rt l) v in
      same_bool _ _ (λ b. reads-takes l q v (r.0 b)) (λ b. r.1 (takes-reads l q v b)) ∙ ap (λ (x : ℕ). takes t (slot x k f) v) (sym e)

  -- and so in every state of t's set-up
  means-alike : {e : Entry} {x : Slot} → Means t e x → (s : List ℕ) → RestingLike t s → (v : ℕ) → takes s x v ≡ takes t x v
  unfolding takes
  means-alike versions s h v = refl
  means-alike (fixes e a) s h v = rw (a s h.alike)
  means-alike (lists {p} {k} {f} l e q) s h v = takes-alike k f q.tidy s t p v

  -- ---- the whole record

  -- one value: taken by both or by neither, and what is left to load after it gives the same
  load_one : {e : Entry} {x : Slot} → Means t e x → (es : List Entry) (xs : List Slot) (s : List ℕ) → RestingLike t s
      → ((v : ℕ) (r : List ℕ) → takes t x v ≡ true → load t es r (entry_put s e v) ≡ outcome (judged xs r (slot_put s x v)) (kept xs r (slot_put s x v)))
      → (bytes : List ℕ) → load t (e ∷ es) bytes s ≡ outcome (judged (x ∷ xs) bytes s) (kept (x ∷ xs) bytes s)
  unfolding load taking whole judged judging kept keeping outcome
  load_one {e} {x} m es xs s h ih bytes = rw (← whole-number bytes) (read (read_on 0 1 bytes))
    where
      taken : (v : ℕ) (r : List ℕ) (b : Bool) → takes t x v ≡ b → ◌≡◌ {A = Loaded} (elim (readable t e v) [ true ↦ load t es r (entry_put s e v) | false ↦ fault Einval ])
          (outcome (cond (takes s x v) (judged xs r (slot_put s x v)) (faulty Einval)) (cond (takes s x v) (kept xs r (slot_put s x v)) s))
      taken v r true q = rw (readable-means m v, means-alike m s h v, q) (ih v r q)
      taken v r false q = rw (readable-means m v, means-alike m s h v, q)

      read : (n : Reading) → taking (whole n) (λ v r. elim (readable t e v) [ true ↦ load t es r (entry_put s e v) | false ↦ fault Einval ])
          ≡ outcome (judging s x xs n (λ y u. judged xs u (slot_put s x y))) (keeping s x n (λ y u. kept xs u (slot_put s x y)))
      read (value v r) = taken v r (takes t x v) refl
      read (cut y u) = refl
      read ill = refl

  -- a put of what the slot of a listed attribute takes, where the word is still the target's
  put-means : {a : Attribute} {p : ℕ} {k : Kind} {f : ℕ} (l : Listed t a) → p ≡ place_of l → KindOf t (place_of l) (shape_of l) k f → (v : ℕ) → takes t (slot p k f) v ≡ true
      → (s : List ℕ) → RestingLike t s → word s (place_of l) ≡ word t (place_of l)
      → (entry_put s (attribute_of a) v ≡ slot_put s (slot p k f) v) × (slot_put s (slot p k f) v ≡ set s (place_of l) (hidden k v)) × RestingLike t (slot_put s (slot p k f) v)
  unfolding entry_put
  put-means {a} {p} {k} {f} l e q v o s h old =
      let x = put_word l q v (rw e at o) s h old in
      let y : slot_put s (slot p k f) v ≡ set s (place_of l) (hidden k v) = put-stored k f q.tidy s p v ∙ rw e in
      (x ∙ sym y, y, rw y (rw x at (put-like t s h l v)))

  -- the words whose turn is yet to come are the target's
  loads : {es : List Entry} {xs : List Slot} → Match (Means t) es xs → (lo hi : ℕ) → Rising t lo hi es → (bytes s : List ℕ) → RestingLike t s
      → ((u : ℕ) → lo ≤ turn u → word s u ≡ word t u) → load t es bytes s ≡ outcome (judged xs bytes s) (kept xs bytes s)
  unfolding load judged kept outcome entry_put slot_put fixed
  loads none lo hi r [] s h n = refl
  loads none lo hi r (b ∷ bytes) s h n = refl
  loads (one {xs = es} {ys = xs} versions m) lo hi r bytes s h n = load_one versions es xs s h (λ v b o. loads m lo hi r b s h n) bytes
  loads (one {xs = es} {ys = xs} (fixes e a) m) lo hi r bytes s h n = load_one (fixes e a) es xs s h (λ v b o. loads m lo hi r b s h n) bytes
  loads (one {xs = es} {ys = xs} (lists {p} {k} {f} l e q) m) lo hi r bytes s h n =
      let at : turn (place_of l) ≡ r.1 = ap turn (one_place t rt l r.0 refl) ∙ r.2 in
      let from : lo ≤ r.1 = r.3 in
      load_one (lists l e q) es xs s h (λ v b o.
      let z = put-means l e q v o s h (n (place_of l) (omega arith)) in
      rw z.0 (loads m (suc r.1) hi r.4 b (slot_put s (slot p k f) v) z.2
      (λ u g. rw z.1 (get_or-set_other s (place_of l) u (hidden k v) 0 (λ c. omega (arith, ap turn c)) ∙ n u (omega arith))))) bytes

  pub restored-walk : (bytes : List ℕ) → restored t bytes ≡ outcome (judged (slots (count t) (vcpus t)) bytes t) (kept (slots (count t) (vcpus t)) bytes t)
  unfolding restored
  restored-walk bytes = loads (entries-mean t rt) 0 (2000 + block (vcpus t)) (rising-entries t rt) bytes t at_rest (λ u l. refl)
