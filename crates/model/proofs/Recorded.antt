-- Demand 3 through save and restore: the record of a stopped device, restored into a fresh one of the same set-up, makes the two equal.
use Rattle.std.specs.Prelude.{Ok, Option}
use Prim.Native.Nat.{ℕ, zero, suc, ◌+◌, ◌^◌, ◌≤◌, ◌<◌}
use mathlib.Core.Path.{◌≡◌, refl, sym, ap, ap₂, ◌∙◌}
use mathlib.Core.Bool.{true}
use mathlib.Core.List.Memᴰ
use mathlib.Core.List.{List, [], ◌∷◌, ◌++◌, map, Memᴰ}
use native.Mathlib.Omega.{arith}
use borrow.Author.Tests.{eq-eqb, le-leb}
use lib.IntN.{pos}
use lib.ListN.{length, set, drop}
use lib.Seq.{get_or-set_same, take-append_seam}
use Rattle.model.specs.Words.{each}
use Rattle.model.specs.Layout.{word, vcpus, affinity, affinity_at}
use Rattle.model.specs.Attributes.{Attribute, item_of, item_read, item_write}
use Rattle.model.specs.Record.{of_vcpu_block, listed, Entry, header, attribute_of, entries, entry_read, entry_bytes, record_of, readable, entry_put, done, taking, load, restored, faults, loaded_state, saved}
use Rattle.model.specs.Calls.{save, restore, call, refusal, front_of, handed_back, trace, describe}
use Rattle.model.specs.declared.Item.{Item}
use Rattle.model.specs.Demands.{Stopped, Fresh, Alike, ByRecord}
use Rattle.model.proofs.Tests.{and-true}
use Rattle.model.proofs.Numbers.{decode-encode}
use Rattle.model.proofs.Soundness.{stopped-ready, Ready}
use Rattle.model.proofs.Listed.{mem-map, Listed, family, member}
use Rattle.model.proofs.Places.{place_of, shown, shape_of, named_by, names-item, reads-place, one_place}
use Rattle.model.proofs.Cover.{shows, carried, place-core, place_inside}
use Rattle.model.proofs.Mixed.{Agrees, agrees-put, agrees-kept, Between, between_put, start_between, mixed-alike, mixed-ready}
use Rattle.model.proofs.Asked.{value_taken}
use Rattle.model.proofs.Refused.{none_of, tests-next, is-granted}
use Rattle.model.proofs.Restores.{fresh-ready, fresh-stopped, item-put, all-agree}
use Rattle.model.proofs.Masks.{fits_word}
use Rattle.model.specs.Roles.{with_derived}
use Rattle.model.proofs.Derived.{sound-with}

-- ---- devices of the same set-up have the same entries

each_same {ℓ} : {A : Type ℓ} (f g : ℕ → List A) (b k : ℕ) → ((v : ℕ) → b ≤ v → v < b + k → f v ≡ g v) → each f b k ≡ each g b k
unfolding each
each_same f g b zero h = refl
each_same f g b (suc k) h = ap₂ (λ x y. x ++ y) (h b (omega arith) (omega arith)) (each_same f g (suc b) k (λ v l m. h v (omega arith) (omega arith)))

module _ (f s : List ℕ) (same : Alike f s) where
  same_block : (v : ℕ) → v < vcpus f → of_vcpu_block s v ≡ of_vcpu_block f v
  unfolding of_vcpu_block
  same_block v l = rw (same.same_affinities v l)

  same-listed : listed s ≡ listed f
  unfolding listed
  same-listed = rw (same.same_count, same.same_number, each_same (of_vcpu_block s) (of_vcpu_block f) 0 (vcpus f) (λ v l m. same_block v (omega arith)))

  pub same_entries : entries s ≡ entries f
  unfolding entries
  same_entries =
      rw (
        same-listed,
        same.same_count,
        same.same_number,
        each_same (λ v. header (affinity s v) ∷ []) (λ v. header (affinity f v) ∷ []) 0 (vcpus f) (λ v l m. ap (λ (x : ℕ). header x ∷ []) (same.same_affinities v (omega arith))),
      )

-- ---- what the entries of a stopped device are: small numbers of the header, and listed attributes

abbrev pub All : (Entry → Type 0) → List Entry → Type 0
All P [] = Unit {0}
All P (e ∷ es) = P e × All P es

all_append : (P : Entry → Type 0) (xs ys : List Entry) → All P xs → All P ys → All P (xs ++ ys)
all_append P [] ys a b = b
all_append P (x ∷ xs) ys a b = (a.0, all_append P xs ys a.1 b)

all-each : (P : Entry → Type 0) (f : ℕ → List Entry) (b k : ℕ) → ((v : ℕ) → b ≤ v → v < b + k → All P (f v)) → All P (each f b k)
unfolding each
all-each P f b zero h = tt
all-each P f b (suc k) h = all_append P (f b) (each f (suc b) k) (h b (omega arith) (omega arith)) (all-each P f (suc b) k (λ v l m. h v (omega arith) (omega arith)))

all_map : (P : Entry → Type 0) (l : List Attribute) → ((a : Attribute) → Memᴰ a l → P (attribute_of a)) → All P (map attribute_of l)
all_map P [] h = tt
all_map P (a ∷ l) h = (h a (Memᴰ.head refl), all_map P l (λ b m. h b (Memᴰ.tail m)))

abbrev pub Good : List ℕ → Entry → Type 0
Good f (header x) = x < 2 ^ 32
Good f (attribute_of a) = Listed f a

pub good-entries : (f : List ℕ) → Ready f → All (Good f) (entries f)
unfolding entries
good-entries f h = (
  omega arith,
  (
    omega (arith, h.counted.most),
    (
      omega (arith, h.few),
      all_append (Good f) (each (λ v. header (affinity f v) ∷ []) 0 (vcpus f)) (map attribute_of (listed f))
          (all-each (Good f) (λ v. header (affinity f v) ∷ []) 0 (vcpus f) (λ v l m. (fits_word f h (affinity_at v) (omega (arith, h.few)), tt)))
          (all_map (Good f) (listed f) (λ a m. family f h m)),
    ),
  ),
)

-- ---- loading what was written

module _ (from to : List ℕ) (hf : Stopped from) (ht : Fresh to) (same : Alike from to) where
  rf : Ready from
  rf = stopped-ready from hf

  rt : Ready to
  rt = fresh-ready to ht

  module _ (s : List ℕ) (b : Between from to s) where
    rs : Ready s
    rs = mixed-ready from to rf rt same s b

    -- a listed attribute of the first names the same item here, and reads the word at the same place
    names-here : {a : Attribute} (l : Listed from a) → item_of a s ≡ named_by l
    names-here l = let c = carried from s (mixed-alike from to rf rt same s b) l in names-item s rs c.there ∙ c.names

    reads_here : {a : Attribute} (l : Listed from a) → item_read s (named_by l) ≡ shown (shape_of l) (word s (place_of l))
    reads_here l =
        let c = carried from s (mixed-alike from to rf rt same s b) l in
        ap (item_read s) (sym (names-here l)) ∙ (rw (c.place, c.shape) at (reads-place s rs c.there))

  -- the value that the first device reads is one that some device of the target's set-up reads
  pub value-readable : {a : Attribute} (l : Listed from a) → readable to (attribute_of a) (shown (shape_of l) (word from (place_of l))) ≡ true
  unfolding readable
  value-readable {a} l =
      let p = place_of l in
      let start = start_between from to rf rt same in
      let there : Between from to (set to p (word from p)) = between_put from to to p (place_inside from rf l) (place-core from rf l) start in
      let back : item_read (set to p (word from p)) (named_by l) ≡ shown (shape_of l) (word from p) =
      reads_here (set to p (word from p)) there l ∙ ap (shown (shape_of l)) (get_or-set_same to p (word from p) 0 (omega (arith, rt.size, place_inside from rf l))) in
      rw (names-here to start l, item-put from to hf ht same to start l, back) (and-true (value_taken from rf l) (eq-eqb (shown (shape_of l) (word from p)) (shown (shape_of l) (word from p)) refl))

  -- what loading the values of some entries leaves
  record Loads (es : List Entry) (s t : List ℕ) : Type 0 where
    loaded : load to es (entry_bytes from es) s ≡ done t
    between : Between from to t
    kept : (p : ℕ) → Agrees from p s → Agrees from p t
    stored : (a : Attribute) (l : Listed from a) → Memᴰ (attribute_of a) es → Agrees from (place_of l) t

  -- one entry: its number is read back, is readable, and is put
  load_one : (e : Entry) (es : List Entry) (s u : List ℕ) → entry_read from e < 2 ^ 32 → readable to e (entry_read from e) ≡ true → entry_put s e (entry_read from e) ≡ u
      → load to (e ∷ es) (entry_bytes from (e ∷ es)) s ≡ load to es (entry_bytes from es) u
  unfolding load entry_bytes taking
  load_one e es s u l r p = rw (decode-encode (entry_read from e) (entry_bytes from es) l, taking, r, p)

  loads : (es : List Entry) (s : List ℕ) → All (Good from) es → Between from to s → (t : List ℕ) × Loads es s t
  loads [] s g b = (s, record { loaded = unfold load entry_bytes in refl; between = b; kept = λ p h. h; stored = λ a l m. absurd (Memᴰ.not-nil m) })
  loads (header x ∷ es) s g b =
      let r = loads es s g.1 b in (
        r.0,
        record {
          loaded = load_one (header x) es s s (unfold entry_read in g.0) (unfold readable entry_read in (eq-eqb x x refl)) (unfold entry_put in refl) ∙ r.1.loaded;
          between = r.1.between;
          kept = r.1.kept;
          stored = λ a l m. r.1.stored a l (past x es a m);
        },
      )
    where
      past : (x : ℕ) (es : List Entry) (a : Attribute) → Memᴰ (attribute_of a) (header x ∷ es) → Memᴰ (attribute_of a) es
      past x es a (Memᴰ.head e) = let y : ◌≡◌ {A = ℕ} 0 1 = cc in absurd (omega arith)
      past x es a (Memᴰ.tail m) = m
  loads (attribute_of c ∷ es) s g b = next-put g.0 (loads es)
    where
      next-put : (l : Listed from c) → ((u : List ℕ) → All (Good from) es → Between from to u → (t : List ℕ) × Loads es u t) → (t : List ℕ) × Loads (attribute_of c ∷ es) s t
      next-put l ih = (r.0, record { loaded = load_one (attribute_of c) es s u small can puts ∙ r.1.loaded; between = r.1.between; kept = λ p h. r.1.kept p (agrees-kept from s p (place_of l) (place_inside from rf l) b.size h); stored = stores })
        where
          w : ℕ
          w = word from (place_of l)

          u : List ℕ
          u = set s (place_of l) w

          value : entry_read from (attribute_of c) ≡ shown (shape_of l) (word from (place_of l))
          value = unfold entry_read in (reads-place from rf l)

          small : entry_read from (attribute_of c) < 2 ^ 32
          small = rw value (shows from rf l).small

          can : readable to (attribute_of c) (entry_read from (attribute_of c)) ≡ true
          can = rw value (value-readable l)

          puts : entry_put s (attribute_of c) (entry_read from (attribute_of c)) ≡ u
          puts = rw value (unfold entry_put in (ap (λ (i : Option Item). item_write s i (shown (shape_of l) (word from (place_of l)))) (names-here s b l) ∙ item-put from to hf ht same s b l))

          r : (t : List ℕ) × Loads es u t
          r = ih u g.1 (between_put from to s (place_of l) (place_inside from rf l) (place-core from rf l) b)

          stores : (a : Attribute) (m : Listed from a) → Memᴰ (attribute_of a) (attribute_of c ∷ es) → Agrees from (place_of m) r.0
          stores a m (Memᴰ.tail q) = r.1.stored a m q
          stores a m (Memᴰ.head e) = let q : a ≡ c = cc in r.1.kept (place_of m) (rw (one_place from rf m l q) (agrees-put from s (place_of l) (place_inside from rf l) b.size))

  -- every listed attribute is an entry
  is-entry : (a : Attribute) → Memᴰ a (listed from) → Memᴰ (attribute_of a) (entries from)
  unfolding entries
  is-entry a m = Memᴰ.tail (Memᴰ.tail (Memᴰ.tail (Memᴰ.append_right (each (λ v. header (affinity from v) ∷ []) 0 (vcpus from)) (mem-map attribute_of (listed from) m))))

  -- the record of the first is read into the second, and leaves the first device's state but for the derived words
  pub loads-record : (u : List ℕ) × (restored to (record_of from) ≡ done u) × (with_derived u ≡ from)
  unfolding restored record_of Agrees
  loads-record =
      let r = loads (entries from) to (good-entries from rf) (start_between from to rf rt same) in
      (r.0, rw (same_entries from to same) r.1.loaded, all-agree from to hf ht same r.0 r.1.between (λ a l. r.1.stored a l (is-entry a (member from rf l))))

  -- ---- restore of the record, as a call

  restore-grants : refusal (restore (record_of from)) to ≡ Ok tt
  unfolding describe faults
  restore-grants =
      tests-next (restore (record_of from)) to ht.is_sound
      ∙ rw loads-record.1 (none_of _ ((fresh-stopped to ht).is_stopped, (ht.is_fresh, tt)))

  restore-answer : (call (restore (record_of from)) to).answer ≡ pos 0
  unfolding describe
  restore-answer = (is-granted (restore (record_of from)) to restore-grants).answer

  restore-state : (call (restore (record_of from)) to).state ≡ from
  unfolding describe loaded_state
  restore-state = (is-granted (restore (record_of from)) to restore-grants).state ∙ rw loads-record.1 loads-record.2

-- ---- save, as a call

module _ (from buf : List ℕ) (hf : Stopped from) (room : length (record_of from) ≤ length buf) where
  save-grants : refusal (save buf) from ≡ Ok tt
  unfolding describe
  save-grants = tests-next (save buf) from hf.is_sound ∙ none_of _ (hf.is_stopped, (le-leb (length (record_of from)) (length buf) room, tt))

  pub save-answer : (call (save buf) from).answer ≡ pos (length (record_of from))
  unfolding describe
  save-answer = (is-granted (save buf) from save-grants).answer

  pub save-keeps : (call (save buf) from).state ≡ from
  unfolding describe
  save-keeps = (is-granted (save buf) from save-grants).state ∙ sound-with from hf.is_sound

  save-buffers : (call (save buf) from).buffers ≡ (record_of from ++ drop (length (record_of from)) buf) ∷ []
  unfolding describe saved
  save-buffers = (is-granted (save buf) from save-grants).buffers

  -- what it hands back is the record
  pub save-hands : handed_back (call (save buf) from) ≡ record_of from
  unfolding handed_back front_of
  save-hands = rw (save-answer, save-buffers) (take-append_seam (record_of from) (drop (length (record_of from)) buf))

pub by_record : (from to : List ℕ) → Stopped from → Fresh to → Alike from to → (buf : List ℕ) → length (record_of from) ≤ length buf → ByRecord from to buf
by_record from to hf ht same buf room =
    let hands = save-hands from buf hf room in
    let equal : (call (restore (handed_back (call (save buf) from))) to).state ≡ from = rw hands (restore-state from to hf ht same) in
    record {
      saves = save-answer from buf hf room;
      keeps = save-keeps from buf hf room;
      answers = rw hands (restore-answer from to hf ht same);
      same = record { equal = equal; later = λ ds. ap (trace ds) equal };
    }
