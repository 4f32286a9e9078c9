-- Save counts and writes the record part by part: what is left gives, with what is done, the whole.
use Prim.Native.Nat.{ℕ, ◌+◌, ◌*◌, ◌≤◌, ◌<◌}
use mathlib.Core.Path.{◌≡◌, refl, sym, ap, ◌∙◌}
use mathlib.Core.Bool.{true}
use mathlib.Core.List.{List, [], ◌∷◌, ◌++◌, append_assoc}
use native.Mathlib.Omega.{arith}
use native.Mathlib.Nat.{zero-add}
use borrow.Author.Tests.{le-leb}
use mir.Syntax.{w64}
use mir.Val.{Fits}
use lib.Dec.{leb}
use lib.ListN.{length, get_or, drop, length-append, drop_of_length-le}
use lib.Seq.{sets, length-sets}
use Rattle.std.specs.List.{sum}
use Rattle.model.specs.Layout.{state_length, word}
use Rattle.model.specs.Record.{encode, record_of}
use Rattle.model.specs.Demands.{Stopped}
use Rattle.model.proofs.Numbers.{encode-short}
use Rattle.model.proofs.Soundness.{stopped-ready}
use Rattle.std.proofs.lemmas.List.{length-take-le, length-drop, get_or-take, get_or-drop}
use Rattle.record.specs.Table.{Slot, slot, words_in, shown, plain, slot_read, slot_bytes, slots_in, blank, parts, slots, left_at, ShapeOf, Inside}
use Rattle.record.specs.Written.{Small, Wrote}
use Rattle.record.specs.declared.table.Kind.{Kind}
use Rattle.record.specs.declared.table.Kind.TheVariants.{Exactly, SetUp, Within, Fields, Above, Edges}
use Rattle.record.specs.declared.table.Part.{Part}
use Rattle.record.specs.declared.shape.Shape.{Shape}
use Rattle.record.proofs.Bytes.{sets-next, drop-next}
use Rattle.record.proofs.Lists.{length_run, run_at}
use Rattle.record.proofs.Order.{length-slots}
use Rattle.record.proofs.Saving.{record_is, slot_small}
use Rattle.record.proofs.Walking.{left-all, left-whole, left_end}

-- a word of a plain part is shown as it is
as_is : (k : Kind) (w : ℕ) → plain k ≡ true → w ≡ shown k w
as_is (Exactly n) w h = unfold plain in (let z : ◌≡◌ {A = ℕ} 0 1 = cc in absurd (omega arith))
as_is SetUp w h = unfold shown in refl
as_is (Within m) w h = unfold shown in refl
as_is (Fields b) w h = unfold shown in refl
as_is (Above a m) w h = unfold plain in (let z : ◌≡◌ {A = ℕ} 0 1 = cc in absurd (omega arith))
as_is (Edges b) w h = unfold plain in (let z : ◌≡◌ {A = ℕ} 0 1 = cc in absurd (omega arith))

pub plain_word : (k : Kind) (ws : List ℕ) (j v : ℕ) → plain k ≡ true → v ≡ word ws j → v ≡ shown k (get_or ws j 0)
plain_word k ws j v h e = e ∙ as_is k (get_or ws j 0) h

-- ---- bytes one after the other

-- the first of the values of a part, and of the parts
module _ (s : List ℕ) where
  bytes-append : (xs ys : List Slot) → slot_bytes s (xs ++ ys) ≡ slot_bytes s xs ++ slot_bytes s ys
  unfolding slot_bytes
  bytes-append [] ys = refl
  bytes-append (x ∷ xs) ys = ap (λ (l : List ℕ). encode (slot_read s x) ++ l) (bytes-append xs ys) ∙ sym (append_assoc (encode (slot_read s x)) (slot_bytes s xs) (slot_bytes s ys))

  module _ (p : Part) (j : ℕ) where
    abbrev at-word : ℕ → Slot
    at-word i = slot (p.base + p.first + i) p.kind (p.first + i)

    values-next : j < p.len → slot_bytes s (drop j (slots_in p)) ≡ encode (shown p.kind (word s (p.base + p.first + j))) ++ slot_bytes s (drop (j + 1) (slots_in p))
    unfolding slot_bytes slot_read
    values-next l = rw (drop-next (slots_in p) j (at-word 0) (rw (length_run (at-word 0) at-word 0 p.len) l), run_at (at-word 0) at-word 0 p.len j l, zero-add j)

    values-end : p.len ≤ j → slot_bytes s (drop j (slots_in p)) ≡ []
    unfolding slot_bytes
    values-end l = rw (drop_of_length-le (slots_in p) {i = j} (rw (length_run (at-word 0) at-word 0 p.len) l))

  parts_next : (ps : List Part) (k : ℕ) → slot_bytes s (left_at ps k 0) ≡ slot_bytes s (slots_in (get_or ps k blank)) ++ slot_bytes s (left_at ps (k + 1) 0)
  parts_next ps k = ap (slot_bytes s) (left-whole ps k) ∙ bytes-append (slots_in (get_or ps k blank)) (left_at ps (k + 1) 0)

  parts-end : (ps : List Part) (k n : ℕ) → n ≡ length ps → n ≤ k → slot_bytes s (left_at ps k 0) ≡ []
  unfolding slot_bytes
  parts-end ps k n e l = ap (slot_bytes s) (left_end ps k (omega arith))

  -- a value has at most five
  bytes-short : (xs : List Slot) → length (slot_bytes s xs) ≤ 5 * length xs
  unfolding slot_bytes
  bytes-short [] = omega arith
  bytes-short (x ∷ xs) = omega (arith, length-append (encode (slot_read s x)) (slot_bytes s xs), encode-short (slot_read s x), bytes-short xs)

  -- the words of a part
  module _ (p : Part) (size : length s ≡ state_length) (i : Inside p) where
    length-words : length (words_in s p) ≡ p.len
    length-words = length-take-le p.len (drop (p.base + p.first) s) (rw length-drop (omega (arith, i.within)))

    module _ (ws : List ℕ) (e : ws ≡ words_in s p) where
      module _ (j : ℕ) (l : j < length ws) where
        within : j < p.len
        within = rw (e, length-words) at l

        word-is : get_or ws j 0 ≡ word s (p.base + p.first + j)
        word-is = rw e (get_or-take p.len (drop (p.base + p.first) s) j 0 within ∙ get_or-drop (p.base + p.first) s j 0)

        value-bytes : (v : ℕ) → v ≡ shown p.kind (get_or ws j 0) → slot_bytes s (drop j (slots_in p)) ≡ encode v ++ slot_bytes s (drop (j + 1) (slots_in p))
        value-bytes v h = rw (h, word-is) (values-next p j within)

-- ---- the record of a stopped device

module _ (s : List ℕ) (st : Stopped s) where
  module _ (h : Shape) (sh : ShapeOf s h) where
    abbrev table : List Part
    table = parts h.count h.vcpus

    -- all bytes are the record
    bytes-all : slot_bytes s (left_at table 0 0) ≡ record_of s
    bytes-all = ap (slot_bytes s) (left-all table) ∙ rw (sh.same_count, sh.same_vcpus) (sym (record_is s (stopped-ready s st)))

    pub part_small : (k : ℕ) (p : Part) → p ≡ get_or table k blank → Small s p
    part_small k p e = record { small = λ j l. slot_small s (stopped-ready s st) k j p (rw (sh.same_count, sh.same_vcpus) at e) l }

    record-short : length (record_of s) ≤ 5 * length (slots h.count h.vcpus)
    record-short = rw (← bytes-all, left-all table) (bytes-short s (slots h.count h.vcpus))

    record-most : length (record_of s) ≤ 8210
    record-most = omega (arith, record-short, length-slots h.count h.vcpus, h.most, h.few)

    -- a buffer of five bytes to each value has room
    pub room-surely : (len n : ℕ) → n ≡ length (slots h.count h.vcpus) → 5 * n ≤ len → true ≡ leb (length (record_of s)) len
    room-surely len n e l = sym (le-leb (length (record_of s)) len (omega (arith, record-short)))

-- ---- counting: `sum` of the bytes `all`, and `left` is left

pub record Counting (all : List ℕ) (sum : ℕ) (left : List ℕ) : Type 0 where
  pub whole : sum + length left ≡ length all

module _ (all : List ℕ) (sum : ℕ) where
  counting-next : (left xs ys : List ℕ) → left ≡ xs ++ ys → Counting all sum left → (n : ℕ) → n ≡ length xs → Counting all (sum + n) ys
  counting-next left xs ys e w n q = record { whole = omega (arith, w.whole, ap length e, length-append xs ys) }

  counting-end : (left : List ℕ) → left ≡ [] → Counting all sum left → sum ≡ length all
  counting-end left e w = omega (arith, w.whole, ap length e)

  module _ (s : List ℕ) where
    module _ (p : Part) (size : length s ≡ state_length) (i : Inside p) (ws : List ℕ) (e : ws ≡ words_in s p) (j : ℕ) (w : Counting all sum (slot_bytes s (drop j (slots_in p)))) where
      pub values-counting : j < length ws → (v : ℕ) → v ≡ shown p.kind (get_or ws j 0) → (n : ℕ) → n ≡ length (encode v) → Counting all (sum + n) (slot_bytes s (drop (j + 1) (slots_in p)))
      values-counting l v h n q = counting-next (slot_bytes s (drop j (slots_in p))) (encode v) (slot_bytes s (drop (j + 1) (slots_in p))) (value-bytes s p size i ws e j l v h) w n q

      pub values-counted : length ws ≤ j → sum ≡ length all
      values-counted l = counting-end _ (values-end s p j (rw (e, length-words s p size i) at l)) w

    module _ (ps : List Part) (k : ℕ) (w : Counting all sum (slot_bytes s (left_at ps k 0))) where
      pub parts-counting : (p : Part) → p ≡ get_or ps k blank → (n : ℕ) → n ≡ length (slot_bytes s (slots_in p)) → Counting all (sum + n) (slot_bytes s (left_at ps (k + 1) 0))
      parts-counting p e n q = counting-next (slot_bytes s (left_at ps k 0)) (slot_bytes s (slots_in (get_or ps k blank))) (slot_bytes s (left_at ps (k + 1) 0)) (parts_next s ps k) w n (rw e at q)

-- a sum is small
pub values-fit : (s : List ℕ) (p : Part) → length s ≡ state_length → Inside p → (ws : List ℕ) → ws ≡ words_in s p → (sum j : ℕ) → Counting (slot_bytes s (slots_in p)) sum (slot_bytes s (drop j (slots_in p))) → j < length ws → (v : ℕ) → v ≡ shown p.kind (get_or ws j 0) → (n : ℕ) → n ≡ length (encode v) → Fits w64 (sum + n)
values-fit s p size i ws e sum j w l v h n q = record { fits = omega (arith, (values-counting (slot_bytes s (slots_in p)) sum s p size i ws e j w l v h n q).whole, bytes-short s (slots_in p), length_run (at-word s p j 0) (at-word s p j) 0 p.len, i.within) }

module _ (s : List ℕ) (st : Stopped s) (h : Shape) (sh : ShapeOf s h) where
  pub record-uncounted : Counting (record_of s) 0 (slot_bytes s (left_at (parts h.count h.vcpus) 0 0))
  record-uncounted = record { whole = rw (bytes-all s st h sh) (zero-add (length (record_of s))) }

  module _ (sum k : ℕ) (w : Counting (record_of s) sum (slot_bytes s (left_at (parts h.count h.vcpus) k 0))) where
    pub record-fits : (p : Part) → p ≡ get_or (parts h.count h.vcpus) k blank → (n : ℕ) → n ≡ length (slot_bytes s (slots_in p)) → Fits w64 (sum + n)
    record-fits p e n q = record { fits = omega (arith, (parts-counting (record_of s) sum s (parts h.count h.vcpus) k w p e n q).whole, record-most s st h sh) }

    pub record-counted : (n : ℕ) → n ≡ length (parts h.count h.vcpus) → n ≤ k → sum ≡ length (record_of s)
    record-counted n e l = counting-end (record_of s) sum _ (parts-end s (parts h.count h.vcpus) k n e l) w

-- ---- writing: of the bytes `all`, to be written to b from at₀ on, `left` is left, to be written to buf from `at` on

pub record Writing (b : List ℕ) (at₀ : ℕ) (all buf : List ℕ) (at : ℕ) (left : List ℕ) : Type 0 where
  pub bytes : sets buf at left ≡ sets b at₀ all
  pub room : at + length left ≤ length buf
  pub place : at + length left ≡ at₀ + length all
  pub same : length buf ≡ length b

pub writing-none : (b : List ℕ) (at : ℕ) (all : List ℕ) → at + length all ≤ length b → Writing b at all b at all
writing-none b at all l = record { bytes = refl; room = l; place = refl; same = refl }

module _ (b : List ℕ) (at₀ : ℕ) (all buf : List ℕ) (at : ℕ) where
  writing-room : (left xs ys : List ℕ) → left ≡ xs ++ ys → Writing b at₀ all buf at left → at + length xs ≤ length buf
  writing-room left xs ys e w = omega (arith, w.room, ap length e, length-append xs ys)

  writing-next : (left xs ys : List ℕ) → left ≡ xs ++ ys → Writing b at₀ all buf at left → (at' : ℕ) → at' ≡ at + length xs → (buf' : List ℕ) → buf' ≡ sets buf at xs → Writing b at₀ all buf' at' ys
  writing-next left xs ys e w at' p buf' q = record {
    bytes = sets-next buf buf' at at' xs ys p q ∙ (rw e at w.bytes);
    room = rw (q, length-sets buf at xs) (omega (arith, w.room, ap length e, length-append xs ys));
    place = omega (arith, w.place, ap length e, length-append xs ys);
    same = rw (q, length-sets buf at xs) w.same;
  }

  writing-end : (left : List ℕ) → left ≡ [] → Writing b at₀ all buf at left → Wrote b at₀ all at buf
  writing-end left e w = record { place = omega (arith, w.place, ap length e); bytes = rw e at w.bytes }

  module _ (s : List ℕ) where
    module _ (p : Part) (size : length s ≡ state_length) (i : Inside p) (ws : List ℕ) (e : ws ≡ words_in s p) (j : ℕ) (w : Writing b at₀ all buf at (slot_bytes s (drop j (slots_in p)))) where
      module _ (l : j < length ws) (v : ℕ) (h : v ≡ shown p.kind (get_or ws j 0)) where
        pub value_room : at + length (encode v) ≤ length buf
        value_room = writing-room (slot_bytes s (drop j (slots_in p))) (encode v) (slot_bytes s (drop (j + 1) (slots_in p))) (value-bytes s p size i ws e j l v h) w

        pub value_written : (at' : ℕ) → at' ≡ at + length (encode v) → (buf' : List ℕ) → buf' ≡ sets buf at (encode v) → Writing b at₀ all buf' at' (slot_bytes s (drop (j + 1) (slots_in p)))
        value_written = writing-next (slot_bytes s (drop j (slots_in p))) (encode v) (slot_bytes s (drop (j + 1) (slots_in p))) (value-bytes s p size i ws e j l v h) w

      pub values-written : length ws ≤ j → Wrote b at₀ all at buf
      values-written l = writing-end _ (values-end s p j (rw (e, length-words s p size i) at l)) w

    module _ (ps : List Part) (k : ℕ) (w : Writing b at₀ all buf at (slot_bytes s (left_at ps k 0))) (p : Part) (e : p ≡ get_or ps k blank) where
      pub part_room : at + length (slot_bytes s (slots_in p)) ≤ length buf
      part_room = rw e (writing-room (slot_bytes s (left_at ps k 0)) (slot_bytes s (slots_in (get_or ps k blank))) (slot_bytes s (left_at ps (k + 1) 0)) (parts_next s ps k) w)

      pub part-written : (at' : ℕ) (buf' : List ℕ) → Wrote buf at (slot_bytes s (slots_in p)) at' buf' → Writing b at₀ all buf' at' (slot_bytes s (left_at ps (k + 1) 0))
      part-written at' buf' m = let n : Wrote buf at (slot_bytes s (slots_in (get_or ps k blank))) at' buf' = rw e at m in writing-next (slot_bytes s (left_at ps k 0)) (slot_bytes s (slots_in (get_or ps k blank))) (slot_bytes s (left_at ps (k + 1) 0)) (parts_next s ps k) w at' n.place buf' n.bytes

module _ (s : List ℕ) (st : Stopped s) (h : Shape) (sh : ShapeOf s h) where
  pub record-unwritten : (b : List ℕ) → length (record_of s) ≤ length b → Writing b 0 (record_of s) b 0 (slot_bytes s (left_at (parts h.count h.vcpus) 0 0))
  record-unwritten b l = rw (bytes-all s st h sh) (writing-none b 0 (record_of s) (omega arith))

  module _ (b buf : List ℕ) (at k n : ℕ) (w : Writing b 0 (record_of s) buf at (slot_bytes s (left_at (parts h.count h.vcpus) k 0))) (e : n ≡ length (parts h.count h.vcpus)) (l : n ≤ k) where
    pub record-written : Wrote b 0 (record_of s) at buf
    record-written = writing-end b 0 (record_of s) buf at _ (parts-end s (parts h.count h.vcpus) k n e l) w

    pub written-most : at ≤ 8210
    written-most = omega (arith, record-written.place, record-most s st h sh)
