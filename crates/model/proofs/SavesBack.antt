-- A record that restore takes is the record of the device that it leaves: a device has exactly one record.
-- The premise `Bytes` says that each number of the record is below 256. In the code these are u8, so it always holds. The definitions read numbers of any size, and
-- need it: 300 with 1 after it is read as 300 (300 - 128 + 128 * 1), whose shortest form is 172, 2.
use Rattle.std.specs.Prelude.{Ok}
use Prim.Native.Nat.{ℕ, zero, suc, ◌+◌, ◌*◌, ◌%◌, ◌^◌, ◌≤◌, ◌<◌}
use mathlib.Core.Path.{◌≡◌, refl, sym, ap, ap₂, ◌∙◌, subst}
use mathlib.Core.Bool.{Bool, true, false, cond, ◌&&◌, true≢false}
use mathlib.Core.List.{List, [], ◌∷◌, ◌++◌, map}
use mathlib.Core.Logic.{◌↔◌, inr, ⊎_elim}
use native.Mathlib.Nat.{add-zero}
use native.Mathlib.Omega.{arith}
use borrow.Author.Tests.{eqb-true, eq-eqb, ne_eqb, lt-ltb, le-ltb, le-leb}
use lib.Dec.{eqb, ltb, leb}
use lib.IntN.{pos}
use lib.ListN.{length, set}
use lib.Seq.{get_or-set_same, get_or-set_other}
use Rattle.model.specs.Words.{each}
use Rattle.model.specs.Layout.{word, count, vcpus, block, affinity}
use Rattle.model.specs.Attributes.{Attribute, attr, item_of, item_write}
use Rattle.model.specs.Record.{encode, Number, decoded, broken, decode_number, spi_words, spis, of_vcpu, of_spi_word, of_route, of_vcpu_block, listed, Entry, header, attribute_of, entries, entry_read, entry_bytes, record_of, readable, entry_put, Loaded, done, fault, taking, load, restored, faults, loaded_state}
use Rattle.model.specs.declared.Errno.TheVariants.{Einval}
use Rattle.model.specs.Demands.{Stopped, Fresh, Alike}
use Rattle.model.specs.Calls.{save, restore, call, describe, refusal, handed_back}
use Rattle.model.proofs.Numbers.{Bytes, bytes_rest, bytes-join, decode-only, encode-bytes}
use Rattle.model.proofs.Soundness.{stopped-ready, Ready, stopped-resting}
use Rattle.model.proofs.Derived.{with-record}
use Rattle.model.proofs.Masks.{SpiWord}
use Rattle.model.proofs.Refused.{Passed, unrefused, is-granted, refused-or-granted, refused-negative}
use Rattle.model.proofs.Listed.{Listed, groups, enables, latches, actives, pmr, ctlr, bpr0, bpr1, ap0r, ap1r, igrpen0, igrpen1, control, status, spi-flags, spi-lines, spi-priority, spi-config, spi-route, vcpu-status, vcpu-flags, vcpu-lines, vcpu-priority, vcpu-system, member}
use Rattle.model.proofs.Places.{place_of, shown, shape_of, named_by, names-item, reads-place}
use Rattle.model.proofs.Cover.{shows, carried, place_inside}
use Rattle.model.proofs.Puts.{put_item}
use Rattle.model.proofs.Restores.{fresh-ready, fresh-stopped, may-put}
use Rattle.model.proofs.Recorded.{same_entries, All, Good, good-entries, loads-record, save-answer, save-hands}
use Rattle.model.proofs.ReadsBack.{RestingLike, derived-like, like-itself, alike_then, alike-back, put-like, ReadsSo, readable-exactly}
use Rattle.model.proofs.Loaded.{restored-like}
use Rattle.model.specs.Roles.{with_derived}

-- ---- the order in which the record comes to the places of the state

-- the words of the vCPUs' blocks after all others, and in each block STATUSR, its word 18, first
unfoldable pub turn : ℕ → ℕ
turn p = cond (leb 16 p && ltb p 272) (cond (eqb (p % 32) 2) (1982 + p) (2001 + p)) p

turn-after : (p : ℕ) → 272 ≤ p → turn p ≡ p
unfolding turn
turn-after p h = rw (le-leb 16 p (omega arith), le-ltb p 272 h)

turn-status : (v : ℕ) → v < 8 → turn (block v + 18) ≡ 2000 + block v
unfolding turn
turn-status v l = rw (le-leb 16 (block v + 18) (omega arith), lt-ltb (block v + 18) 272 (omega arith), eq-eqb ((block v + 18) % 32) 2 (omega arith)) (omega arith)

turn-block : (v j : ℕ) → v < 8 → j < 32 → ¬ (j ≡ 18) → turn (block v + j) ≡ 2001 + (block v + j)
unfolding turn
turn-block v j l m n = rw (le-leb 16 (block v + j) (omega arith), lt-ltb (block v + j) 272 (omega arith), ne_eqb ((block v + j) % 32) 2 (λ e. n (omega arith)))

-- ---- the entries of a record are in that order

-- the turns of their listed attributes rise, from lo on and before hi
abbrev pub Rising : List ℕ → ℕ → ℕ → List Entry → Type 0
Rising s lo hi [] = lo ≤ hi
Rising s lo hi (header x ∷ es) = Rising s lo hi es
Rising s lo hi (attribute_of a ∷ es) = (l : Listed s a) × (k : ℕ) × (turn (place_of l) ≡ k) × (lo ≤ k) × Rising s (suc k) hi es

module _ (s : List ℕ) where
  unfoldable Ordered : ℕ → ℕ → List Attribute → Type 0
  Ordered lo hi l = Rising s lo hi (map attribute_of l)

  ordered-from : (l : List Attribute) (lo from hi : ℕ) → lo ≤ from → Ordered from hi l → Ordered lo hi l
  unfolding Ordered
  ordered-from [] lo from hi h r = omega arith
  ordered-from (a ∷ l) lo from hi h r = (r.0, r.1, r.2, omega (arith, r.3), r.4)

  ordered-join : (l m : List Attribute) (lo mid hi : ℕ) → Ordered lo mid l → Ordered mid hi m → Ordered lo hi (l ++ m)
  unfolding Ordered
  ordered-join [] m lo mid hi p q = ordered-from m lo mid hi p q
  ordered-join (a ∷ l) m lo mid hi p q = (p.0, p.1, p.2, p.3, ordered-join l m (suc p.1) mid hi p.4 q)

  -- one more in front, whose turn is k
  then : {a : Attribute} (l : Listed s a) {k : ℕ} → turn (place_of l) ≡ k → (m : List Attribute) (lo hi : ℕ) → lo ≤ k → Ordered (suc k) hi m → Ordered lo hi (a ∷ m)
  unfolding Ordered
  then l {k} e m lo hi h r = (l, k, e, h, r)

  last : {a : Attribute} (l : Listed s a) {k : ℕ} → turn (place_of l) ≡ k → (lo hi : ℕ) → lo ≤ k → k < hi → Ordered lo hi (a ∷ [])
  unfolding Ordered
  last l {k} e lo hi h m = (l, k, e, h, m)

  -- block by block: that of v from g v on, and before g (v + 1)
  ordered-each : (f : ℕ → List Attribute) (g : ℕ → ℕ) (b k lo hi : ℕ) → lo ≤ g b → g (b + k) ≤ hi
      → ((v : ℕ) → b ≤ v → v < b + k → Ordered (g v) (g (suc v)) (f v)) → Ordered lo hi (each f b k)
  unfolding each Ordered
  ordered-each f g b zero lo hi p q h = omega (arith, rw add-zero at q)
  ordered-each f g b (suc k) lo hi p q h =
      let e : b + suc k ≡ suc b + k = omega arith in
      ordered-join (f b) (each f (suc b) k) lo (g (suc b)) hi (ordered-from (f b) lo (g b) (g (suc b)) p (h b (omega arith) (omega arith)))
      (ordered-each f g (suc b) k (g (suc b)) hi (omega arith) (rw e at q) (λ v l m. h v (omega arith) (omega arith)))

  module _ (h : Ready s) where
    ordered_word : (w : ℕ) → SpiWord s w → Ordered (256 + 16 * w) (256 + 16 * suc w) (of_spi_word w)
    unfolding of_spi_word
    ordered_word w q =
        then (spi-flags w groups q) (at 0) _ _ _ (omega arith)
        (then (spi-flags w enables q) (at 1) _ _ _ (omega arith)
        (then (spi-flags w latches q) (at 2) _ _ _ (omega arith)
        (then (spi-flags w actives q) (at 3) _ _ _ (omega arith)
        (then (spi-lines w q) (at 4) _ _ _ (omega arith)
        (ordered-join (each (λ j. attr 1 (0x400 + 32 * w + 4 * j) ∷ []) 0 8) _ _ (256 + 16 * w + 13) _
        (ordered-each _ (λ j. 256 + 16 * w + (5 + j)) 0 8 _ _ (omega arith) (omega arith) (λ j l m. last (spi-priority w j q (omega arith)) (at (5 + j)) _ _ (omega arith) (omega arith)))
        (ordered-each _ (λ j. 256 + 16 * w + (13 + j)) 0 2 _ _ (omega arith) (omega arith) (λ j l m. last (spi-config w j q (omega arith)) (at (13 + j)) _ _ (omega arith) (omega arith))))))))
      where
        at : (k : ℕ) → turn (256 + 16 * w + k) ≡ 256 + 16 * w + k
        at k = turn-after _ (omega (arith, q.low))

    ordered-vcpu : (v : ℕ) → v < vcpus s → Ordered (2000 + block v) (2000 + block (suc v)) (of_vcpu_block s v)
    unfolding of_vcpu_block
    ordered-vcpu v l =
        then (vcpu-status v l) (turn-status v few) _ _ _ (omega arith)
        (then (vcpu-flags v groups l) (at 0 (omega arith)) _ _ _ (omega arith)
        (then (vcpu-flags v enables l) (at 1 (omega arith)) _ _ _ (omega arith)
        (then (vcpu-flags v latches l) (at 2 (omega arith)) _ _ _ (omega arith)
        (then (vcpu-flags v actives l) (at 3 (omega arith)) _ _ _ (omega arith)
        (then (vcpu-lines v l) (at 4 (omega arith)) _ _ _ (omega arith)
        (ordered-join (each (λ j. attr 5 (of_vcpu s v (0x10400 + 4 * j)) ∷ []) 0 8) _ _ (2014 + block v) _
        (ordered-each _ (λ j. 2006 + block v + j) 0 8 _ _ (omega arith) (omega arith) (λ j p m. last (vcpu-priority v j l (omega arith)) (at (5 + j) (omega arith)) _ _ (omega arith) (omega arith)))
        (then (vcpu-system v pmr l) (past 0 (omega arith)) _ _ _ (omega arith)
        (then (vcpu-system v ctlr l) (past 1 (omega arith)) _ _ _ (omega arith)
        (then (vcpu-system v bpr0 l) (past 2 (omega arith)) _ _ _ (omega arith)
        (then (vcpu-system v bpr1 l) (past 3 (omega arith)) _ _ _ (omega arith)
        (then (vcpu-system v ap0r l) (past 4 (omega arith)) _ _ _ (omega arith)
        (then (vcpu-system v ap1r l) (past 5 (omega arith)) _ _ _ (omega arith)
        (then (vcpu-system v igrpen0 l) (past 6 (omega arith)) _ _ _ (omega arith)
        (last (vcpu-system v igrpen1 l) (past 7 (omega arith)) _ _ (omega arith) (omega arith)))))))))))))))
      where
        few : v < 8
        few = omega (arith, h.few)

        at : (j : ℕ) → j < 18 → turn (block v + j) ≡ 2001 + (block v + j)
        at j m = turn-block v j few (omega arith) (λ e. omega arith)

        past : (j : ℕ) → j < 8 → turn (block v + (19 + j)) ≡ 2001 + (block v + (19 + j))
        past j m = turn-block v (19 + j) few (omega arith) (λ e. omega arith)

    ordered-listed : Ordered 0 (2000 + block (vcpus s)) (listed s)
    unfolding listed of_route turn
    ordered-listed =
        then control refl _ _ _ (omega arith)
        (then status refl _ _ _ (omega arith)
        (ordered-join (each of_spi_word 1 (spi_words (count s))) _ _ 768 _
        (ordered-each of_spi_word (λ w. 256 + 16 * w) 1 (spi_words (count s)) _ _ (omega arith) (omega (arith, h.counted.most)) (λ w l m. ordered_word w (record { low = l; high = omega (arith, h.counted.step, h.counted.least) })))
        (ordered-join (each of_route 32 (spis (count s))) _ _ 2000 _
        (ordered-each of_route (λ id. 736 + id) 32 (spis (count s)) _ _ (omega arith) (omega arith) (λ id l m. last (spi-route id l (omega (arith, h.counted.least))) (turn-after (736 + id) (omega arith)) _ _ (omega arith) (omega arith)))
        (ordered-each (of_vcpu_block s) (λ v. 2000 + block v) 0 (vcpus s) _ _ (omega arith) (omega arith) (λ v l m. ordered-vcpu v (omega arith))))))

    rising-headers : (f : ℕ → ℕ) (b k lo hi : ℕ) (es : List Entry) → Rising s lo hi es → Rising s lo hi (each (λ v. header (f v) ∷ []) b k ++ es)
    unfolding each
    rising-headers f b zero lo hi es r = r
    rising-headers f b (suc k) lo hi es r = rising-headers f (suc b) k lo hi es r

    pub rising-entries : Rising s 0 (2000 + block (vcpus s)) (entries s)
    unfolding entries Ordered
    rising-entries = rising-headers (affinity s) 0 (vcpus s) 0 _ (map attribute_of (listed s)) ordered-listed

-- ---- one number of a record that is read

module _ (t : List ℕ) where
  -- the first entry of a record that is read: the bytes begin with its number in its shortest form, which is readable and is put
  record First (e : Entry) (es : List Entry) (bytes s u : List ℕ) : Type 0 where
    number : ℕ
    rest : List ℕ
    made : bytes ≡ encode number ++ rest
    can : readable t e number ≡ true
    loads : load t es rest (entry_put s e number) ≡ done u

  first : (e : Entry) (es : List Entry) (bytes s u : List ℕ) → Bytes bytes → load t (e ∷ es) bytes s ≡ done u → First e es bytes s u
  unfolding load taking
  first e es bytes s u b q = step (decode_number bytes) refl q
    where
      step : (n : Number) → decode_number bytes ≡ n
          → taking n (λ v r. elim (readable t e v) [ true ↦ load t es r (entry_put s e v) | false ↦ fault Einval ]) ≡ done u → First e es bytes s u
      step broken d k = let z : ◌≡◌ {A = ℕ} 0 1 = cc in absurd (omega arith)
      step (decoded v r) d k = value (readable t e v) refl k
        where
          value : (c : Bool) → readable t e v ≡ c → elim c [ true ↦ load t es r (entry_put s e v) | false ↦ fault Einval ] ≡ done u → First e es bytes s u
          value true y k = record { number = v; rest = r; made = (decode-only bytes b d).0; can = y; loads = k }
          value false y k = let z : ◌≡◌ {A = ℕ} 0 1 = cc in absurd (omega arith)

-- ---- a put of a readable number

module _ (t : List ℕ) (ht : Fresh t) where
  rt : Ready t
  rt = fresh-ready t ht

  -- a device of the target's set-up has a listed attribute where the target has it
  pub names-there : (u : List ℕ) → RestingLike t u → {a : Attribute} (l : Listed t a) → item_of a u ≡ named_by l
  names-there u h l = let c = carried t u h.alike l in names-item u h.resting.is_ready c.there ∙ c.names

  pub reads-there : (u : List ℕ) → RestingLike t u → {a : Attribute} (l : Listed t a) → entry_read u (attribute_of a) ≡ shown (shape_of l) (word u (place_of l))
  unfolding entry_read
  reads-there u h l = let c = carried t u h.alike l in rw (c.place, c.shape) at (reads-place u h.resting.is_ready c.there)

  -- it stores one word, which reads as the number, in every such device that still has the target's word there
  record Stores {a : Attribute} (l : Listed t a) (v : ℕ) : Type 0 where
    stored : ℕ
    reads : shown (shape_of l) stored ≡ v
    puts : (s : List ℕ) → RestingLike t s → word s (place_of l) ≡ word t (place_of l) → entry_put s (attribute_of a) v ≡ set s (place_of l) stored

  stores : {a : Attribute} (l : Listed t a) (v : ℕ) → readable t (attribute_of a) v ≡ true → Stores l v
  unfolding ReadsSo entry_put
  stores {a} l v can = let so = (readable-exactly t ht a (member t rt l) v).0 can in by so.0 so.1 (record { resting = stopped-resting _ so.1; alike = so.2 }) so.3
    where
      -- the word of a device that reads so
      by : (d : List ℕ) → Stopped d → RestingLike t d → entry_read d (attribute_of a) ≡ v → Stores l v
      by d sd hd e = record { stored = word d (place_of l); reads = value; puts = put }
        where
          value : shown (shape_of l) (word d (place_of l)) ≡ v
          value = sym (reads-there d hd l) ∙ e

          put : (s : List ℕ) → RestingLike t s → word s (place_of l) ≡ word t (place_of l) → item_write s (item_of a s) v ≡ set s (place_of l) (word d (place_of l))
          put s hs old =
              let c = carried t d hd.alike l in
              let same = alike-back t d hd.alike in
              let clear : word s (place_of c.there) ≡ word t (place_of c.there) = rw c.place old in
              let p = put_item d s hd.resting.is_ready hs.resting.is_ready (alike_then d t s same hs.alike) c.there (may-put d t sd ht same c.there _ (inr clear)) in
              rw (names-there s hs l, ← value) (rw (c.place, c.shape, c.names) at p)

  -- ---- the record as a whole

  module _ (u : List ℕ) (hu : RestingLike t u) (hi : ℕ) where
    -- the bytes are what the device u has for these entries, and at places whose turn is before lo it has the words of s
    record Back (lo : ℕ) (es : List Entry) (bytes s : List ℕ) : Type 0 where
      same : bytes ≡ entry_bytes u es
      kept : (p : ℕ) → turn p < lo → word u p ≡ word s p

    back : (es : List Entry) (lo : ℕ) (bytes s : List ℕ) → Rising t lo hi es → Bytes bytes → RestingLike t s → ((p : ℕ) → lo ≤ turn p → word s p ≡ word t p)
        → load t es bytes s ≡ done u → Back lo es bytes s
    unfolding load entry_bytes entry_read entry_put readable
    back [] lo [] s r b h n q = let e : u ≡ s = cc in record { same = refl; kept = λ p l. rw e }
    back [] lo (c ∷ bytes) s r b h n q = let z : ◌≡◌ {A = ℕ} 0 1 = cc in absurd (omega arith)
    back (header x ∷ es) lo bytes s r b h n q =
        let f = first t (header x) es bytes s u b q in
        let i = back es lo f.rest s r (bytes_rest (encode f.number) f.rest (rw f.made at b)) h n f.loads in
        record { same = f.made ∙ ap₂ (λ v y. encode v ++ y) (eqb-true f.number x f.can) i.same; kept = i.kept }
    back (attribute_of a ∷ es) lo bytes s r b h n q =
        let p = place_of r.0 in
        let at : turn p ≡ r.1 = r.2 in
        let from : lo ≤ r.1 = r.3 in
        let f = first t (attribute_of a) es bytes s u b q in
        let w = stores r.0 f.number f.can in
        let put : entry_put s (attribute_of a) f.number ≡ set s p w.stored = w.puts s h (n p (omega arith)) in
        let other : (k : ℕ) → ¬ (k ≡ p) → word (set s p w.stored) k ≡ word s k = λ k z. get_or-set_other s p k w.stored 0 z in
        let i =
        back es (suc r.1) f.rest (set s p w.stored) r.4 (bytes_rest (encode f.number) f.rest (rw f.made at b))
        (subst (RestingLike t) put (put-like t s h r.0 f.number))
        (λ k m. other k (λ z. omega (arith, ap turn z)) ∙ n k (omega arith)) (rw put at f.loads) in
        let here : word u p ≡ w.stored = i.kept p (omega arith) ∙ get_or-set_same s p w.stored 0 (omega (arith, place_inside t rt r.0, h.resting.is_ready.size)) in
        let reads : entry_read u (attribute_of a) ≡ f.number = reads-there u hu r.0 ∙ ap (shown (shape_of r.0)) here ∙ w.reads in
        record {
          same = f.made ∙ ap₂ (λ v y. encode v ++ y) (sym reads) i.same;
          kept = λ k m. i.kept k (omega arith) ∙ other k (λ z. omega (arith, ap turn z));
        }

-- the bytes that restore takes are the record of the device that they leave
pub record-back : (t bytes s : List ℕ) → Fresh t → Bytes bytes → restored t bytes ≡ done s → record_of s ≡ bytes
unfolding restored record_of
record-back t bytes s ht b e =
    let h = restored-like t (fresh-stopped t ht) bytes s e in
    rw (same_entries t s h.alike) (sym (back t ht s h _ (entries t) 0 bytes t (rising-entries t (fresh-ready t ht)) b (like-itself t (stopped-resting t (fresh-stopped t ht))) (λ p l. refl) e).same)

-- ---- a device has exactly one record

module _ (s : List ℕ) (h : Stopped s) where
  rs : Ready s
  rs = stopped-ready s h

  small : (e : Entry) → Good s e → entry_read s e < 2 ^ 32
  unfolding entry_read
  small (header x) g = g
  small (attribute_of a) g = rw (reads-place s rs g) (shows s rs g).small

  entry-bytes : (es : List Entry) → All (Good s) es → Bytes (entry_bytes s es)
  unfolding entry_bytes
  entry-bytes [] g = λ i. omega arith
  entry-bytes (e ∷ es) g = bytes-join (encode (entry_read s e)) (entry_bytes s es) (encode-bytes (entry_read s e) (small e g.0)) (entry-bytes es g.1)

  pub record-bytes : Bytes (record_of s)
  unfolding record_of
  record-bytes = entry-bytes (entries s) (good-entries s rs)

-- the record of a stopped device is bytes, and of all bytes a fresh target of its set-up reads these alone as that device
pub one-record : (t s : List ℕ) → Fresh t → Stopped s → Alike s t
    → Bytes (record_of s) × ((bytes : List ℕ) → Bytes bytes → ((u : List ℕ) × (restored t bytes ≡ done u) × (with_derived u ≡ s)) ↔ (bytes ≡ record_of s))
one-record t s ht hs same =
    (record-bytes s hs, λ bytes b. (λ e. sym (ap record_of (sym e.2) ∙ with-record e.0 ∙ record-back t bytes e.0 ht b e.1), λ e. rw e (loads-record s t hs ht same)))

-- ---- as calls: what restore takes, save hands back

-- restore answers 0 only on a fresh device, and leaves what the record says
record Taken (t bytes : List ℕ) : Type 0 where
  target : Fresh t
  read : List ℕ
  loads : restored t bytes ≡ done read
  state : (call (restore bytes) t).state ≡ with_derived read

taken : (t bytes : List ℕ) → (call (restore bytes) t).answer ≡ pos 0 → Taken t bytes
unfolding describe faults loaded_state
taken t bytes a = ⊎_elim granted (λ r. let z : ◌≡◌ {A = ℕ} 0 1 = cc (refused-negative (restore bytes) t r.0 r.1) in absurd (omega arith)) (refused-or-granted (restore bytes) t)
  where
    granted : refusal (restore bytes) t ≡ Ok tt → Taken t bytes
    granted g = let p = unrefused (restore bytes) t g in step (restored t bytes) refl (record { is_sound = p.0; is_fresh = p.1.1.0 }) p.1.1.1
      where
        step : (l : Loaded) → restored t bytes ≡ l → Fresh t → Passed (faults l) → Taken t bytes
        step (done u) e f h = record { target = f; read = u; loads = e; state = (is-granted (restore bytes) t g).state ∙ rw e }
        step (fault n) e f h = absurd (true≢false (sym h.0))

-- restore of some bytes and then save, into any buffer that is long enough: save answers their number, and hands back the same bytes
pub record SavesBack (t bytes buf : List ℕ) : Type 0 where
  pub saves : (call (save buf) (call (restore bytes) t).state).answer ≡ pos (length bytes)
  pub hands : handed_back (call (save buf) (call (restore bytes) t).state) ≡ bytes

-- nothing is asked of the target: restore answers 0 only where it is fresh
pub saves-back : (t bytes buf : List ℕ) → Bytes bytes → (call (restore bytes) t).answer ≡ pos 0 → length bytes ≤ length buf → SavesBack t bytes buf
saves-back t bytes buf b a room =
    let k = taken t bytes a in
    let s = with_derived k.read in
    let hs = (derived-like t k.read (restored-like t (fresh-stopped t k.target) bytes k.read k.loads)).0 in
    let e : record_of s ≡ bytes = with-record k.read ∙ record-back t bytes k.read k.target b k.loads in
    let fits : length (record_of s) ≤ length buf = rw e room in
    record { saves = rw k.state (save-answer s buf hs fits ∙ ap (λ (r : List ℕ). pos (length r)) e); hands = rw k.state (save-hands s buf hs fits ∙ e) }
