-- What is read at a place of some bytes, by the byte there; how many groups a number has, and how they are written.
use Prim.Native.Nat.{ℕ, zero, suc, ◌+◌, ◌-◌, ◌*◌, ◌/◌, ◌%◌, ◌^◌, ◌≤◌, ◌<◌}
use mathlib.Core.Path.{◌≡◌, refl, sym, ap, ◌∙◌}
use mathlib.Core.Bool.{Bool, true, false, cond, not, ◌&&◌, and-false}
use mathlib.Core.List.{List, [], ◌∷◌, ◌++◌}
use native.Mathlib.Omega.{arith}
use native.Mathlib.Nat.{pow-suc, pow-succ', pow-le-pow_right, one-le-pow, zero-add, one-mul, mul-add, mul_assoc, add_assoc, mul-le-mul_left, mul-le-mul_right}
use native.Mathlib.Numerals.{add-one}
use borrow.Author.Tests.{lt-ltb, le-ltb, ltb-true, ltb-false, eqb-true, eqb-false, eq-eqb, ne_eqb, leb-true, leb-false}
use lib.Dec.{ltb, leb, eqb}
use mir.Syntax.{w32}
use mir.Val.{Fits}
use Rattle.model.proofs.Tests.{both}
use lib.ListN.{length, get_or, set, drop, length-set, drop_of_length-le}
use lib.Seq.{sets}
use Rattle.model.specs.Record as model
use Rattle.model.specs.Record.{more, read_groups, decode_number, encode}
use Rattle.model.proofs.Numbers.{read_small, read-big, read_none, encode-small, encode-big, encode-pos}
use Rattle.record.specs.declared.number.Begun.{Begun}
use Rattle.std.specs.Prelude.{Result, Ok, Err}
use Rattle.record.specs.declared.number.Number.{Number}
use Rattle.record.specs.declared.number.Unread.{Unread}
use Rattle.record.specs.declared.number.Unread.TheVariants.{Cut, Broken}
use Rattle.record.specs.Numbers.{value, ill, last_unit, last_group, read_on, onward, whole, told, Begins, Resumes, Ends}
use Rattle.record.proofs.Bytes.{drop-next}

-- ---- a number by its first byte: the last group, one too many, or one with more after it

module _ (x u b : ℕ) (r : List ℕ) where
  on-last : b < 128 → read_on x u (b ∷ r) ≡ last_group x u b r
  unfolding read_on
  on-last h = rw (lt-ltb b 128 h, read_on)

  module _ (h : 128 ≤ b) where
    on-over : u ≡ last_unit → read_on x u (b ∷ r) ≡ ill
    unfolding read_on
    on-over e = rw (le-ltb b 128 h, eq-eqb u last_unit e, read_on)

    on-more : ¬ (u ≡ last_unit) → read_on x u (b ∷ r) ≡ read_on (x + u * (b - 128)) (u * 128) r
    unfolding read_on
    on-more n = rw (le-ltb b 128 h, ne_eqb u last_unit n, read_on)

-- ---- bytes that come in two parts

pub read-joined : (a b : List ℕ) (x u : ℕ) → read_on x u (a ++ b) ≡ onward (read_on x u a) b
unfolding read_on onward last_group
read-joined [] b x u = refl
read-joined (g ∷ a) b x u =
    cases (read-joined a b (x + u * (g - 128)) (u * 128)) (ltb g 128) (eqb u last_unit) (eqb g 0 && not (eqb u 1)) (ltb (x + u * g) (2 ^ 32))
  where
    cases : read_on (x + u * (g - 128)) (u * 128) (a ++ b) ≡ onward (read_on (x + u * (g - 128)) (u * 128) a) b → (s t p q : Bool)
        → elim s [ true ↦ cond p ill (cond q (value (x + u * g) (a ++ b)) ill) | false ↦ elim t [ true ↦ ill | false ↦ read_on (x + u * (g - 128)) (u * 128) (a ++ b) ] ]
        ≡ onward (elim s [ true ↦ cond p ill (cond q (value (x + u * g) a) ill) | false ↦ elim t [ true ↦ ill | false ↦ read_on (x + u * (g - 128)) (u * 128) a ] ]) b
    cases ih true t true q = refl
    cases ih true t false true = refl
    cases ih true t false false = refl
    cases ih false true p q = refl
    cases ih false false p q = ih

-- ---- where no bytes follow: as model reads it

-- the groups before it make x, and each 1 of the number after them counts u: not 0 after them, or the form were not the shortest, and at most 2^32 - 1 in all
unfoldable under : ℕ → ℕ → model.Number → model.Number
under x u model.broken = model.broken
under x u (model.decoded v r) = cond (ltb 0 v && ltb (x + u * v) (2 ^ 32)) (model.decoded (x + u * v) r) model.broken

-- u counts a group and what is after it
counted : (x u a v : ℕ) → x + u * (a + 128 * v) ≡ x + u * a + u * 128 * v
counted x u a v = ap (λ (z : ℕ). x + z) (mul-add u a (128 * v) ∙ ap (λ (z : ℕ). u * a + z) (sym (mul_assoc u 128 v))) ∙ sym (add_assoc x (u * a) (u * 128 * v))

-- at least itself
counts : (x u y : ℕ) → 0 < u → y ≤ x + u * y
counts x u y p = omega (arith, mul-le-mul_right {m = 1} {n = u} y p)

module _ (x u b : ℕ) (p : 0 < u) where
  -- a group more before the number
  under_more : (d : model.Number) → under x u (more b d) ≡ under (x + u * (b - 128)) (u * 128) d
  unfolding under more
  under_more model.broken = refl
  under_more (model.decoded v r) = rw (← counted x u (b - 128) v) (cases (ltb 0 v) refl (ltb (b - 128 + 128 * v) (2 ^ 32)) refl)
    where
      cases : (c : Bool) → ltb 0 v ≡ c → (d : Bool) → ltb (b - 128 + 128 * v) (2 ^ 32) ≡ d
          → under x u (cond (c && d) (model.decoded (b - 128 + 128 * v) r) model.broken)
          ≡ cond (c && ltb (x + u * (b - 128 + 128 * v)) (2 ^ 32)) (model.decoded (x + u * (b - 128 + 128 * v)) r) model.broken
      cases false e d f = refl
      cases true e true f = rw (lt-ltb 0 (b - 128 + 128 * v) (omega (arith, ltb-true 0 v e)))
      cases true e false f = rw (le-ltb (x + u * (b - 128 + 128 * v)) (2 ^ 32) (omega (arith, counts x u (b - 128 + 128 * v) p, ltb-false (b - 128 + 128 * v) (2 ^ 32) f)))

-- the first group
as-under : (b : ℕ) (d : model.Number) → more b d ≡ under (b - 128) 128 d
unfolding more under
as-under b model.broken = refl
as-under b (model.decoded v r) = refl

-- the last group, after others
under_last : (x u b : ℕ) (r : List ℕ) → 1 < u → whole (last_group x u b r) ≡ under x u (model.decoded b r)
unfolding whole last_group under
under_last x u zero r h = rw (ne_eqb u 1 (λ e. omega arith))
under_last x u (suc b) r h = rw (ne_eqb (suc b) 0 (λ e. omega arith), lt-ltb 0 (suc b) (omega arith)) (cases (ltb (x + u * suc b) (2 ^ 32)))
  where
    cases : (t : Bool) → whole (cond t (value (x + u * suc b) r) ill) ≡ cond t (model.decoded (x + u * suc b) r) model.broken
    cases true = refl
    cases false = refl

-- the first of k + 1 groups, where it is known what one with more after it makes
under-group : (k x u b : ℕ) (r : List ℕ) → 1 < u → (128 ≤ b → whole (read_on x u (b ∷ r)) ≡ under x u (more b (read_groups k r)))
    → whole (read_on x u (b ∷ r)) ≡ under x u (read_groups (suc k) (b ∷ r))
under-group k x u b r h f = cases (ltb b 128) refl
  where
    cases : (t : Bool) → ltb b 128 ≡ t → whole (read_on x u (b ∷ r)) ≡ under x u (read_groups (suc k) (b ∷ r))
    cases true q = let l : b < 128 = ltb-true b 128 q in ap whole (on-last x u b r l) ∙ under_last x u b r h ∙ sym (ap (under x u) (read_small k b r l))
    cases false q = let l : 128 ≤ b = ltb-false b 128 q in f l ∙ sym (ap (under x u) (read-big k b r l))

-- k + 1 groups are left, of five
whole-under : (k x u : ℕ) (bytes : List ℕ) → 1 < u → u * 128 ^ suc k ≡ 128 ^ 5 → whole (read_on x u bytes) ≡ under x u (read_groups (suc k) bytes)
unfolding read_on whole read_groups under more
whole-under k x u [] h e = refl
whole-under zero x u (b ∷ r) h e =
    under-group 0 x u b r h (λ l. ap whole (on-over x u b r l (omega arith)) ∙ sym (ap (λ (d : model.Number). under x u (more b d)) (read_none r)))
whole-under (suc k) x u (b ∷ r) h e =
    let two : 128 ^ 2 ≤ 128 ^ suc (suc k) = pow-le-pow_right {n = 128} (omega arith) {i = 2} {j = suc (suc k)} (omega arith) in
    let rest : u * 128 * 128 ^ suc k ≡ 128 ^ 5 = mul_assoc u 128 (128 ^ suc k) ∙ rw pow-succ' at e in
    under-group (suc k) x u b r h
    (λ l. ap whole (on-more x u b r l (λ q. omega (arith, rw q at e, two))) ∙ whole-under k (x + u * (b - 128)) (u * 128) r (omega arith) rest
    ∙ sym (under_more x u b (omega arith) (read_groups (suc k) r)))

-- the only group
alone : (b : ℕ) (r : List ℕ) → b < 128 → last_group 0 1 b r ≡ value b r
unfolding last_group
alone b r l = rw (and-false (eqb b 0), zero-add, one-mul, lt-ltb b (2 ^ 32) (omega arith))

pub whole-number : (bytes : List ℕ) → whole (read_on 0 1 bytes) ≡ model.decode_number bytes
unfolding read_on whole decode_number read_groups
whole-number [] = refl
whole-number (b ∷ r) = cases (ltb b 128) refl
  where
    cases : (t : Bool) → ltb b 128 ≡ t → whole (read_on 0 1 (b ∷ r)) ≡ model.decode_number (b ∷ r)
    cases true q = let l : b < 128 = ltb-true b 128 q in ap whole (on-last 0 1 b r l ∙ alone b r l) ∙ sym (read_small 4 b r l)
    cases false q =
        let l : 128 ≤ b = ltb-false b 128 q in
        ap whole (on-more 0 1 b r l (λ e. omega arith)) ∙ rw (zero-add, one-mul (b - 128)) (whole-under 3 (b - 128) 128 r (omega arith) refl)
        ∙ sym (read-big 4 b r l ∙ as-under b (read_groups 4 r))

-- ---- the groups so far

module _ (g : Begun) (w : Begins g) where
  unit-more : ¬ (g.unit ≡ last_unit) → (w.past ≤ 3) × (g.unit ≤ 0x20_0000)
  unit-more n =
      let over : ¬ (w.past ≡ 4) = λ e. n (w.unit ∙ ap (λ (k : ℕ). 128 ^ k) e) in
      let few : w.past ≤ 3 = omega (arith, w.few, over) in
      (few, rw w.unit (pow-le-pow_right {n = 128} (omega arith) {i = w.past} {j = 3} few))

-- ---- the last group

module _ (g : Begun) (b next : ℕ) where
  pub ended-zero : (eqb b 0 && not (eqb g.unit 1)) ≡ true → Ends g b next (Err Broken)
  unfolding told last_group
  ended-zero e = record { resumes = tt; number = λ s. rw e }

  module _ (w : Begins g) (f : (eqb b 0 && not (eqb g.unit 1)) ≡ false) where
    pub ended-large : (eqb g.unit last_unit && leb 16 b) ≡ true → Ends g b next (Err Broken)
    unfolding told last_group
    ended-large e =
        let p = both (eqb g.unit last_unit) (leb 16 b) e in
        let q : g.unit ≡ last_unit = eqb-true g.unit last_unit p.0 in
        let l : 16 ≤ b = leb-true 16 b p.1 in
        let over : 2 ^ 32 ≤ g.sum + g.unit * b = rw q (omega arith) in
        record { resumes = tt; number = λ s. rw (f, le-ltb (g.sum + g.unit * b) (2 ^ 32) over) }

    module _ (k : b < 128) (n : (eqb g.unit last_unit && leb 16 b) ≡ false) where
      ended-below : g.sum + g.unit * b < 2 ^ 32
      ended-below = cases (eqb g.unit last_unit) refl
        where
          cases : (t : Bool) → eqb g.unit last_unit ≡ t → g.sum + g.unit * b < 2 ^ 32
          cases true e =
              let q : g.unit ≡ last_unit = eqb-true g.unit last_unit e in
              let l : b < 16 = leb-false 16 b (rw e at n) in
              rw q (omega (arith, rw q at w.small))
          cases false e = omega (arith, w.small, mul-le-mul_left {m = b} {n = 127} g.unit (omega arith), (unit-more g w (eqb-false g.unit last_unit e)).1)

      pub ended-product : Fits w32 (g.unit * b)
      ended-product = record { fits = omega (arith, ended-below) }

      pub ended-fits : Fits w32 (g.sum + g.unit * b)
      ended-fits = record { fits = ended-below }

      pub ended-whole : Ends g b next (Ok (record { value = g.sum + g.unit * b; next = record { at = next } }))
      unfolding told last_group
      ended-whole = record { resumes = tt; number = λ s. rw (f, lt-ltb (g.sum + g.unit * b) (2 ^ 32) ended-below) }

-- ---- from a place on

module _ (s : List ℕ) (i : ℕ) where
  pub cut_at : (g : Begun) → length s ≤ i → told s (Err (Cut g)) ≡ read_on g.sum g.unit (drop i s)
  unfolding told read_on
  cut_at g h = rw (drop_of_length-le s h)

  module _ (b : ℕ) (e : b ≡ get_or s i 0) (h : i < length s) where
    byte-here : drop i s ≡ b ∷ drop (i + 1) s
    byte-here = rw (drop-next s i 0 h, ← e)

    pub number_small : b < 128 → told s (Ok (record { value = b; next = record { at = i + 1 } })) ≡ read_on 0 1 (drop i s)
    unfolding told
    number_small l = rw byte-here (sym (on-last 0 1 b (drop (i + 1) s) l ∙ alone b (drop (i + 1) s) l))

    module _ (l : 128 ≤ b) where
      pub number_more : (r : Result Number Unread) → told s r ≡ read_on (b - 128) 128 (drop (i + 1) s) → told s r ≡ read_on 0 1 (drop i s)
      number_more r m = m ∙ sym (rw (byte-here, on-more 0 1 b (drop (i + 1) s) l (λ q. omega arith), zero-add, one-mul (b - 128)) refl)

-- nothing is read yet, and the answer of the last group
pub none-begun : Resumes (Err (Cut (record { sum = 0; unit = 1 })))
none-begun = record { past = 0; few = omega arith; unit = refl; small = omega arith }

pub ends-resumes : (g : Begun) (b next : ℕ) (r : Result Number Unread) → Ends g b next r → Resumes r
ends-resumes g b next r e = e.resumes

-- the number from i on, after the groups of h, is the number from `at` on, after those of g
pub record Rest (s : List ℕ) (g : Begun) (at : ℕ) (h : Begun) (i : ℕ) : Type 0 where
  pub begins : Begins h
  pub number : read_on h.sum h.unit (drop i s) ≡ read_on g.sum g.unit (drop at s)

module _ (s : List ℕ) (g : Begun) (at : ℕ) where
  module _ (h : Begun) (i : ℕ) (w : Rest s g at h i) where
    pub rest-resumes : Resumes (Err (Cut h))
    rest-resumes = w.begins

    pub rest-cut : length s ≤ i → told s (Err (Cut h)) ≡ read_on g.sum g.unit (drop at s)
    rest-cut l = cut_at s i h l ∙ w.number

    module _ (b : ℕ) (e : b ≡ get_or s i 0) (k : i < length s) where
      pub rest-ends : b < 128 → (r : Result Number Unread) → Ends h b (i + 1) r → told s r ≡ read_on g.sum g.unit (drop at s)
      rest-ends l r m = m.number s ∙ rw (byte-here s i b e k, on-last h.sum h.unit b (drop (i + 1) s) l) at w.number

      module _ (l : 128 ≤ b) where
        pub rest_over : h.unit ≡ last_unit → told s (Err Broken) ≡ read_on g.sum g.unit (drop at s)
        unfolding told
        rest_over q = rw (byte-here s i b e k, on-over h.sum h.unit b (drop (i + 1) s) l q) at w.number

        module _ (byte : b < 256) (n : ¬ (h.unit ≡ last_unit)) where
          product : h.unit * (b - 128) ≤ h.unit * 127
          product = mul-le-mul_left {m = b - 128} {n = 127} h.unit (omega arith)

          below : h.unit ≤ 0x20_0000
          below = (unit-more h w.begins n).1

          pub group-fits : Fits w32 (h.unit * (b - 128))
          group-fits = record { fits = omega (arith, product, below) }

          pub sum_fits : Fits w32 (h.sum + h.unit * (b - 128))
          sum_fits = record { fits = omega (arith, product, below, w.begins.small) }

          pub unit-fits : Fits w32 (h.unit * 128)
          unit-fits = record { fits = omega (arith, below) }

          -- a group with more after it
          pub rest-next : Rest s g at (record { sum = h.sum + h.unit * (b - 128); unit = h.unit * 128 }) (i + 1)
          rest-next = record {
            begins = record {
              past = suc w.begins.past;
              few = omega (arith, (unit-more h w.begins n).0);
              unit = rw pow-suc (ap (λ (u : ℕ). u * 128) w.begins.unit);
              small = omega (arith, product, w.begins.small);
            };
            number = rw (byte-here s i b e k, on-more h.sum h.unit b (drop (i + 1) s) l n) at w.number;
          }

-- ---- how many groups a number has

pub length-one : (v : ℕ) → v < 128 → 1 ≡ length (encode v)
length-one v h = rw (encode-small v h)

pub length_more : (k v : ℕ) → 128 ^ suc k ≤ v → v < 128 ^ suc (suc k) → v < 2 ^ 32 → suc (suc k) ≡ length (encode v)
length_more zero v l h f = rw (encode-big v l f) (ap suc (length-one (v / 128) (omega arith)))
length_more (suc k) v l h f =
    let low : 128 ≤ v = omega (arith, simp pow-suc at l, one-le-pow k 128 (omega arith)) in
    rw (encode-big v low f) (ap suc (length_more k (v / 128) (omega (arith, simp pow-suc at l)) (omega (arith, simp pow-suc at h)) (omega arith)))

-- ---- writing

-- x is left to write from i on, and that gives what was to be written of v from `at` on in b
pub record Left (b : List ℕ) (at v : ℕ) (buf : List ℕ) (x i : ℕ) : Type 0 where
  pub bytes : sets buf i (encode x) ≡ sets b at (encode v)
  pub place : i + length (encode x) ≡ at + length (encode v)
  pub same : length buf ≡ length b
  pub room : i + length (encode x) ≤ length buf
  pub inside : i < length buf
  pub fits : x < 2 ^ 32

module _ (b : List ℕ) (at v : ℕ) where
  pub left-all : at + length (encode v) ≤ length b → v < 2 ^ 32 → Left b at v b v at
  left-all h f = record { bytes = refl; place = refl; same = refl; room = h; inside = omega (arith, encode-pos v); fits = f }

  module _ (buf : List ℕ) (x i : ℕ) (w : Left b at v buf x i) where
    -- a group is written
    pub left-group : 128 ≤ x → Left b at v (set buf i (x % 128 + 128)) (x / 128) (i + 1)
    left-group big =
        let e : encode x ≡ (x % 128 + 128) ∷ encode (x / 128) = encode-big x big w.fits in
        record {
          bytes = rw add-one (rw e at w.bytes);
          place = omega (arith, rw e at w.place);
          same = rw length-set w.same;
          room = rw length-set (omega (arith, rw e at w.room));
          inside = rw length-set (omega (arith, encode-pos (x / 128), rw e at w.room));
          fits = omega arith;
        }

    -- the last group is written
    pub last-place : x < 128 → i + 1 ≡ at + length (encode v)
    last-place h = omega (arith, rw (encode-small x h) at w.place)

    pub last-bytes : x < 128 → set buf i x ≡ sets b at (encode v)
    last-bytes h = rw (encode-small x h) at w.bytes
