-- The laws of numbers in seven-bit groups: what is encoded is decoded, and nothing else is.
use Prim.Native.Nat.{ℕ, zero, suc, ◌+◌, ◌-◌, ◌*◌, ◌/◌, ◌%◌, ◌^◌, ◌<◌, ◌≤◌}
use mathlib.Core.Path.{◌≡◌, refl, sym, ap, ◌∙◌}
use mathlib.Core.List.{List, [], ◌∷◌, ◌++◌}
use mathlib.Core.Bool.{Bool, true, false, cond, ◌&&◌}
use native.Mathlib.Omega.{arith}
use native.Mathlib.Nat.{pow-suc}
use borrow.Author.Tests.{lt-ltb, le-ltb, ltb-true, ltb-false}
use lib.Dec.{ltb}
use lib.ListN.{length, get_or}
use lib.Seq.{get_or-append-add}
use Rattle.model.specs.Record.{groups_of, encode, Number, decoded, broken, more, read_groups, decode_number}
use Rattle.model.proofs.Tests.{both}

-- ---- one group, or one and more

groups-small : (k n : ℕ) → n < 128 → groups_of k n ≡ n ∷ []
unfolding groups_of
groups-small zero n h = refl
groups-small (suc k) n h = rw (lt-ltb n 128 h, groups_of)

groups-big : (k n : ℕ) → 128 ≤ n → groups_of (suc k) n ≡ (n % 128 + 128) ∷ groups_of k (n / 128)
unfolding groups_of
groups-big k n h = rw (le-ltb n 128 h, groups_of)

pub read_small : (k b : ℕ) (r : List ℕ) → b < 128 → read_groups (suc k) (b ∷ r) ≡ decoded b r
unfolding read_groups
read_small k b r h = rw (lt-ltb b 128 h, read_groups)

pub read-big : (k b : ℕ) (r : List ℕ) → 128 ≤ b → read_groups (suc k) (b ∷ r) ≡ more b (read_groups k r)
unfolding read_groups
read-big k b r h = rw (le-ltb b 128 h, read_groups)

-- to allow more groups than a number has changes nothing
groups-more : (k n : ℕ) → n < 128 ^ suc k → groups_of k n ≡ groups_of (suc k) n
groups-more zero n h =
    let l : n < 128 = h in
    groups-small 0 n l ∙ sym (groups-small 1 n l)
groups-more (suc k) n h = cases (groups-more k (n / 128) (omega (arith, simp pow-suc at h))) (ltb n 128) refl
  where
    cases : groups_of k (n / 128) ≡ groups_of (suc k) (n / 128) → (t : Bool) → ltb n 128 ≡ t → groups_of (suc k) n ≡ groups_of (suc (suc k)) n
    cases ih true e = let l : n < 128 = ltb-true n 128 e in groups-small (suc k) n l ∙ sym (groups-small (suc (suc k)) n l)
    cases ih false e =
        let l : 128 ≤ n = ltb-false n 128 e in
        groups-big k n l ∙ ap (λ (g : List ℕ). (n % 128 + 128) ∷ g) ih ∙ sym (groups-big (suc k) n l)

-- ---- a number is decoded from its own groups

pub more_of : (b v : ℕ) (r : List ℕ) → 0 < v → b - 128 + 128 * v < 2 ^ 32 → more b (decoded v r) ≡ decoded (b - 128 + 128 * v) r
unfolding more
more_of b v r p h = rw (lt-ltb 0 v p, lt-ltb (b - 128 + 128 * v) (2 ^ 32) h)

read-groups : (k n : ℕ) (r : List ℕ) → n < 128 ^ suc k → n < 2 ^ 32 → read_groups (suc k) (groups_of k n ++ r) ≡ decoded n r
read-groups zero n r h f =
    let l : n < 128 = h in
    rw (groups-small 0 n l) (read_small 0 n r l)
read-groups (suc k) n r h f =
    cases (read-groups k (n / 128) r (omega (arith, simp pow-suc at h)) (omega arith)) (ltb n 128) refl
  where
    cases : read_groups (suc k) (groups_of k (n / 128) ++ r) ≡ decoded (n / 128) r → (t : Bool) → ltb n 128 ≡ t
        → read_groups (suc (suc k)) (groups_of (suc k) n ++ r) ≡ decoded n r
    cases ih true e = let l : n < 128 = ltb-true n 128 e in rw (groups-small (suc k) n l) (read_small (suc k) n r l)
    cases ih false e =
        let l : 128 ≤ n = ltb-false n 128 e in
        let back : n % 128 + 128 - 128 + 128 * (n / 128) ≡ n = omega arith in
        rw (groups-big k n l)
        (read-big (suc k) (n % 128 + 128) (groups_of k (n / 128) ++ r) (omega arith)
        ∙ ap (more (n % 128 + 128)) ih
        ∙ rw back at (more_of (n % 128 + 128) (n / 128) r (omega arith) (omega arith)))

-- ---- what is decoded was made by encoding

-- every element is a byte
abbrev pub Bytes : List ℕ → Type 0
Bytes s = (i : ℕ) → get_or s i 0 < 256

bytes-tail : (b : ℕ) (s : List ℕ) → Bytes (b ∷ s) → Bytes s
bytes-tail b s h i = h (suc i)

pub bytes_rest : (s t : List ℕ) → Bytes (s ++ t) → Bytes t
bytes_rest s t h i = rw (get_or-append-add s t i 0) at (h (length s + i))

pub bytes-join : (s t : List ℕ) → Bytes s → Bytes t → Bytes (s ++ t)
bytes-join [] t g h i = h i
bytes-join (b ∷ s) t g h zero = g 0
bytes-join (b ∷ s) t g h (suc i) = bytes-join s t (bytes-tail b s g) h i

pub read_none : (s : List ℕ) → read_groups 0 s ≡ broken
unfolding read_groups
read_none [] = refl
read_none (b ∷ s) = refl

-- what a byte with more after it can have given
abbrev Given : ℕ → Number → ℕ → List ℕ → Type 0
Given b d v r = (u : ℕ) × (d ≡ decoded u r) × (0 < u) × (v ≡ b - 128 + 128 * u) × (v < 2 ^ 32)

more-value : (b : ℕ) (d : Number) {v : ℕ} {r : List ℕ} → more b d ≡ decoded v r → Given b d v r
unfolding more
more-value b broken e = let z : ◌≡◌ {A = ℕ} 0 1 = cc in absurd (omega arith)
more-value b (decoded u t) {v} {r} e = cases (ltb 0 u && ltb (b - 128 + 128 * u) (2 ^ 32)) refl e
  where
    cases : (c : Bool) → (ltb 0 u && ltb (b - 128 + 128 * u) (2 ^ 32)) ≡ c → cond c (decoded (b - 128 + 128 * u) t) broken ≡ decoded v r → Given b (decoded u t) v r
    cases true q e =
        let p = both (ltb 0 u) (ltb (b - 128 + 128 * u) (2 ^ 32)) q in
        let ev : b - 128 + 128 * u ≡ v = cc in
        let et : t ≡ r = cc in
        (u, ap (decoded u) et, ltb-true 0 u p.0, sym ev, omega (arith, ltb-true (b - 128 + 128 * u) (2 ^ 32) p.1))
    cases false q e = let z : ◌≡◌ {A = ℕ} 0 1 = cc in absurd (omega arith)

abbrev Made : ℕ → List ℕ → ℕ → List ℕ → Type 0
Made k s v r = (s ≡ groups_of k v ++ r) × (v < 2 ^ 32)

only-small : (k b : ℕ) (s : List ℕ) {v : ℕ} {r : List ℕ} → b < 128 → read_groups (suc k) (b ∷ s) ≡ decoded v r → Made k (b ∷ s) v r
only-small k b s {v} {r} l e =
    let u : decoded b s ≡ decoded v r = sym (read_small k b s l) ∙ e in
    let eb : b ≡ v = cc in
    let er : s ≡ r = cc in
    (rw (← eb, ← er, groups-small k b l) refl, omega arith)

read_only : (k : ℕ) (s : List ℕ) {v : ℕ} {r : List ℕ} → Bytes s → read_groups (suc k) s ≡ decoded v r → Made k s v r
unfolding read_groups
read_only k [] h e = let z : ◌≡◌ {A = ℕ} 0 1 = cc in absurd (omega arith)
read_only zero (b ∷ s) {v} {r} h e = cases (ltb b 128) refl
  where
    cases : (t : Bool) → ltb b 128 ≡ t → Made zero (b ∷ s) v r
    cases true q = only-small 0 b s (ltb-true b 128 q) e
    cases false q =
        let g : Given b broken v r = more-value b broken (rw (read_none s) at (sym (read-big 0 b s (ltb-false b 128 q)) ∙ e)) in
        let z : ◌≡◌ {A = ℕ} 0 1 = cc g.1 in absurd (omega arith)
read_only (suc k) (b ∷ s) {v} {r} h e = cases (λ u. read_only k s (bytes-tail b s h)) (ltb b 128) refl
  where
    cases : ((u : ℕ) → read_groups (suc k) s ≡ decoded u r → Made k s u r) → (t : Bool) → ltb b 128 ≡ t → Made (suc k) (b ∷ s) v r
    cases ih true q = only-small (suc k) b s (ltb-true b 128 q) e
    cases ih false q =
        let l : 128 ≤ b = ltb-false b 128 q in
        let g : Given b (read_groups (suc k) s) v r = more-value b (read_groups (suc k) s) (sym (read-big (suc k) b s l) ∙ e) in
        let m : Made k s g.0 r = ih g.0 g.1 in
        let byte : b < 256 = h 0 in
        let low : v % 128 + 128 ≡ b = omega (arith, g.3) in
        let high : v / 128 ≡ g.0 = omega (arith, g.3) in
        (rw (groups-big k v (omega (arith, g.2, g.3)), low, high) (ap (λ (x : List ℕ). b ∷ x) m.0), g.4)

-- ---- the same, of numbers below 2^32

pub encode-small : (n : ℕ) → n < 128 → encode n ≡ n ∷ []
unfolding encode
encode-small n h = groups-small 4 n h

pub encode-big : (n : ℕ) → 128 ≤ n → n < 2 ^ 32 → encode n ≡ (n % 128 + 128) ∷ encode (n / 128)
unfolding encode
encode-big n h f =
    groups-big 3 n h ∙ ap (λ (g : List ℕ). (n % 128 + 128) ∷ g) (groups-more 3 (n / 128) (omega arith))

pub decode-encode : (n : ℕ) (r : List ℕ) → n < 2 ^ 32 → decode_number (encode n ++ r) ≡ decoded n r
unfolding encode decode_number
decode-encode n r h = read-groups 4 n r (omega arith) h

pub decode-only : (s : List ℕ) {v : ℕ} {r : List ℕ} → Bytes s → decode_number s ≡ decoded v r → (s ≡ encode v ++ r) × (v < 2 ^ 32)
unfolding encode decode_number
decode-only s h e = read_only 4 s h e

-- ---- a number has one to five groups

groups-pos : (k n : ℕ) → 0 < length (groups_of k n)
unfolding groups_of
groups-pos zero n = omega arith
groups-pos (suc k) n = cases (ltb n 128) refl
  where
    cases : (t : Bool) → ltb n 128 ≡ t → 0 < length (groups_of (suc k) n)
    cases true e = rw (groups-small (suc k) n (ltb-true n 128 e)) (omega arith)
    cases false e = rw (groups-big k n (ltb-false n 128 e)) (omega arith)

pub encode-pos : (n : ℕ) → 0 < length (encode n)
unfolding encode
encode-pos n = groups-pos 4 n

groups-short : (k n : ℕ) → length (groups_of k n) ≤ suc k
unfolding groups_of
groups-short zero n = omega arith
groups-short (suc k) n = cases (groups-short k (n / 128)) (ltb n 128) refl
  where
    cases : length (groups_of k (n / 128)) ≤ suc k → (t : Bool) → ltb n 128 ≡ t → length (groups_of (suc k) n) ≤ suc (suc k)
    cases ih true e = rw (groups-small (suc k) n (ltb-true n 128 e)) (omega arith)
    cases ih false e = rw (groups-big k n (ltb-false n 128 e)) (omega arith)

pub encode-short : (n : ℕ) → length (encode n) ≤ 5
unfolding encode
encode-short n = groups-short 4 n

-- ---- each of them a byte

byte : (b : ℕ) → b < 256 → Bytes (b ∷ [])
byte b h zero = h
byte b h (suc i) = omega arith

groups-bytes : (k n : ℕ) → n < 128 ^ suc k → Bytes (groups_of k n)
groups-bytes zero n h =
    let l : n < 128 = h in
    rw (groups-small 0 n l) (byte n (omega arith))
groups-bytes (suc k) n h = cases (groups-bytes k (n / 128) (omega (arith, simp pow-suc at h))) (ltb n 128) refl
  where
    cases : Bytes (groups_of k (n / 128)) → (t : Bool) → ltb n 128 ≡ t → Bytes (groups_of (suc k) n)
    cases ih true e = let l : n < 128 = ltb-true n 128 e in rw (groups-small (suc k) n l) (byte n (omega arith))
    cases ih false e = rw (groups-big k n (ltb-false n 128 e)) (bytes-join ((n % 128 + 128) ∷ []) (groups_of k (n / 128)) (byte (n % 128 + 128) (omega arith)) ih)

pub encode-bytes : (n : ℕ) → n < 2 ^ 32 → Bytes (encode n)
unfolding encode
encode-bytes n h = groups-bytes 4 n (omega arith)
