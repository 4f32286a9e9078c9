-- The machine's `|`, `&`, `!` and `<<` on words, bit by bit.
use Prim.Native.Nat.{ℕ, zero, suc, ◌+◌, ◌*◌, ◌-◌, ◌/◌, ◌%◌, ◌^◌, ◌≤◌, ◌<◌, min, max}
use mathlib.Core.Path.{◌≡◌, refl, sym, ap, ◌∙◌}
use mathlib.Core.Bool.{Bool, true, false, not, ◌&&◌, ◌||◌, cond, false≢true, or-false}
use native.Mathlib.Nat.{mod-eq_of_lt, mul-mod_left, one-mul, pow-suc}
use native.Mathlib.Decide.{dec_lt}
use native.Mathlib.Omega.{arith}
use borrow.Author.Tests.{eq-eqb, ne_eqb, lt-ltb, le-ltb}
use lib.Dec.{eqb, ltb}
use lib.Bits.{bit_and, bit_or, and_shr, or_shr, and_step, or_step}
use lib.Pow.{shl-shr, pow-lt, pow_mono}
use Rattle.model.specs.Words.{val, bit, gather}
use Rattle.model.proofs.Bits.{val-bit, gather-lt, gather-bits, bit-mod, bit-gather, bit-shift, bit_below, word-is}
use Rattle.model.proofs.Within.{bit-none}
use Rattle.model.proofs.Tests.{same_test}

-- ---- and, or, not

or-val : (p q : Bool) → eqb (max (val p) (val q)) 1 ≡ (p || q)
or-val true true = refl
or-val true false = refl
or-val false true = refl
or-val false false = refl

and-val : (p q : Bool) → eqb (min (val p) (val q)) 1 ≡ (p && q)
and-val true true = refl
and-val true false = refl
and-val false true = refl
and-val false false = refl

pub bit-or : (a b i : ℕ) → bit (bit_or a b) i ≡ (bit a i || bit b i)
unfolding bit
bit-or a b i =
    let e : bit_or a b / 2 ^ i % 2 ≡ max (val (bit a i)) (val (bit b i)) =
    rw (or_shr, val-bit a i, val-bit b i) (omega (arith, or_step (a / 2 ^ i) (b / 2 ^ i))) in
    ap (λ (x : ℕ). eqb x 1) e ∙ or-val (bit a i) (bit b i)

pub bit-and : (a b i : ℕ) → bit (bit_and a b) i ≡ (bit a i && bit b i)
unfolding bit
bit-and a b i =
    let e : bit_and a b / 2 ^ i % 2 ≡ min (val (bit a i)) (val (bit b i)) =
    rw (and_shr, val-bit a i, val-bit b i) (omega (arith, and_step (a / 2 ^ i) (b / 2 ^ i))) in
    ap (λ (x : ℕ). eqb x 1) e ∙ and-val (bit a i) (bit b i)

-- a word and its complement have each bit once
both-sum : (n : ℕ) (f : ℕ → Bool) → gather n f + gather n (λ i. not (f i)) + 1 ≡ 2 ^ n
unfolding gather
both-sum zero f = refl
both-sum (suc n) f = step (gather n f) (gather n (λ i. not (f i))) (f n) (both-sum n f) (pow-suc 2 n)
  where
    step : (g h : ℕ) {p q : ℕ} (b : Bool) → g + h + 1 ≡ p → q ≡ p * 2 → g + val b * p + (h + val (not b) * p) + 1 ≡ q
    step g h true e k = omega arith
    step g h false e k = omega arith

pub bit_not : (a i : ℕ) → a < 2 ^ 32 → i < 32 → bit (0xffffffff - a) i ≡ not (bit a i)
bit_not a i h l =
    let e : 0xffffffff - a ≡ gather 32 (λ j. not (bit a j)) = omega (arith, both-sum 32 (bit a), gather-bits 32 a, mod-eq_of_lt h) in
    rw e (bit-gather 32 (λ j. not (bit a j)) i l)

-- ---- numbers of few bits

-- a number of n bits has no other
pub bit-above : (n w i : ℕ) → w < 2 ^ n → n ≤ i → bit w i ≡ false
bit-above n w i h l = same_test (bit w i) false (λ b. absurd (omega (arith, bit_below n w i h b))) (λ e. absurd (false≢true e))

-- bits that are all clear from n on need not be gathered
pub gather-short : (m n : ℕ) (f : ℕ → Bool) → n ≤ m → ((i : ℕ) → n ≤ i → i < m → f i ≡ false) → gather m f ≡ gather n f
gather-short m n f h e = sym (word-is m (gather n f) f (omega (arith, gather-lt n f, pow_mono h)) (λ i l. at i l (dec_lt i n)))
  where
    at : (i : ℕ) → i < m → Dec (i < n) → bit (gather n f) i ≡ f i
    at i l (yes p) = bit-gather n f i p
    at i l (no p) = bit-above n (gather n f) i (gather-lt n f) (omega arith) ∙ sym (e i (omega arith) l)

-- ---- shifts to the left; `bit-shift` of the model is the shift to the right

pub bit-shl-low : (k i a : ℕ) → i < k → bit (a * 2 ^ k) i ≡ false
bit-shl-low k i a h = sym (bit-mod k (a * 2 ^ k) i h) ∙ ap (λ (x : ℕ). bit x i) (mul-mod_left a (2 ^ k)) ∙ bit-none i

pub bit-shl-high : (k i a : ℕ) → bit (a * 2 ^ k) (k + i) ≡ bit a i
bit-shl-high k i a = sym (bit-shift (a * 2 ^ k) k i) ∙ ap (λ (x : ℕ). bit x i) (shl-shr a k)

one-is : (k : ℕ) → k < 32 → 1 * 2 ^ k % 2 ^ 32 ≡ gather 32 (λ i. eqb i k)
unfolding gather
one-is k h =
    let f : ℕ → Bool = λ i. eqb i k in
    let none : gather k f ≡ 0 = gather-short k 0 f (omega arith) (λ i p l. ne_eqb i k (λ e. omega arith)) in
    let here : gather (suc k) f ≡ 2 ^ k = rw (none, eq-eqb k k refl) (omega arith) in
    rw (one-mul (2 ^ k), mod-eq_of_lt (pow-lt h)) (sym here ∙ sym (gather-short 32 (suc k) f (omega arith) (λ i p l. ne_eqb i k (λ e. omega arith))))

pub bit-one : (k i : ℕ) → k < 32 → i < 32 → bit (1 * 2 ^ k % 2 ^ 32) i ≡ eqb i k
bit-one k i h l = rw (one-is k h) (bit-gather 32 (λ j. eqb j k) i l)

-- two halves put together: the low 16 bits of lo, and hi shifted by 16
pub bit-halves : (lo hi i : ℕ) → i < 32 → bit (bit_or (lo % 65536) (hi * 2 ^ 16 % 2 ^ 32)) i ≡ bit (cond (ltb i 16) lo hi) (i % 16)
bit-halves lo hi i l =
    bit-or (lo % 65536) (hi * 2 ^ 16 % 2 ^ 32) i ∙ ap (λ (t : Bool). bit (lo % 65536) i || t) (bit-mod 32 (hi * 2 ^ 16) i l) ∙ at (dec_lt i 16)
  where
    at : Dec (i < 16) → (bit (lo % 65536) i || bit (hi * 2 ^ 16) i) ≡ bit (cond (ltb i 16) lo hi) (i % 16)
    at (yes h) =
        let e : i % 16 ≡ i = omega arith in
        rw (lt-ltb i 16 h, e, bit-mod 16 lo i h, bit-shl-low 16 i hi h) (or-false (bit lo i))
    at (no h) =
        let e : i ≡ 16 + i % 16 = omega arith in
        rw (le-ltb i 16 (omega arith), bit-above 16 (lo % 65536) i (omega arith) (omega arith))
        (ap (bit (hi * 2 ^ 16)) e ∙ bit-shl-high 16 (i % 16) hi)
