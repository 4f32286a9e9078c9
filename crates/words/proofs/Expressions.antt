-- Words of 32 bits that are known bit by bit: the proof for an expression of the code has the expression's shape.
use Prim.Native.Nat.{ℕ, ◌+◌, ◌*◌, ◌-◌, ◌%◌, ◌^◌, ◌≤◌, ◌<◌}
use mathlib.Core.Path.{◌≡◌, refl, sym, ap, ◌∙◌}
use mathlib.Core.Bool.{Bool, true, false, not, cond, ◌&&◌, ◌||◌, and-true, and-false, or-true, or-false}
use native.Mathlib.Decide.{dec_lt}
use native.Mathlib.Omega.{arith}
use borrow.Author.Tests.{le-leb, lt-leb}
use lib.Dec.{eqb, ltb, leb}
use lib.Bits.{bit_and, bit_or, and_lt, or_lt}
use mir.Syntax.{w32}
use mir.Val.{Fits}
use Rattle.model.specs.Words.{bit, gather, all_below}
use Rattle.model.proofs.Bits.{gather-lt, gather-same, gather-bits, bit-gather, bit-mod, word-is}
use Rattle.model.proofs.Tests.{below_at}
use Rattle.words.proofs.Operators.{bit-or, bit-and, bit_not, bit-shl-low, bit-shl-high, bit-one, bit-halves}

-- w is a word, and its bit i is f i
pub record Word (w : ℕ) (f : ℕ → Bool) : Type 0 where
  pub small : w < 2 ^ 32
  pub bits : (i : ℕ) → i < 32 → bit w i ≡ f i

pub gathers : {w : ℕ} {f : ℕ → Bool} → Word w f → w ≡ gather 32 f
gathers {w} {f} h = word-is 32 w f h.small h.bits

pub gathered : {w : ℕ} (f : ℕ → Bool) → w ≡ gather 32 f → Word w f
gathered f e = record { small = rw e (gather-lt 32 f); bits = λ i l. rw e (bit-gather 32 f i l) }

pub itself : {w : ℕ} → Fits w32 w → Word w (bit w)
itself h = record { small = h.fits; bits = λ i l. refl }

-- the same bits, said another way
pub same_bits : {w : ℕ} {f g : ℕ → Bool} → ((i : ℕ) → i < 32 → f i ≡ g i) → Word w f → Word w g
same_bits e h = record { small = h.small; bits = λ i l. h.bits i l ∙ e i l }

-- ---- the operators

pub ors : {a b : ℕ} {f g : ℕ → Bool} → Word a f → Word b g → Word (bit_or a b) (λ i. f i || g i)
ors {a} {b} x y = record { small = or_lt 32 a b x.small y.small; bits = λ i l. bit-or a b i ∙ cc (x.bits i l, y.bits i l) }

pub ands : {a b : ℕ} {f g : ℕ → Bool} → Word a f → Word b g → Word (bit_and a b) (λ i. f i && g i)
ands {a} {b} x y = record { small = and_lt 32 a b x.small y.small; bits = λ i l. bit-and a b i ∙ cc (x.bits i l, y.bits i l) }

pub nots : {a : ℕ} {f : ℕ → Bool} → Word a f → Word (0xffffffff - a) (λ i. not (f i))
nots {a} x = record { small = omega arith; bits = λ i l. bit_not a i x.small l ∙ ap not (x.bits i l) }

pub one_at : {k : ℕ} → k < 32 → Word (1 * 2 ^ k % 2 ^ 32) (λ i. eqb i k)
one_at {k} h = record { small = omega arith; bits = λ i l. bit-one k i h l }

-- the bits from k on
pub ones-from : {k : ℕ} → k < 32 → Word (0xffffffff * 2 ^ k % 2 ^ 32) (leb k)
ones-from {k} h = record { small = omega arith; bits = λ i l. bit-mod 32 (0xffffffff * 2 ^ k) i l ∙ at i l (dec_lt i k) }
  where
    ones : all_below (bit 0xffffffff) 32 ≡ true
    ones = unfold all_below bit in refl

    at : (i : ℕ) → i < 32 → Dec (i < k) → bit (0xffffffff * 2 ^ k) i ≡ leb k i
    at i l (yes m) = bit-shl-low k i 0xffffffff m ∙ sym (lt-leb k i m)
    at i l (no m) =
        let e : i ≡ k + (i - k) = omega arith in
        ap (bit (0xffffffff * 2 ^ k)) e ∙ bit-shl-high k (i - k) 0xffffffff ∙ below_at (bit 0xffffffff) 32 ones (i - k) (omega arith) ∙ sym (le-leb k i (omega arith))

pub halves : (lo hi : ℕ) → Word (bit_or (lo % 65536) (hi * 2 ^ 16 % 2 ^ 32)) (λ i. bit (cond (ltb i 16) lo hi) (i % 16))
halves lo hi = record { small = or_lt 32 (lo % 65536) (hi * 2 ^ 16 % 2 ^ 32) (omega arith) (omega arith); bits = bit-halves lo hi }

-- the n low bits of a word that is known bit by bit
pub low_bits : (n : ℕ) {w : ℕ} {f : ℕ → Bool} → n ≤ 32 → Word w f → w % 2 ^ n ≡ gather n f
low_bits n {w} {f} h x = sym (gather-bits n w) ∙ gather-same n (bit w) f (λ i l. x.bits i (omega arith))

-- ---- a flag w, a bit x written to it, and the mask's bit m

pub keeps : (w m : Bool) → w ≡ cond m w w
keeps w true = refl
keeps w false = refl

pub replaces : (w x m : Bool) → ((w && not m) || (x && m)) ≡ cond m x w
replaces w x true = rw (and-false w, and-true x)
replaces w x false = rw (and-true w, and-false x) (or-false w)

pub sets : (w x m : Bool) → (w || (x && m)) ≡ cond m (w || x) w
sets w x true = rw (and-true x)
sets w x false = rw (and-false x) (or-false w)

pub clears : (w x m : Bool) → (w && not (x && m)) ≡ cond m (w && not x) w
clears w x true = rw (and-true x)
clears w x false = rw (and-false x) (and-true w)

-- the flag itself set or cleared where the mask's bit is set
pub raised : (w m : Bool) → (w || m) ≡ cond m true w
raised w true = or-true w
raised w false = or-false w

pub lowered : (w m : Bool) → (w && not m) ≡ cond m false w
lowered w true = and-false w
lowered w false = and-true w
