-- Which interrupts of a word a view has: all, none, or the 28 before ID 1020.
use Prim.Native.Nat.{ℕ, ◌+◌, ◌*◌, ◌/◌, ◌%◌, ◌^◌, ◌<◌}
use mathlib.Core.Path.{◌≡◌, refl, sym, ap}
use mathlib.Core.Bool as bool
use mathlib.Core.Bool.{Bool, true, false, not, ◌&&◌}
use mathlib.Core.List.{List}
use native.Mathlib.Omega.{arith}
use borrow.Author.Tests.{lt-ltb, ltb-true, le-leb}
use lib.Dec.{leb, ltb}
use lib.Bits.{bit_and, and_mask}
use Rattle.model.specs.Words.{bit, gather}
use Rattle.model.specs.Layout.{count}
use Rattle.model.specs.Interrupts.{is_private, is_spi}
use Rattle.model.specs.Registers.{banks, has}
use Rattle.model.specs.declared.View.{View}
use Rattle.model.specs.declared.View.TheVariants.{Distributor, Frame}
use Rattle.model.proofs.Bits.{gather-same, gather-lt, bit-gather, bit-mod, bit-shift, word-is}
use Rattle.model.proofs.Fields.{spi-within, within-spi, banks-most}
use Rattle.model.proofs.Tests.{both, and-true, same_test}
use Rattle.words.proofs.Expressions.{gathers, gathered, same_bits, ands, ones-from}
use Rattle.registers.specs.Words.{flags_meant, priorities_meant, edges_meant}

past-true : (a b : Bool) → (a && true && b) ≡ (a && b)
past-true a b = ap (λ (t : Bool). t && b) (bool.and-true a)

-- 32 flags are below 2 ^ 32
flags-lt : (s : List ℕ) (x : View) (k : ℕ) → flags_meant s x 0 k < 2 ^ 32
unfolding flags_meant
flags-lt s x k = gather-lt 32 (λ j. has s x (32 * k + j) && leb 0 (32 * k + j))

-- ---- where the count is a multiple of 32

module _ (s : List ℕ) (step : count s % 32 ≡ 0) where
  -- a view has all or none of four interrupts
  pub four-alike : (x : View) (a b : ℕ) → a / 4 ≡ b / 4 → has s x a ≡ has s x b
  unfolding has is_private
  four-alike Distributor a b e =
      same_test (is_spi s a) (is_spi s b) (λ h. within-spi s b (omega (arith, spi-within s a h)) (omega (arith, spi-within s a h)))
      (λ h. within-spi s a (omega (arith, spi-within s b h)) (omega (arith, spi-within s b h)))
  four-alike (Frame v) a b e = same_test (ltb a 32) (ltb b 32) (λ h. lt-ltb b 32 (omega (arith, ltb-true a 32 h))) (λ h. lt-ltb a 32 (omega (arith, ltb-true b 32 h)))

  -- of 32 it has those below 1020, or none
  pub word-alike : (x : View) (k i : ℕ) → k < banks x → i < 32 → has s x (32 * k + i) ≡ (has s x (32 * k) && ltb (32 * k + i) 1020)
  unfolding has is_private banks
  word-alike Distributor k i l m =
      same_test (is_spi s (32 * k + i)) (is_spi s (32 * k) && ltb (32 * k + i) 1020)
      (λ h. and-true (within-spi s (32 * k) (omega (arith, spi-within s (32 * k + i) h)) (omega (arith, spi-within s (32 * k + i) h))) (lt-ltb (32 * k + i) 1020 (omega (arith, spi-within s (32 * k + i) h))))
      (λ h. let p = both (is_spi s (32 * k)) (ltb (32 * k + i) 1020) h in
      let q = spi-within s (32 * k) p.0 in
      within-spi s (32 * k + i) (omega arith) (omega (arith, ltb-true (32 * k + i) 1020 p.1)))
  word-alike (Frame v) k i l m = rw (lt-ltb (32 * k + i) 32 (omega arith), lt-ltb (32 * k) 32 (omega arith), lt-ltb (32 * k + i) 1020 (omega arith))

  -- ---- 32 flags

  module _ (x : View) (k : ℕ) (l : k < banks x) where
    all_from : (from : ℕ) → flags_meant s x from k ≡ gather 32 (λ i. has s x (32 * k) && ltb (32 * k + i) 1020 && leb from (32 * k + i))
    unfolding flags_meant
    all_from from = gather-same 32 _ _ (λ i m. ap (λ (t : Bool). t && leb from (32 * k + i)) (word-alike x k i l m))

    pub none-meant : has s x (32 * k) ≡ false → flags_meant s x 0 k ≡ 0
    unfolding gather
    none-meant e = rw (all_from 0, e)

    pub last-meant : has s x (32 * k) ≡ true → k ≡ 31 → flags_meant s x 0 k ≡ 0x0fffffff
    unfolding gather
    last-meant e q = rw (all_from 0, e, q)

    pub all-meant : has s x (32 * k) ≡ true → k < 31 → flags_meant s x 0 k ≡ 0xffffffff
    unfolding gather
    all-meant e n = rw (all_from 0, e) (gather-same 32 (λ i. ltb (32 * k + i) 1020 && leb 0 (32 * k + i)) (λ i. true) (λ i m. rw (lt-ltb (32 * k + i) 1020 (omega arith), le-leb 0 (32 * k + i) (omega arith))))

    -- those from `from` on
    pub from-least : (from : ℕ) → from < 32 → k ≡ 0 → flags_meant s x from k ≡ bit_and (flags_meant s x 0 k) (0xffffffff * 2 ^ from % 2 ^ 32)
    unfolding flags_meant
    from-least from h z = sym (gathers (same_bits at (ands (gathered _ refl) (ones-from h))))
      where
        at : (i : ℕ) → i < 32 → ((has s x (32 * k + i) && leb 0 (32 * k + i)) && leb from i) ≡ (has s x (32 * k + i) && leb from (32 * k + i))
        at i j = let q : 32 * k + i ≡ i = omega arith in rw (q, le-leb 0 i (omega arith)) (past-true (has s x i) (leb from i))

    pub from_all : (from : ℕ) → from < 32 → 0 < k → flags_meant s x from k ≡ flags_meant s x 0 k
    unfolding flags_meant
    from_all from h n = gather-same 32 _ _ (λ i j. rw (le-leb 0 (32 * k + i) (omega arith), le-leb from (32 * k + i) (omega arith)))

  -- ---- four priorities

  fours : (x : View) (k : ℕ) → priorities_meant s x k ≡ gather 32 (λ i. has s x (4 * k))
  unfolding priorities_meant
  fours x k = gather-same 32 _ _ (λ i m. four-alike x (4 * k + i / 8) (4 * k) (omega arith))

  pub four-meant : (x : View) (k : ℕ) → has s x (4 * k) ≡ true → priorities_meant s x k ≡ 0xffffffff
  unfolding gather
  four-meant x k h = rw (fours x k, h)

  pub no-four : (x : View) (k : ℕ) → has s x (4 * k) ≡ false → priorities_meant s x k ≡ 0
  unfolding gather
  no-four x k h = rw (fours x k, h)

  -- ---- sixteen edge flags: a half of the 32

  module _ (x : View) (k : ℕ) where
    half : (i : ℕ) → i < 32 → bit (flags_meant s x 0 (k / 2)) i ≡ has s x (32 * (k / 2) + i)
    unfolding flags_meant
    half i l = rw (bit-gather 32 (λ j. has s x (32 * (k / 2) + j) && leb 0 (32 * (k / 2) + j)) i l, le-leb 0 (32 * (k / 2) + i) (omega arith)) (bool.and-true (has s x (32 * (k / 2) + i)))

    pub low_half : k % 2 ≡ 0 → edges_meant s x k ≡ bit_and (flags_meant s x 0 (k / 2)) 0xffff
    unfolding edges_meant
    low_half z =
        let m : ℕ = flags_meant s x 0 (k / 2) in
        sym (rw (and_mask m 16) (word-is 16 (m % 2 ^ 16) _ (omega arith) (λ i l. let q : 32 * (k / 2) + i ≡ 16 * k + i = omega arith in rw (bit-mod 16 m i l, half i (omega arith), q))))

    pub high_half : k % 2 ≡ 1 → edges_meant s x k ≡ flags_meant s x 0 (k / 2) / 65536
    unfolding edges_meant
    high_half z =
        let m : ℕ = flags_meant s x 0 (k / 2) in
        sym (word-is 16 (m / 65536) _ (omega (arith, flags-lt s x (k / 2)))
        (λ i l. let q : 32 * (k / 2) + (16 + i) ≡ 16 * k + i = omega arith in rw (bit-shift m 16 i, half (16 + i) (omega arith), q)))

-- ---- the rules by which the code's masks are these

-- a view has at most 32 banks
pub ruleset thirty_two = (banks-most, none-meant, last-meant, all-meant)

pub ruleset least = (from-least, from_all)

pub ruleset four = (banks-most, four-meant, no-four)

pub ruleset half_of = (low_half, high_half)
