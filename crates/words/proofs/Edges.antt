-- The edge flags of 16 interrupts put into a word of ICFGR, and taken out of it, one a turn.
use Prim.Native.Nat.{ℕ, suc, ◌+◌, ◌*◌, ◌/◌, ◌%◌, ◌^◌, ◌≤◌, ◌<◌}
use mathlib.Core.Path.{◌≡◌, refl, sym, ap, ◌∙◌}
use mathlib.Core.Bool.{Bool, ◌&&◌}
use native.Mathlib.Nat.{add_comm}
use native.Mathlib.Numerals.{add-one}
use native.Mathlib.Omega.{arith}
use lib.Bits.{bit_or, or_shifted_r}
use lib.Dec.{eqb}
use lib.Pow.{shl_exact}
use Rattle.model.specs.Words.{val, bit, gather, spread}
use Rattle.model.proofs.Bits.{val-lt, val-bit, gather-lt}
use Rattle.words.specs.Words.{collect}
use Rattle.words.proofs.Operators.{gather-short}

-- bit j of w put at place n, above the n bits that are gathered
grown : (n : ℕ) (f : ℕ → Bool) (w j : ℕ) → n < 32 → bit w j ≡ f n → bit_or (gather n f) (w / 2 ^ j % 2 * 2 ^ n % 2 ^ 32) ≡ gather (suc n) f
unfolding gather
grown n f w j h e =
    let d : w / 2 ^ j % 2 ≡ val (f n) = sym (val-bit w j) ∙ ap val e in
    let k : val (f n) * 2 ^ n % 2 ^ 32 ≡ val (f n) * 2 ^ n = shl_exact {a = val (f n)} 1 n 32 (val-lt (f n)) (omega arith) in
    rw (d, k, or_shifted_r (val (f n)) n (gather n f) (gather-lt n f)) (add_comm (val (f n) * 2 ^ n) (gather n f))

-- ---- into ICFGR: two bits a turn, the lower one clear

-- the bits of `spread`
abbrev pub config_bit : ℕ → ℕ → Bool
config_bit e i = eqb (i % 2) 1 && bit e (i / 2)

pub spread_none : (e : ℕ) → 0 ≡ gather (2 * 0) (config_bit e)
unfolding gather
spread_none e = refl

pub spread-more : (e i r : ℕ) → i < 16 → r ≡ gather (2 * i) (config_bit e) → bit_or r (e / 2 ^ i % 2 * 2 ^ (2 * i + 1) % 2 ^ 32) ≡ gather (2 * (i + 1)) (config_bit e)
spread-more e i r h q =
    let next : 2 * (i + 1) ≡ suc (2 * i + 1) = omega arith in
    let odd : (2 * i + 1) % 2 ≡ 1 = omega arith in
    let half : (2 * i + 1) / 2 ≡ i = omega arith in
    let lower : r ≡ gather (2 * i + 1) (config_bit e) =
    q ∙ sym (gather-short (2 * i + 1) (2 * i) (config_bit e) (omega arith) (λ j p l. let even : j % 2 ≡ 0 = omega arith in rw even)) in
    rw (lower, next) (grown (2 * i + 1) (config_bit e) e i (omega arith) (rw (odd, half)))

pub spread-done : (e i r : ℕ) → 16 ≤ i → i ≤ 16 → r ≡ gather (2 * i) (config_bit e) → r ≡ spread e
unfolding spread
spread-done e i r h k q = let all : 2 * i ≡ 32 = omega arith in rw all at q

-- ---- out of ICFGR

-- the bits of `collect`
abbrev pub upper_bit : ℕ → ℕ → Bool
upper_bit x i = bit x (2 * i + 1)

pub collect-none : (x : ℕ) → 0 ≡ gather 0 (upper_bit x)
unfolding gather
collect-none x = refl

pub collect-more : (x i r : ℕ) → i < 16 → r ≡ gather i (upper_bit x) → bit_or r (x / 2 ^ (2 * i + 1) % 2 * 2 ^ i % 2 ^ 32) ≡ gather (i + 1) (upper_bit x)
collect-more x i r h q = rw (q, add-one i) (grown i (upper_bit x) x (2 * i + 1) (omega arith) refl)

pub collect-done : (x i r : ℕ) → 16 ≤ i → i ≤ 16 → r ≡ gather i (upper_bit x) → r ≡ collect x
unfolding collect
collect-done x i r h k q = let all : i ≡ 16 = omega arith in rw all at q
