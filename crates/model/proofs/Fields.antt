-- The numbers of SPIs, of banks and of interrupt groups, and the fields of an interrupt as bits of the words of its bank.
use Prim.Native.Nat.{ℕ, zero, suc, ◌+◌, ◌*◌, ◌/◌, ◌%◌, ◌^◌, ◌≤◌, ◌<◌, min}
use mathlib.Core.Path.{◌≡◌, refl}
use mathlib.Core.Bool.{true}
use mathlib.Core.List.{List}
use native.Mathlib.Omega.{arith}
use borrow.Author.Tests.{leb-true, le-leb, ltb-true, lt-ltb}
use lib.Dec.{leb, ltb}
use Rattle.model.specs.Words.{bit}
use Rattle.model.specs.Layout.{word, count, bank}
use Rattle.model.specs.Interrupts.{is_spi, flag, edge, priority}
use Rattle.model.specs.Registers.{banks}
use Rattle.model.specs.Interface.{group_index}
use Rattle.model.specs.declared.InterruptGroup.{InterruptGroup}
use Rattle.model.specs.declared.InterruptGroup.TheVariants.{Group0, Group1}
use Rattle.model.specs.declared.View.{View}
use Rattle.model.specs.declared.View.TheVariants.{Distributor, Frame}
use Rattle.model.proofs.Tests.{both, and-true}
use Rattle.model.proofs.Bits.{bit-mod, bit-shift}

-- an SPI is from 32 to below the count and below 1020
pub spi-within : (s : List ℕ) (id : ℕ) → is_spi s id ≡ true → (32 ≤ id) × (id < min (count s) 1020)
unfolding is_spi
spi-within s id e = let p = both (leb 32 id) (ltb id (min (count s) 1020)) e in (leb-true 32 id p.0, ltb-true id (min (count s) 1020) p.1)

pub within-spi : (s : List ℕ) (id : ℕ) → 32 ≤ id → id < min (count s) 1020 → is_spi s id ≡ true
unfolding is_spi
within-spi s id l m = and-true (le-leb 32 id l) (lt-ltb id (min (count s) 1020) m)

pub banks-most : (x : View) → banks x ≤ 32
unfolding banks
banks-most Distributor = omega arith
banks-most (Frame v) = omega arith

pub group_below : (g : InterruptGroup) → group_index g < 2
group_below Group0 = omega arith
group_below Group1 = omega arith

pub bank-at : (v w : ℕ) → 1 ≤ w → bank v w ≡ 256 + 16 * w
bank-at v zero l = absurd (omega arith)
bank-at v (suc w) l = refl

module _ (s : List ℕ) (v w : ℕ) where
  -- the flag of interrupt 32 w + i
  pub flag-bit : (k i : ℕ) → i < 32 → flag k s v (32 * w + i) ≡ bit (word s (bank v w + k)) i
  flag-bit k i l =
      let d : (32 * w + i) / 32 ≡ w = omega arith in
      let r : (32 * w + i) % 32 ≡ i = omega arith in
      rw (d, r)

  -- a bit of the priorities of four
  pub priority-bit : (j i : ℕ) → j < 8 → i < 32 → bit (priority s v (4 * (8 * w + j) + i / 8)) (i % 8) ≡ bit (word s (bank v w + 5 + j)) i
  priority-bit j i l m =
      let d : (4 * (8 * w + j) + i / 8) / 32 ≡ w = omega arith in
      let r : (4 * (8 * w + j) + i / 8) % 32 / 4 ≡ j = omega arith in
      let b : (4 * (8 * w + j) + i / 8) % 4 ≡ i / 8 = omega arith in
      let p : 8 * (i / 8) + i % 8 ≡ i = omega arith in
      rw (d, r, b, bit-mod 8 (word s (bank v w + 5 + j) / 2 ^ (8 * (i / 8))) (i % 8) (omega arith), bit-shift (word s (bank v w + 5 + j)) (8 * (i / 8)) (i % 8), p)

  -- the edge flag of one of sixteen
  pub edge-bit : (j i : ℕ) → j < 2 → i < 16 → edge s v (16 * (2 * w + j) + i) ≡ bit (word s (bank v w + 13 + j)) i
  edge-bit j i l m =
      let d : (16 * (2 * w + j) + i) / 32 ≡ w = omega arith in
      let r : (16 * (2 * w + j) + i) % 32 / 16 ≡ j = omega arith in
      let b : (16 * (2 * w + j) + i) % 16 ≡ i = omega arith in
      rw (d, r, b)
