-- The bits that a word of the state may have, region by region, and what they say of the words of a sound, initialised device.
use Prim.Native.Nat.{ℕ, ◌+◌, ◌*◌, ◌-◌, ◌/◌, ◌%◌, ◌^◌, ◌≤◌, ◌<◌, min}
use mathlib.Core.Path.{◌≡◌, sym, ap, ◌∙◌, subst}
use mathlib.Core.Bool.{Bool, true, false, cond, ◌&&◌}
use mathlib.Core.List.{List}
use native.Mathlib.Decide.{ℕ_discrete, dec_lt}
use native.Mathlib.Omega.{arith}
use borrow.Author.Tests.{lt-ltb, le-ltb}
use lib.Dec.{ltb}
use lib.ListN.{get_or}
use Rattle.model.specs.Words.{bit}
use Rattle.model.specs.Layout.{state_length, word, initialised, count, vcpus, block, route_at}
use Rattle.model.specs.Sound.{fits, used_bits, fresh_bits, entry, header_bits, block_bits, bank_bits, last_bank_bits, fresh_block_bits, sound}
use Rattle.model.proofs.Within.{fits_lt, fits_le, fits-bit, fits-none}
use Rattle.model.proofs.Soundness.{Sound, open-sound, setup-mark, word-fresh, Ready, ready}

-- ---- the bits that a word may have, region by region

pub entry-there : (b : Bool) (bits : List ℕ) (j : ℕ) → b ≡ true → entry b bits j ≡ get_or bits j 0
unfolding entry
entry-there b bits j e = rw e

pub entry_absent : (b : Bool) (bits : List ℕ) (j : ℕ) → b ≡ false → entry b bits j ≡ 0
unfolding entry
entry_absent b bits j e = rw e

module _ (c n : ℕ) where
  pub header-bits : (k : ℕ) → k < 16 → used_bits c n k ≡ get_or header_bits k 0
  unfolding used_bits entry
  header-bits k l = rw (lt-ltb k 16 l)

  pub block-bits : (v j : ℕ) → v < 8 → j < 32 → used_bits c n (block v + j) ≡ entry (ltb v n) block_bits j
  unfolding used_bits
  block-bits v j l m =
      let d : (block v + j - 16) / 32 ≡ v = omega arith in
      let r : (block v + j - 16) % 32 ≡ j = omega arith in
      rw (le-ltb (block v + j) 16 (omega arith), lt-ltb (block v + j) 272 (omega arith), d, r)

  pub bank-bits : (w j : ℕ) → 1 ≤ w → w < 31 → j < 16 → used_bits c n (256 + 16 * w + j) ≡ entry (ltb (32 * w) c) bank_bits j
  unfolding used_bits
  bank-bits w j a b m =
      let d : (256 + 16 * w + j - 256) / 16 ≡ w = omega arith in
      let r : (256 + 16 * w + j - 256) % 16 ≡ j = omega arith in
      rw (le-ltb (256 + 16 * w + j) 16 (omega arith), le-ltb (256 + 16 * w + j) 272 (omega arith), lt-ltb (256 + 16 * w + j) 752 (omega arith), d, r)

  pub last-bits : (j : ℕ) → j < 16 → used_bits c n (752 + j) ≡ entry (ltb 992 c) last_bank_bits j
  unfolding used_bits
  last-bits j m =
      let e : 752 + j - 752 ≡ j = omega arith in
      rw (le-ltb (752 + j) 16 (omega arith), le-ltb (752 + j) 272 (omega arith), le-ltb (752 + j) 752 (omega arith), lt-ltb (752 + j) 768 (omega arith), e)

  pub route-bits : (id : ℕ) → 32 ≤ id → id < min c 1020 → used_bits c n (route_at id) ≡ 0x00ffffff
  unfolding used_bits
  route-bits id l m =
      let e : route_at id - 736 ≡ id = omega arith in
      rw (
        le-ltb (route_at id) 16 (omega arith),
        le-ltb (route_at id) 272 (omega arith),
        le-ltb (route_at id) 752 (omega arith),
        le-ltb (route_at id) 768 (omega arith),
        lt-ltb (route_at id) 1756 (omega arith),
        e,
        lt-ltb id c (omega arith),
      )

  pub route-none : (p : ℕ) → 768 ≤ p → (p < 1756 → c ≤ p - 736) → used_bits c n p ≡ 0
  unfolding used_bits
  route-none p l h = rw (le-ltb p 16 (omega arith), le-ltb p 272 (omega arith), le-ltb p 752 (omega arith), le-ltb p 768 (omega arith)) (go (dec_lt p 1756))
    where
      go : Dec (p < 1756) → ◌≡◌ {A = ℕ} (cond (ltb p 1756 && ltb (p - 736) c) 0x00ffffff 0) 0
      go (yes q) = rw (lt-ltb p 1756 q, le-ltb (p - 736) c (h q))
      go (no q) = rw (le-ltb p 1756 (omega arith))

-- a block of a fresh device
pub fresh-block-bits : (n v j : ℕ) → v < 8 → j < 32 → fresh_bits n (block v + j) ≡ entry (ltb v n) fresh_block_bits j
unfolding fresh_bits
fresh-block-bits n v j l m =
    let d : (block v + j - 16) / 32 ≡ v = omega arith in
    let r : (block v + j - 16) % 32 ≡ j = omega arith in
    rw (le-ltb (block v + j) 16 (omega arith), lt-ltb (block v + j) 272 (omega arith), d, r)

-- ---- the words of a device

-- w is an SPI word of the device
pub record SpiWord (s : List ℕ) (w : ℕ) : Type 0 where
  pub low : 1 ≤ w
  pub high : 32 * w + 32 ≤ count s

module _ (s : List ℕ) (h : Ready s) where
  pub fits_word : (k : ℕ) → k < state_length → word s k < 2 ^ 32
  fits_word k l = fits_lt (word s k) (used_bits (count s) (vcpus s) k) (h.used k l)

  pub header-word : (k : ℕ) → k < 16 → fits (word s k) (get_or header_bits k 0) ≡ true
  header-word k l = rw (header-bits (count s) (vcpus s) k l) at (h.used k (omega arith))

  pub block-is : (v j : ℕ) → v < vcpus s → j < 32 → used_bits (count s) (vcpus s) (block v + j) ≡ get_or block_bits j 0
  block-is v j l m = block-bits (count s) (vcpus s) v j (omega (arith, h.few)) m ∙ entry-there (ltb v (vcpus s)) block_bits j (lt-ltb v (vcpus s) l)

  pub block-word : (v j : ℕ) → v < vcpus s → j < 32 → fits (word s (block v + j)) (get_or block_bits j 0) ≡ true
  block-word v j l m = rw (block-is v j l m) at (h.used (block v + j) (omega (arith, h.few)))

  -- what holds of the mask of word j in a bank, and in the last one, holds of the mask in bank w
  pub bank-is {ℓ} : (P : ℕ → Type ℓ) (w j : ℕ) → SpiWord s w → j < 16 → (w < 31 → P (get_or bank_bits j 0)) → (w ≡ 31 → P (get_or last_bank_bits j 0))
      → P (used_bits (count s) (vcpus s) (256 + 16 * w + j))
  bank-is P w j q l a b = go (dec_lt w 31)
    where
      go : Dec (w < 31) → P (used_bits (count s) (vcpus s) (256 + 16 * w + j))
      go (yes r) =
          subst P (sym (bank-bits (count s) (vcpus s) w j q.low r l ∙ entry-there (ltb (32 * w) (count s)) bank_bits j (lt-ltb (32 * w) (count s) (omega (arith, q.high))))) (a r)
      go (no r) =
          let e : w ≡ 31 = omega (arith, q.high, h.counted.most) in
          let p : 256 + 16 * w + j ≡ 752 + j = omega arith in
          subst P (sym (ap (used_bits (count s) (vcpus s)) p ∙ last-bits (count s) (vcpus s) j l ∙ entry-there (ltb 992 (count s)) last_bank_bits j (lt-ltb 992 (count s) (omega (arith, q.high))))) (b e)

  -- what follows from a bit of the mask follows from a bit of the word
  pub bank-bit : {C : Type 0} (w j i : ℕ) → SpiWord s w → j < 16 → (w < 31 → bit (get_or bank_bits j 0) i ≡ true → C) → (w ≡ 31 → bit (get_or last_bank_bits j 0) i ≡ true → C)
      → bit (word s (256 + 16 * w + j)) i ≡ true → C
  bank-bit {C} w j i q l a b t =
      bank-is (λ (x : ℕ). bit x i ≡ true → C) w j q l a b
      (fits-bit (word s (256 + 16 * w + j)) (used_bits (count s) (vcpus s) (256 + 16 * w + j)) i (h.used (256 + 16 * w + j) (omega (arith, q.high, h.counted.most))) t)

-- a sound state has no group enable but the two
pub sound-enables : (s : List ℕ) → sound s ≡ true → word s 3 < 4
unfolding fresh_bits entry
sound-enables s e = step (ℕ_discrete (initialised s) 1)
  where
    h : Sound s
    h = open-sound s e

    step : Dec (initialised s ≡ 1) → word s 3 < 4
    step (yes i) = omega (arith, fits_le (word s 3) 3 (header-word s (ready s e i) 3 (omega arith)))
    step (no i) =
        let z : initialised s ≡ 0 = omega (arith, setup-mark (initialised s) (count s) (vcpus s) h.set_up) in
        omega (arith, fits-none (word s 3) (rw (word-fresh s z 3 (word s 3)) at (h.each_word 3 (omega arith))))
