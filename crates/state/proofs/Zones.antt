-- The parts of the state, each with its masks: what the passes of `used_fits` and `fresh_fits` find is what the definitions say of each word.
use Prim.Native.Nat.{ℕ, ◌+◌, ◌-◌, ◌*◌, ◌/◌, ◌%◌, ◌^◌, ◌≤◌, ◌<◌}
use mathlib.Core.Path.{◌≡◌, ◌∙◌}
use mathlib.Core.Bool.{Bool, true, ◌&&◌}
use mathlib.Core.List.{List, [], ◌∷◌}
use native.Mathlib.Nat.{mod-one}
use native.Mathlib.Decide.{dec_lt}
use native.Mathlib.Omega.{arith}
use borrow.Author.Tests.{lt-ltb, le-ltb}
use lib.Bits.{bit_or}
use lib.Dec.{eqb, ltb}
use lib.ListN.{length, get_or}
use Rattle.model.specs.Words.{every}
use Rattle.model.specs.Layout.{vcpus, is_initialised, block, route_at}
use Rattle.model.specs.Sound.{fits, used_bits, fresh_bits, entry, header_bits, block_bits, bank_bits, last_bank_bits, fresh_header_bits, fresh_block_bits, fresh}
use Rattle.model.proofs.Soundness.{Count}
use Rattle.model.proofs.Masks.{entry-there, entry_absent, header-bits, block-bits, fresh-block-bits, bank-bits, last-bits, route-bits, route-none}
use Rattle.state.specs.Clear.{Apart, Clear}
use Rattle.state.proofs.Joined.{clear-join}
use Rattle.state.proofs.Opposite.{opposite, clear-fit, clear-every}

-- ---- an initialised device

-- where the whole banks, the last bank and the routes of a device of c interrupts end
abbrev banks_end : ℕ → ℕ
banks_end c = 272 + 16 * (c / 32 - 1 - c / 1024)

abbrev last_end : ℕ → ℕ
last_end c = banks_end c + 16 * (c / 1024)

abbrev routes_end : ℕ → ℕ
routes_end c = 768 + (c - 32 - 4 * (c / 1024))

module _ (c n : ℕ) (h : Count c) (few : n ≤ 8) where
  used-header : (k : ℕ) → 0 ≤ k → k < 16 → used_bits c n k ≡ get_or header_bits ((k - 0) % 16) 0
  used-header k l m = let q : (k - 0) % 16 ≡ k = omega arith in rw q (header-bits c n k m)

  in_block : (k : ℕ) → 16 ≤ k → k < 272 → used_bits c n k ≡ entry (ltb ((k - 16) / 32) n) block_bits ((k - 16) % 32)
  in_block k l m =
      let q : block ((k - 16) / 32) + (k - 16) % 32 ≡ k = omega arith in
      rw q at (block-bits c n ((k - 16) / 32) ((k - 16) % 32) (omega arith) (omega arith))

  used-block : (k : ℕ) → 16 ≤ k → k < 16 + 32 * n → used_bits c n k ≡ get_or block_bits ((k - 16) % 32) 0
  used-block k l m = in_block k l (omega arith) ∙ entry-there _ block_bits _ (lt-ltb ((k - 16) / 32) n (omega arith))

  no_block : (k : ℕ) → 16 + 32 * n ≤ k → k < 272 → used_bits c n k ≡ 0
  no_block k l m = in_block k (omega arith) m ∙ entry_absent _ block_bits _ (le-ltb ((k - 16) / 32) n (omega arith))

  in-bank : (k : ℕ) → 272 ≤ k → k < 752 → used_bits c n k ≡ entry (ltb (32 * ((k - 256) / 16)) c) bank_bits ((k - 272) % 16)
  in-bank k l m =
      let q : 256 + 16 * ((k - 256) / 16) + (k - 272) % 16 ≡ k = omega arith in
      rw q at (bank-bits c n ((k - 256) / 16) ((k - 272) % 16) (omega arith) (omega arith) (omega arith))

  used-bank : (k : ℕ) → 272 ≤ k → k < banks_end c → used_bits c n k ≡ get_or bank_bits ((k - 272) % 16) 0
  used-bank k l m = in-bank k l (omega arith) ∙ entry-there _ bank_bits _ (lt-ltb (32 * ((k - 256) / 16)) c (omega arith))

  in-last : (k : ℕ) → 752 ≤ k → k < 768 → used_bits c n k ≡ entry (ltb 992 c) last_bank_bits (k - 752)
  in-last k l m =
      let q : 752 + (k - 752) ≡ k = omega arith in
      rw q at (last-bits c n (k - 752) (omega arith))

  used-last : (k : ℕ) → banks_end c ≤ k → k < last_end c → used_bits c n k ≡ get_or last_bank_bits ((k - banks_end c) % 16) 0
  used-last k l m =
      let q : (k - banks_end c) % 16 ≡ k - 752 = omega arith in
      rw q (in-last k (omega arith) (omega arith) ∙ entry-there _ last_bank_bits _ (lt-ltb 992 c (omega arith)))

  no-bank : (k : ℕ) → last_end c ≤ k → k < 768 → used_bits c n k ≡ 0
  no-bank k l m =
      elim (dec_lt k 752) [
        | yes b ↦ in-bank k (omega arith) b ∙ entry_absent _ bank_bits _ (le-ltb (32 * ((k - 256) / 16)) c (omega arith))
        | no b ↦ in-last k (omega arith) m ∙ entry_absent _ last_bank_bits _ (le-ltb 992 c (omega arith))
      ]

  used-route : (k : ℕ) → 768 ≤ k → k < routes_end c → used_bits c n k ≡ get_or (0x00ffffff ∷ []) ((k - 768) % 1) 0
  used-route k l m =
      let q : route_at (k - 736) ≡ k = omega arith in
      rw mod-one (rw q at (route-bits c n (k - 736) (omega arith) (omega arith)))

  no-route : (k : ℕ) → routes_end c ≤ k → k < 1760 → used_bits c n k ≡ 0
  no-route k l m = route-none c n k (omega arith) (λ q. omega arith)

  -- the joined passes over an initialised device
  pub used-same : {s header vcpu bank last route none : List ℕ} {r₁ r₂ r₃ r₄ r₅ r₆ r₇ r₈ : ℕ} → length s ≡ 1760 → ((k : ℕ) → get_or s k 0 < 2 ^ 32)
      → Clear (Apart s header 0) 0 16 r₁
      → Clear (Apart s vcpu 16) 16 (16 + 32 * n) r₂
      → Clear (Apart s none (16 + 32 * n)) (16 + 32 * n) 272 r₃
      → Clear (Apart s bank 272) 272 (banks_end c) r₄
      → Clear (Apart s last (banks_end c)) (banks_end c) (last_end c) r₅
      → Clear (Apart s none (last_end c)) (last_end c) 768 r₆
      → Clear (Apart s route 768) 768 (routes_end c) r₇
      → Clear (Apart s none (routes_end c)) (routes_end c) 1760 r₈
      → opposite header 16 header_bits ≡ true
      → opposite vcpu 32 block_bits ≡ true
      → opposite bank 16 bank_bits ≡ true
      → opposite last 16 last_bank_bits ≡ true
      → opposite route 1 (0x00ffffff ∷ []) ≡ true
      → opposite none 1 [] ≡ true
      → eqb (bit_or (bit_or (bit_or (bit_or (bit_or (bit_or (bit_or r₁ r₂) r₃) r₄) r₅) r₆) r₇) r₈) 0 ≡ every (λ k w. fits w (used_bits c n k)) 0 s
  used-same {s} len words z₁ z₂ z₃ z₄ z₅ z₆ z₇ z₈ oh ov ob ol or on =
      clear-every s (used_bits c n) len
      (clear-join (clear-join (clear-join (clear-join (clear-join (clear-join (clear-join
      (clear-fit words _ _ z₁ oh used-header)
      (clear-fit words _ _ z₂ ov used-block))
      (clear-fit words _ _ z₃ on no_block))
      (clear-fit words _ _ z₄ ob used-bank))
      (clear-fit words _ _ z₅ ol used-last))
      (clear-fit words _ _ z₆ on no-bank))
      (clear-fit words _ _ z₇ or used-route))
      (clear-fit words _ _ z₈ on no-route))

-- ---- a fresh device

module _ (n : ℕ) (few : n ≤ 8) where
  fresh-header : (k : ℕ) → 0 ≤ k → k < 16 → fresh_bits n k ≡ get_or fresh_header_bits ((k - 0) % 16) 0
  unfolding fresh_bits entry
  fresh-header k l m = let q : (k - 0) % 16 ≡ k = omega arith in rw (q, lt-ltb k 16 m)

  fresh-in-block : (k : ℕ) → 16 ≤ k → k < 272 → fresh_bits n k ≡ entry (ltb ((k - 16) / 32) n) fresh_block_bits ((k - 16) % 32)
  fresh-in-block k l m =
      let q : block ((k - 16) / 32) + (k - 16) % 32 ≡ k = omega arith in
      rw q at (fresh-block-bits n ((k - 16) / 32) ((k - 16) % 32) (omega arith) (omega arith))

  fresh-block : (k : ℕ) → 16 ≤ k → k < 16 + 32 * n → fresh_bits n k ≡ get_or fresh_block_bits ((k - 16) % 32) 0
  fresh-block k l m = fresh-in-block k l (omega arith) ∙ entry-there _ fresh_block_bits _ (lt-ltb ((k - 16) / 32) n (omega arith))

  fresh-none : (k : ℕ) → 16 + 32 * n ≤ k → k < 1760 → fresh_bits n k ≡ 0
  unfolding fresh_bits
  fresh-none k l m =
      elim (dec_lt k 272) [
        | yes i ↦ fresh-in-block k (omega arith) i ∙ entry_absent _ fresh_block_bits _ (le-ltb ((k - 16) / 32) n (omega arith))
        | no i ↦ rw (le-ltb k 16 (omega arith), le-ltb k 272 (omega arith))
      ]

  pub fresh-same : {s header vcpu none : List ℕ} {r₁ r₂ r₃ : ℕ} → length s ≡ 1760 → ((k : ℕ) → get_or s k 0 < 2 ^ 32)
      → Clear (Apart s header 0) 0 16 r₁
      → Clear (Apart s vcpu 16) 16 (16 + 32 * n) r₂
      → Clear (Apart s none (16 + 32 * n)) (16 + 32 * n) 1760 r₃
      → opposite header 16 fresh_header_bits ≡ true
      → opposite vcpu 32 fresh_block_bits ≡ true
      → opposite none 1 [] ≡ true
      → eqb (bit_or (bit_or r₁ r₂) r₃) 0 ≡ every (λ k w. fits w (fresh_bits n k)) 0 s
  fresh-same {s} len words z₁ z₂ z₃ oh ov on =
      clear-every s (fresh_bits n) len
      (clear-join (clear-join
      (clear-fit words _ _ z₁ oh fresh-header)
      (clear-fit words _ _ z₂ ov fresh-block))
      (clear-fit words _ _ z₃ on fresh-none))

-- with the initialised mark, the device is fresh
pub marked-fresh : (s : List ℕ) (n : ℕ) (b : Bool) → n ≡ vcpus s → b ≡ every (λ k w. fits w (fresh_bits n k)) 0 s → (is_initialised s && b) ≡ fresh s
unfolding fresh
marked-fresh s n b e f = rw (f, e)
