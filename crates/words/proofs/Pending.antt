-- The pending word of a bank, made of the bank's words; its bits are the model's `pending`.
use Prim.Native.Nat.{ℕ, ◌+◌, ◌*◌, ◌/◌, ◌%◌, ◌<◌}
use mathlib.Core.Path.{◌≡◌, ◌∙◌}
use mathlib.Core.Bool.{cond}
use mathlib.Core.List.{List}
use native.Mathlib.Nat.{add_assoc}
use native.Mathlib.Decide.{dec_lt}
use native.Mathlib.Omega.{arith}
use borrow.Author.Tests.{lt-ltb, le-ltb}
use lib.Dec.{ltb}
use Rattle.model.specs.Words.{bit}
use Rattle.model.specs.Layout.{word, bank, latch_field, line_field, edge_field}
use Rattle.model.specs.Interrupts.{pending}
use Rattle.model.proofs.Bits.{bit-gather}
use Rattle.words.specs.Words.{pending_word, pending_in}

-- the word of the bank that has the edge flag of interrupt i
edge-word : (b : List ℕ) (i : ℕ) → i < 32 → cond (ltb i 16) (word b edge_field) (word b (edge_field + 1)) ≡ word b (edge_field + i / 16)
edge-word b i l = at (dec_lt i 16)
  where
    at : Dec (i < 16) → cond (ltb i 16) (word b edge_field) (word b (edge_field + 1)) ≡ word b (edge_field + i / 16)
    at (yes h) = let e : i / 16 ≡ 0 = omega arith in rw (lt-ltb i 16 h, e)
    at (no h) = let e : i / 16 ≡ 1 = omega arith in rw (le-ltb i 16 (omega arith), e)

-- bit i, where b is the bank of the interrupts 32 w to 32 w + 31 in the state s
pub pending-bit : (s b : List ℕ) (v w i : ℕ) → i < 32 → ((k : ℕ) → k < 16 → word b k ≡ word s (bank v w + k)) → bit (pending_in b) i ≡ pending s v (32 * w + i)
unfolding pending_in pending_word pending
pending-bit s b v w i l h =
    let d : (32 * w + i) / 32 ≡ w = omega arith in
    let r : (32 * w + i) % 32 ≡ i = omega arith in
    let q : (32 * w + i) % 16 ≡ i % 16 = omega arith in
    bit-gather 32 _ i l ∙ rw (edge-word b i l, d, r, q, h latch_field (omega arith), h line_field (omega arith), h (edge_field + i / 16) (omega arith), add_assoc)
