-- The interrupts of a bank that are ready, as the word operations make them and as the definitions say it.
use Prim.Native.Nat.{ℕ, ◌+◌, ◌-◌, ◌*◌, ◌<◌, ◌≤◌}
use mathlib.Core.Path.{◌≡◌, refl, sym, ap, ◌∙◌}
use mathlib.Core.Bool.{Bool, true, false, not, cond, ◌&&◌, ◌||◌, or-false}
use mathlib.Core.List.{List}
use native.Mathlib.Omega.{arith}
use lib.Bits.{bit_and, bit_or}
use lib.ListN.{length}
use mir.Syntax.{w32}
use mir.Val.{Fits}
use borrow.Rule.Slice.PartMut.{mid_of}
use Rattle.model.specs.Words.{bit}
use Rattle.model.specs.Layout.{state_length, word, bank}
use Rattle.model.specs.Interrupts.{flag}
use Rattle.model.proofs.Bits.{gather-same}
use Rattle.model.proofs.Fields.{flag-bit}
use Rattle.words.specs.Words.{pending_in}
use Rattle.words.proofs.Pending.{pending-bit}
use Rattle.words.proofs.Expressions.{gathers, same_bits, itself, ors, ands, nots}
use Rattle.state.proofs.Lending.{at_mid}
use Rattle.priority.specs.Search.{ready_with, ready_in, ready_mask}

choose : (g a b : Bool) → ((g && a) || (not g && b)) ≡ cond g a b
choose true a b = or-false a
choose false a b = refl

-- the operations on the words of a bank b
pub ready-word : (b : List ℕ) (p on0 on1 : ℕ) → p ≡ pending_in b → Fits w32 p → Fits w32 on0 → Fits w32 on1 → ((k : ℕ) → Fits w32 (word b k))
    → bit_and (bit_and (bit_and p (word b 1)) (0xffffffff - word b 3)) (bit_or (bit_and (word b 0) on1) (bit_and (0xffffffff - word b 0) on0)) ≡ ready_in b on0 on1
unfolding ready_in
ready-word b p on0 on1 e fp f0 f1 fb =
    rw (← e)
    (gathers
    (same_bits (λ i l. ap (λ (t : Bool). bit p i && bit (word b 1) i && not (bit (word b 3) i) && t) (choose (bit (word b 0) i) (bit on1 i) (bit on0 i)))
    (ands (ands (ands (itself fp) (itself (fb 1))) (nots (itself (fb 3)))) (ors (ands (itself (fb 0)) (itself f1)) (ands (nots (itself (fb 0))) (itself f0))))))

-- the bank of the interrupts 32 w to 32 w + 31, lent as a part of the state
pub ready-part : (s : List ℕ) (v w at on0 on1 r : ℕ) → length s ≡ state_length → at ≡ bank v w → at + 16 ≤ 768 → r ≡ ready_in (mid_of at (at + 16 - at) s) on0 on1
    → r ≡ ready_mask s v w on0 on1
unfolding ready_in ready_with ready_mask
ready-part s v w at on0 on1 r size a l e = e ∙ gather-same 32 _ _ (λ i m. same i m)
  where
    part : List ℕ
    part = mid_of at (at + 16 - at) s

    in-part : (k : ℕ) → k < 16 → word part k ≡ word s (bank v w + k)
    in-part k m = at_mid at (at + 16 - at) s k (omega arith) ∙ ap (λ (n : ℕ). word s (n + k)) a

    of-flag : (k i : ℕ) → k < 16 → i < 32 → bit (word part k) i ≡ flag k s v (32 * w + i)
    of-flag k i m n = ap (λ (x : ℕ). bit x i) (in-part k m) ∙ sym (flag-bit s v w k i n)

    same : (i : ℕ) → i < 32
        → (bit (pending_in part) i && bit (word part 1) i && not (bit (word part 3) i) && cond (bit (word part 0) i) (bit on1 i) (bit on0 i)) ≡ ready_with (bit on0 i) (bit on1 i) s v (32 * w + i)
    same i m = rw (pending-bit s part v w i m in-part, of-flag 1 i (omega arith) m, of-flag 3 i (omega arith) m, of-flag 0 i (omega arith) m)
