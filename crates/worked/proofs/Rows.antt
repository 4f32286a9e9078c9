-- A list of calls with the answer of each, and the test that the definitions give these answers and lead from one state to another.
--     gives c a      the call c answers a
--     refuses c e    the call c answers -e
--     saves n h      a save into n bytes of 0xa5 hands back the bytes h, and its answer is their number
-- A call leaves the buffers lent to it as they are, but for the bytes that save hands back.
use Prim.Native.Nat.{ℕ, suc, ◌-◌}
use mathlib.Core.Bool.{Bool, true, false, cond, ◌&&◌}
use mathlib.Core.List.{List, [], ◌∷◌, ◌++◌}
use lib.IntN.{pos, neg_ℤ}
use lib.ListN.{length, replicate, set}
use Rattle.model.specs.Calls.{Call, save, Outcome, call, handed_back, lent_to}
use Rattle.model.proofs.Rows.{is_same_number, same_words, meets}

pub data Row : Type 0 where
  gives : Call → ℕ → Row
  refuses : Call → ℕ → Row
  saves : ℕ → List ℕ → Row

-- n words, zero but for those listed, each with its place; places rise
fill : ℕ → ℕ → List (ℕ × ℕ) → List ℕ
fill at n [] = replicate (n - at) 0
fill at n (w ∷ ws) = replicate (w.0 - at) 0 ++ w.1 ∷ fill (suc w.0) n ws

unfoldable pub words : ℕ → List (ℕ × ℕ) → List ℕ
unfolding fill
words n ws = fill 0 n ws

-- the state s with the words listed
unfoldable pub changed : List ℕ → List (ℕ × ℕ) → List ℕ
changed s [] = s
changed s (w ∷ ws) = changed (set s w.0 w.1) ws

-- the call of a row, and whether the outcome is what the row says
asked : Row → Call
asked (gives c a) = c
asked (refuses c e) = c
asked (saves n h) = save (replicate n 0xa5)

-- two lists of buffers are the same
same_buffers : List (List ℕ) → List (List ℕ) → Bool
same_buffers [] [] = true
same_buffers [] (c ∷ cs) = false
same_buffers (b ∷ bs) [] = false
same_buffers (b ∷ bs) (c ∷ cs) = same_words b c && same_buffers bs cs

-- s is the state that the call is made at
agrees : Row → List ℕ → Outcome → Bool
agrees (gives c a) s o = is_same_number o.answer (pos a) && same_buffers o.buffers (lent_to c s)
agrees (refuses c e) s o = is_same_number o.answer (neg_ℤ (pos e)) && same_buffers o.buffers (lent_to c s)
agrees (saves n h) s o = is_same_number o.answer (pos (length h)) && (same_words (handed_back o) h && same_buffers o.buffers ((h ++ replicate (n - length h) 0xa5) ∷ []))

differs-from : ℕ → List Row → List ℕ → List ℕ → ℕ
differs-from k [] s to = cond (same_words s to) 0 k
differs-from k (r ∷ rs) s to =
    let o : Outcome = call (asked r) s in
    elim (agrees r s o) [ true ↦ differs-from (suc k) rs o.state to | false ↦ k ]

-- 0 if each row agrees and the calls lead from the first state to the last;
-- else the number of the first row that does not agree, from 1, or of the rows and one more for the last state.
-- Unfolding `meets` unfolds every definition that a call computes with, so a theorem need name `differs` alone.
unfoldable pub differs : List Row → List ℕ → List ℕ → ℕ
unfolding fill words changed asked same_buffers agrees differs-from meets
differs rows from to = differs-from 1 rows from to
