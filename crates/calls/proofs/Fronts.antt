-- The front part of its buffer that save hands back.
use Rattle.std.specs.Prelude.{Ok, Err}
use Prim.Native.Nat.{ℕ, zero, suc, ◌≤◌, ◌<◌}
use mathlib.Core.Path.{◌≡◌, refl, sym, ◌∙◌}
use mathlib.Core.List.{List, [], ◌∷◌}
use native.Mathlib.Omega.{arith}
use lib.IntN.{ℤ, pos, neg_ℤ}
use lib.ListN.{length, take}
use lib.Seq.{length-take-le}
use mir.Syntax.{w64}
use mir.Val.{SFits, to_z, of_z}
use mir.Facts.{to_z-of_z}
use Rattle.model.specs.Refusals.{Answer, errno, number}
use Rattle.model.specs.Calls.{Outcome, Does, Saves, front_of, handed_back}
use Rattle.model.proofs.Refused.{errno-positive}
use Rattle.record.specs.Written.{front_length}

-- as long as it says
pub front_long : (a : Answer) (n : ℕ) (b : List ℕ) → n ≡ front_length a → front_length a ≤ length b → n ≡ length (take n b)
front_long a n b e h = sym (length-take-le n b (rw e h))

-- a refusal has the empty front
empty-front : (n : ℕ) (b : List ℕ) → 0 < n → front_of (neg_ℤ (pos n)) b ≡ []
unfolding front_of
empty-front zero b h = absurd (omega arith)
empty-front (suc n) b h = refl

front-is : (a : Answer) (b : List ℕ) → take (front_length a) b ≡ front_of (number a) b
front-is (Ok v) b = unfold front_of number in refl
front-is (Err e) b = unfold number in (sym (empty-front (errno e) b (errno-positive e)))

pub front-handed : (o : Outcome) (a : Answer) (r : ℤ) (t b : List ℕ) (n : ℕ) → Does o (number a) t (b ∷ []) → r ≡ number a → SFits w64 r → n ≡ front_length a
    → Saves o (to_z w64 (of_z w64 r)) t (take n b)
unfolding handed_back
front-handed o a r t b n d e f h = record {
  answer = to_z-of_z f ∙ e ∙ d.answer;
  state = d.state;
  front_part = rw (h, ← d.answer, ← d.buffers) (front-is a b);
}
