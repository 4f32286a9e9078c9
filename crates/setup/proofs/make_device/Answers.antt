-- `setup::make_device` meets its contract.
-- a state's words all zero
use borrow.Author.Tests.{eq-eqb, ne_eqb}
use mathlib.Core.Path.{◌≡◌, ap, ◌∙◌}
use mathlib.Core.List.{List}
use Prim.Native.Nat.{ℕ}
use lib.ListN.{length, replicate}
use Rattle.model.specs.Calls.{made, describe}
use Rattle.model.proofs.Refused.{refuses, fault-is, none_is, grants}
use Rattle.setup.proofs.make_device.Goals as goal

all-zero : (s t : List ℕ) → length s ≡ 1760 → t ≡ replicate (length s) 0 → t ≡ replicate 1760 0
all-zero s t l e = e ∙ ap (λ (n : ℕ). replicate n 0) l

pub returns-then-s-ne-STATE_LENGTH : goal.returns-then-s-ne-STATE_LENGTH
returns-then-s-ne-STATE_LENGTH c = unfold describe in (search (refuses, fault-is, ne_eqb))

pub returns : goal.returns
returns c = let filled = c.fill.ensures.after (λ y h. h) in unfold describe made in (search (grants, none_is, eq-eqb, all-zero))
