-- What is answered and left by tests, a value and a next state; and those of an acknowledge.
use Rattle.std.specs.Prelude.{ℕ, ◌≡◌, List, [], ◌∷◌, Ok, Err}
use Rattle.model.specs.Refusals.{Answer, Refusal, first_failing}
use Rattle.model.specs.Interface.{rank_id, offered, level_clear, acknowledged}
use Rattle.model.specs.declared.Errno.TheVariants.{Eio}

-- the value, or the refusal
abbrev pub answered : Refusal → ℕ → Answer
answered (Ok tt) x = Ok x
answered (Err e) x = Err e

-- the next state; a refusal leaves the state as it was
abbrev pub leaves : Refusal → List ℕ → List ℕ → List ℕ
leaves (Ok tt) next s = next
leaves (Err e) next s = s

pub record Settled (q : Refusal) (x : ℕ) (next s : List ℕ) (a : Answer) (t : List ℕ) : Type 0 where
  pub answer : a ≡ answered q x
  pub state : t ≡ leaves q next s

-- vCPU v acknowledges in group g: the ID of what is offered, which is taken; refused where its active-priority bit is set already
abbrev pub Acknowledges : ℕ → ℕ → List ℕ → Answer → List ℕ → Type 0
Acknowledges g v s = Settled (first_failing ((level_clear s v g (offered s v g), Eio) ∷ [])) (rank_id (offered s v g)) (acknowledged s v g (offered s v g)) s
