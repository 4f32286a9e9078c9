-- What the code takes a line apart by: the bytes before the first space, and the fields after it.
use Rattle.std.specs.Prelude.{ℕ, suc, cond, List, [], ◌∷◌, eqb}
use Rattle.console.specs.Text.{space, fields}

unfoldable pub first : List ℕ → ℕ
first [] = 0
first (b ∷ bs) = cond (eqb b space) 0 (suc (first bs))

-- the fields after a space, where anything follows
unfoldable pub spaced : List ℕ → List (List ℕ)
spaced [] = []
spaced (b ∷ bs) = fields bs
