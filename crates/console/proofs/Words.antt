-- A word of two, three or four bytes is compared byte after byte.
use Prim.Native.Nat.{ℕ}
use mathlib.Core.Path.{◌≡◌, refl}
use mathlib.Core.Bool.{Bool, true, false, ◌&&◌}
use mathlib.Core.List.{List, [], ◌∷◌}
use Rattle.std.proofs.lemmas.Bool.Decides.{nat_tests}
use native.Mathlib.Omega.{arith}
use lib.Dec.{eqb}
use lib.ListN.{length, get_or}
use Rattle.console.specs.Text.{same}

and-none : (p : Bool) → (p && false) ≡ false
and-none true = refl
and-none false = refl

and-true : (p : Bool) → (p && true) ≡ p
and-true true = refl
and-true false = refl

pub same_2 : (w : List ℕ) (x y : ℕ) → same w (x ∷ y ∷ []) ≡ (eqb (length w) 2 && (eqb (get_or w 0 0) x && eqb (get_or w 1 0) y))
unfolding same
same_2 [] x y = refl
same_2 (a ∷ []) x y = simp and-none
same_2 (a ∷ b ∷ []) x y = simp and-true
same_2 (a ∷ b ∷ c ∷ w) x y = grind (arith, nat_tests)

pub same_3 : (w : List ℕ) (x y z : ℕ) → same w (x ∷ y ∷ z ∷ []) ≡ (eqb (length w) 3 && (eqb (get_or w 0 0) x && (eqb (get_or w 1 0) y && eqb (get_or w 2 0) z)))
unfolding same
same_3 [] x y z = refl
same_3 (a ∷ w) x y z = grind (arith, nat_tests, same_2 w y z)

pub same_4 : (w : List ℕ) (x y z u : ℕ) → same w (x ∷ y ∷ z ∷ u ∷ []) ≡ (eqb (length w) 4 && (eqb (get_or w 0 0) x && (eqb (get_or w 1 0) y && (eqb (get_or w 2 0) z && eqb (get_or w 3 0) u))))
unfolding same
same_4 [] x y z u = refl
same_4 (a ∷ w) x y z u = grind (arith, nat_tests, same_3 w y z u)

pub ruleset words = (same_2, same_3, same_4, nat_tests)
