-- A word fits a mask exactly where it has none of the bits that the mask lacks.
use Prim.Native.Nat.{ℕ, ◌+◌, ◌-◌, ◌%◌, ◌^◌, ◌≤◌, ◌<◌}
use mathlib.Core.Path.{◌≡◌}
use mathlib.Core.Bool.{Bool, true, ◌&&◌}
use mathlib.Core.List.{List}
use native.Mathlib.Nat.{mod-lt}
use native.Mathlib.Omega.{arith}
use borrow.Author.Tests.{ltb-true, eqb-true, eq-eqb}
use lib.Dec.{ltb, eqb}
use lib.ListN.{length, get_or}
use Rattle.model.specs.Words.{every, all_below}
use Rattle.model.specs.Sound.{fits}
use Rattle.model.proofs.Tests.{both, same_test, every-at, every-all, below_at}
use Rattle.words.proofs.Masks.{clear-fits, fits-clear}
use Rattle.state.specs.Clear.{Apart, Clear}
use Rattle.state.proofs.Joined.{clear-as}

-- a row of d entries, each with the bits that its entry in a table of masks lacks
unfoldable pub opposite : List ℕ → ℕ → List ℕ → Bool
opposite row d bits = ltb 0 d && (eqb (length row) d && all_below (λ j. eqb (get_or row j 0 + get_or bits j 0 + 1) (2 ^ 32)) d)

record Opposite (row : List ℕ) (d : ℕ) (bits : List ℕ) : Type 0 where
  some : 0 < d
  size : length row ≡ d
  each : (j : ℕ) → j < d → get_or row j 0 + get_or bits j 0 + 1 ≡ 2 ^ 32

open-opposite : (row : List ℕ) (d : ℕ) (bits : List ℕ) → opposite row d bits ≡ true → Opposite row d bits
unfolding opposite
open-opposite row d bits e =
    let test : ℕ → Bool = λ j. eqb (get_or row j 0 + get_or bits j 0 + 1) (2 ^ 32) in
    let a = both (ltb 0 d) (eqb (length row) d && all_below test d) e in
    let b = both (eqb (length row) d) (all_below test d) a.1 in
    record { some = ltb-true 0 d a.0; size = eqb-true (length row) d b.0; each = λ j l. eqb-true (get_or row j 0 + get_or bits j 0 + 1) (2 ^ 32) (below_at test d b.1 j l) }

-- the words of s fit the masks g
abbrev pub Fit : List ℕ → (ℕ → ℕ) → ℕ → Type 0
Fit s g k = fits (get_or s k 0) (g k) ≡ true

module _ {s : List ℕ} {g : ℕ → ℕ} (words : (k : ℕ) → get_or s k 0 < 2 ^ 32) where
  pub clear-fit : {row : List ℕ} {a e r : ℕ} (d : ℕ) (bits : List ℕ) → Clear (Apart s row a) a e r → opposite row d bits ≡ true
      → ((k : ℕ) → a ≤ k → k < e → g k ≡ get_or bits ((k - a) % d) 0) → Clear (Fit s g) a e r
  clear-fit {row} {a} {e} d bits t o h = clear-as to from t
    where
      lacks : Opposite row d bits
      lacks = open-opposite row d bits o

      at : (k : ℕ) → get_or row ((k - a) % d) 0 + get_or bits ((k - a) % d) 0 + 1 ≡ 2 ^ 32
      at k = lacks.each ((k - a) % d) (mod-lt (k - a) lacks.some)

      rest : (k : ℕ) → get_or row ((k - a) % d) 0 ≡ 0xffffffff - get_or bits ((k - a) % d) 0
      rest k = omega (arith, at k)

      to : (k : ℕ) → a ≤ k → k < e → Apart s row a k → Fit s g k
      to k l n z = rw (h k l n) (clear-fits (get_or s k 0) (get_or bits ((k - a) % d) 0) (words k) (omega (arith, at k)) (rw (lacks.size, rest k) at z.apart))

      from : (k : ℕ) → a ≤ k → k < e → Fit s g k → Apart s row a k
      from k l n z =
          record { apart = rw (lacks.size, rest k) (fits-clear (get_or s k 0) (get_or bits ((k - a) % d) 0) (omega (arith, at k)) (rw (h k l n) at z)) }

-- clear of all words: each has only bits of its mask
pub clear-every : (s : List ℕ) (g : ℕ → ℕ) {e r : ℕ} → length s ≡ e → Clear (Fit s g) 0 e r → eqb r 0 ≡ every (λ k w. fits w (g k)) 0 s
clear-every s g {e} {r} q t =
    same_test (eqb r 0) (every (λ k w. fits w (g k)) 0 s)
    (λ z. every-all (λ k w. fits w (g k)) s (λ k l. t.all (eqb-true r 0 z) k (omega arith) (omega arith)))
    (λ z. eq-eqb r 0 (t.none (λ k a l. every-at (λ j w. fits w (g j)) s z k (omega arith))))
