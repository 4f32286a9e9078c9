-- What a sound state gives the code that reads or writes a word of it.
use Prim.Native.Nat.{ℕ, ◌+◌, ◌%◌}
use mathlib.Core.Path.{◌≡◌}
use mathlib.Core.Bool.{true}
use mathlib.Core.List.{List}
use native.Mathlib.Omega.{arith}
use mir.Syntax.{w32}
use mir.Val.{Fits}
use Rattle.model.specs.Layout.{word, count}
use Rattle.model.specs.Sound.{sound}
use Rattle.model.proofs.Soundness.{sound-count}
use Rattle.model.proofs.Masks.{sound-enables}

pub enables-fit : (s : List ℕ) → sound s ≡ true → Fits w32 (0x50 + word s 3)
enables-fit s h = record { fits = omega (arith, sound-enables s h) }

pub sound-step : (s : List ℕ) → sound s ≡ true → count s % 32 ≡ 0
sound-step s h = (sound-count s h).1

pub ruleset asked = (sound-step, enables-fit)
