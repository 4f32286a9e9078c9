-- What an attribute names, read and written, and the values that it takes.
use Rattle.std.specs.Prelude.{Some}
use Prim.Native.Nat.{ℕ, ◌^◌}
use mathlib.Core.Path.{◌≡◌}
use mathlib.Core.Bool.{true}
use borrow.Author.Tests.{ltb-true}
use lib.Dec.{ltb}
use mir.Syntax.{w32}
use mir.Val.{Fits}
use Rattle.model.specs.Attributes.{register_takes, takes}
use Rattle.model.specs.declared.View.{View}
use Rattle.model.specs.declared.Register.{Register}
use Rattle.model.specs.declared.Item.{Item}
use Rattle.model.specs.declared.Item.TheVariants.{Mapped}
use Rattle.model.proofs.Tests.{both}

-- a word of a memory-mapped register takes a word
pub value_fits : (i : Item) (x : View) (r : Register) (k v : ℕ) → i ≡ Mapped x r k → takes (Some i) v ≡ true → Fits w32 v
unfolding takes
value_fits i x r k v e t = record { fits = ltb-true v (2 ^ 32) (both (ltb v (2 ^ 32)) (register_takes r v) (rw e at t)).0 }
