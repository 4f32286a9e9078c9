-- `words::clear_low` meets its contract.
use Prim.Native.Nat.{◌^◌}
use native.Mathlib.Nat.{mod-eq_of_lt, lt_of_le_of_lt, div-mul-le_self}
use Rattle.words.proofs.clear_low.Goals as goal

pub returns : goal.returns
returns c = mod-eq_of_lt (lt_of_le_of_lt (div-mul-le_self c.args.w (2 ^ c.args.n)) c.ranges.w.fits)
