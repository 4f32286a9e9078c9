-- `words::byte_shifted` meets its contract.
use Prim.Native.Nat.{◌*◌, ◌%◌}
use native.Mathlib.Omega.{arith}
use lib.Pow.{shl_exact}
use Rattle.words.proofs.byte_shifted.Goals as goal

pub returns : goal.returns
returns c = shl_exact {a = c.args.x % 256} 8 (8 * c.args.k) 32 (omega arith) (omega (arith, c.requires))
