-- `words::byte_mask` meets its contract: each of the four is computed.
use Prim.Native.Nat.{ℕ, zero, suc, ◌*◌, ◌%◌, ◌^◌, ◌<◌}
use mathlib.Core.Path.{◌≡◌, refl}
use native.Mathlib.Omega.{arith}
use Rattle.model.specs.Words.{gather}
use Rattle.words.specs.Words.{byte_mask}
use Rattle.words.proofs.byte_mask.Goals as goal

each : (k : ℕ) → k < 4 → 255 * 2 ^ (8 * k) % 2 ^ 32 ≡ byte_mask k
unfolding byte_mask gather
each zero h = refl
each (suc zero) h = refl
each (suc (suc zero)) h = refl
each (suc (suc (suc zero))) h = refl
each (suc (suc (suc (suc k)))) h = absurd (omega arith)

pub returns : goal.returns
returns c = each c.args.k c.requires
