-- `state::parts::bank_at` meets its contract.
use Prim.Native.Nat.{ℕ, zero, suc, ◌+◌, ◌*◌, ◌≤◌}
use mathlib.Core.Path.{◌≡◌, refl, sym, ◌∙◌, ap}
use native.Mathlib.Omega.{arith}
use Rattle.model.specs.Layout.{block, bank}
use Rattle.state.proofs.parts.bank_at.Goals as goal

first : (v w r : ℕ) → w ≡ 0 → r ≡ block v → r + 32 ≤ 272 → (r ≡ bank v w) × (r + 16 ≤ 768)
first v w r z e l = (e ∙ ap (bank v) (sym z), omega arith)

later : (v w r : ℕ) → ¬ (w ≡ 0) → r ≡ 256 + 16 * w → r + 16 ≤ 768 → (r ≡ bank v w) × (r + 16 ≤ 768)
later v zero r n e l = absurd (n refl)
later v (suc w) r n e l = (e, l)

pub returns-then-w-eq0 : goal.returns-then-w-eq0
returns-then-w-eq0 c = first _ _ _ c.if-w-eq0.true c.block_at.ensures.0 c.block_at.ensures.1

pub returns-else-w-eq0 : goal.returns-else-w-eq0
returns-else-w-eq0 c = later _ _ _ c.if-w-eq0.false c.spi_bank_at.ensures.0 c.spi_bank_at.ensures.1
