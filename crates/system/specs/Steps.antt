-- One step of sending an SGI.
use Rattle.std.specs.Prelude.{ℕ, Bool, true, cond, List}
use Rattle.model.specs.Layout.{latch_field}
use Rattle.model.specs.Interrupts.{set_flag}
use Rattle.model.specs.Interface.{sgi_id, reaches}

-- the SGI of vCPU t latched, if it is reached
unfoldable pub latched_at : ℕ → Bool → ℕ → ℕ → List ℕ → List ℕ
latched_at t only0 v x s = cond (reaches only0 s v x t) (set_flag latch_field true t (sgi_id x) s) s
