-- Line change.
use Rattle.std.specs.Prelude.{ℕ, Bool, true, not, cond, ◌&&◌, List}
use Rattle.model.specs.Layout.{latch_field, line_field}
use Rattle.model.specs.Interrupts.{edge, line, set_flag}

-- an edge interrupt going 0 to 1 is latched
unfoldable pub latches : List ℕ → ℕ → ℕ → Bool → Bool
latches s v id level = edge s v id && not (line s v id) && level

-- stores the level of a PPI or SPI
unfoldable pub line_changed : List ℕ → ℕ → ℕ → Bool → List ℕ
line_changed s v id level = set_flag line_field level v id (cond (latches s v id level) (set_flag latch_field true v id s) s)
