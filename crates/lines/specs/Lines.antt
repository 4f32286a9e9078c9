-- The latch of a line change.
use Rattle.std.specs.Prelude.{ℕ, ◌+◌, ◌/◌, ◌%◌, Bool, true, not, cond, ◌&&◌, List}
use Rattle.model.specs.Words.{bit}
use Rattle.model.specs.Layout.{word, latch_field, line_field, edge_field}
use Rattle.model.specs.Interrupts.{set_flag}
use Rattle.model.specs.Lines.{latches}

-- interrupt i of the bank b is edge, and its line goes 0 to 1
unfoldable pub rises_in : List ℕ → ℕ → Bool → Bool
rises_in b i level = bit (word b (edge_field + i / 16)) (i % 16) && not (bit (word b line_field) i) && level

-- interrupt id latched, where it is edge and its line goes 0 to 1
unfoldable pub rise_latched : List ℕ → ℕ → ℕ → Bool → List ℕ
rise_latched s v id level = cond (latches s v id level) (set_flag latch_field true v id s) s
