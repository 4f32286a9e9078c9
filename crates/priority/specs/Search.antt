-- The parts of the candidate rule that the search tests one after the other.
use Rattle.std.specs.Prelude.{ℕ, ◌+◌, ◌*◌, min, Bool, not, cond, ◌&&◌, List}
use Rattle.model.specs.Words.{bit, gather}
use Rattle.model.specs.Layout.{word, group_field, enabled_field, active_field}
use Rattle.model.specs.Interrupts.{group, enabled, active, pending}
use Rattle.model.specs.Interface.{own_or_routed, rank}
use Rattle.words.specs.Words.{pending_in}

-- pending, enabled, not active, its group enabled: t0 and t1 say whether group 0 and group 1 are
unfoldable pub ready_with : Bool → Bool → List ℕ → ℕ → ℕ → Bool
ready_with t0 t1 s v id = pending s v id && enabled s v id && not (active s v id) && cond (group s v id) t1 t0

-- the same of the 32 interrupts of the bank b, for each by its bit of on0 and on1
unfoldable pub ready_in : List ℕ → ℕ → ℕ → ℕ
ready_in b on0 on1 =
    gather 32 (λ i. bit (pending_in b) i && bit (word b enabled_field) i && not (bit (word b active_field) i) && cond (bit (word b group_field) i) (bit on1 i) (bit on0 i))

-- the same of the interrupts 32 w to 32 w + 31
unfoldable pub ready_mask : List ℕ → ℕ → ℕ → ℕ → ℕ → ℕ
ready_mask s v w on0 on1 = gather 32 (λ i. ready_with (bit on0 i) (bit on1 i) s v (32 * w + i))

-- all 32 bits, or none
unfoldable pub all_bits : Bool → ℕ
all_bits on = gather 32 (λ i. on)

-- the better of b and the ready interrupt id
unfoldable pub routed : List ℕ → ℕ → ℕ → ℕ → ℕ
routed s v id b = cond (own_or_routed s v id) (min (rank s v id) b) b
