-- Which interrupts exist, and the fields of interrupt `id` as vCPU `v` sees it.
use Rattle.std.specs.Prelude.{ℕ, ◌+◌, ◌*◌, ◌/◌, ◌%◌, ◌^◌, min, Bool, not, ◌&&◌, ◌||◌, List, ltb, leb, set}
use Rattle.model.specs.Words.{bit, with_bit}
use Rattle.model.specs.Layout.{word, count, bank, group_field, enabled_field, latch_field, active_field, line_field, priority_field, edge_field, route_at}

-- ---- which exist

-- SGIs are 0-15 and PPIs 16-31, per vCPU
unfoldable pub is_private : ℕ → Bool
is_private id = ltb id 32

unfoldable pub is_ppi : ℕ → Bool
is_ppi id = leb 16 id && ltb id 32

-- in an initialised device the IDs that exist are those below this
abbrev pub ids_below : ℕ → ℕ
ids_below c = min c 1020

-- SPIs are from 32 to below the count and below 1020
unfoldable pub is_spi : List ℕ → ℕ → Bool
is_spi s id = leb 32 id && ltb id (ids_below (count s))

unfoldable pub exists : List ℕ → ℕ → Bool
exists s id = is_private id || is_spi s id

-- ---- the fields: a flag stands in word k of the bank
abbrev pub flag : ℕ → List ℕ → ℕ → ℕ → Bool
flag k s v id = bit (word s (bank v (id / 32) + k)) (id % 32)

abbrev pub group : List ℕ → ℕ → ℕ → Bool
group = flag group_field

abbrev pub enabled : List ℕ → ℕ → ℕ → Bool
enabled = flag enabled_field

abbrev pub latch : List ℕ → ℕ → ℕ → Bool
latch = flag latch_field

abbrev pub active : List ℕ → ℕ → ℕ → Bool
active = flag active_field

abbrev pub line : List ℕ → ℕ → ℕ → Bool
line = flag line_field

abbrev pub edge : List ℕ → ℕ → ℕ → Bool
edge s v id = bit (word s (bank v (id / 32) + edge_field + id % 32 / 16)) (id % 16)

abbrev pub priority : List ℕ → ℕ → ℕ → ℕ
priority s v id = word s (bank v (id / 32) + priority_field + id % 32 / 4) / 2 ^ (8 * (id % 4)) % 256

abbrev pub route : List ℕ → ℕ → ℕ
route s id = word s (route_at id)

-- ---- pending: latch, or for a level interrupt latch or line
unfoldable pub pending : List ℕ → ℕ → ℕ → Bool
pending s v id = latch s v id || (not (edge s v id) && line s v id)

-- ---- the state with one flag of one interrupt made t
unfoldable pub set_flag : ℕ → Bool → ℕ → ℕ → List ℕ → List ℕ
set_flag k t v id s = set s (bank v (id / 32) + k) (with_bit (word s (bank v (id / 32) + k)) (id % 32) t)
