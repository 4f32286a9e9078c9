-- What the functions on words give: each word by its bits.
use Rattle.std.specs.Prelude.{ℕ, ◌+◌, ◌*◌, ◌/◌, ◌%◌, ◌^◌, false, not, cond, ◌&&◌, ◌||◌, List, eqb, ltb, leb}
use Rattle.model.specs.Words.{bit, gather, with_bit, lowest}
use Rattle.model.specs.Layout.{word, latch_field, line_field, edge_field}
use Rattle.model.specs.Registers.{flag_after}
use Rattle.model.specs.declared.Rule.{Rule}

-- ---- writing under a mask

-- the flags w after x is written by a rule to those that the mask m names
unfoldable pub under : Rule → ℕ → ℕ → ℕ → ℕ
under rule w x m = gather 32 (λ i. cond (bit m i) (flag_after rule (bit w i) (bit x i)) (bit w i))

-- the four priorities w after x is written under the mask m: of each byte of x the low 3 bits are dropped
unfoldable pub priority_under : ℕ → ℕ → ℕ → ℕ
priority_under w x m = gather 32 (λ i. cond (bit m i) (leb 3 (i % 8) && bit x i) (bit w i))

-- ---- bytes

-- byte k of w
abbrev pub byte_of : ℕ → ℕ → ℕ
byte_of w k = w / 2 ^ (8 * k) % 256

-- the word whose byte k is the low byte of x, and no other bit is set
abbrev pub byte_shifted : ℕ → ℕ → ℕ
byte_shifted x k = x % 256 * 2 ^ (8 * k)

-- the mask of byte k
unfoldable pub byte_mask : ℕ → ℕ
byte_mask k = gather 32 (λ i. eqb (i / 8) k)

-- ---- edge flags of 16 interrupts, and a word of ICFGR: two bits each, the upper one is the flag (model's `spread`)

-- the edge flags in the word x of ICFGR
unfoldable pub collect : ℕ → ℕ
collect x = gather 16 (λ i. bit x (2 * i + 1))

-- ---- pending: latch, or for a level interrupt latch or line

-- of 32 interrupts, with the edge flags of the first 16 in low and of the last 16 in high
unfoldable pub pending_word : ℕ → ℕ → ℕ → ℕ → ℕ
pending_word latch line low high = gather 32 (λ i. bit latch i || (not (bit (cond (ltb i 16) low high) (i % 16)) && bit line i))

-- of the interrupts of the bank b
unfoldable pub pending_in : List ℕ → ℕ
pending_in b = pending_word (word b latch_field) (word b line_field) (word b edge_field) (word b (edge_field + 1))

-- ---- set bits, the lowest first

-- m, which is not 0, without its lowest set bit
unfoldable pub rest : ℕ → ℕ
rest m = with_bit m (lowest (bit m) 32 0) false
