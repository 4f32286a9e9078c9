-- What a line prints.
use Rattle.std.specs.Prelude.{ℕ, zero, suc, ◌+◌, ◌/◌, ◌%◌, Bool, true, false, cond, List, [], ◌∷◌, ltb, ℤ, pos, negsuc}

abbrev pub newline : ℕ
newline = 0x0a

-- `0` to `9`, then `a` to `f`
unfoldable pub glyph : ℕ → ℕ
glyph d = cond (ltb d 10) (0x30 + d) (0x57 + d)

-- the digits of n in base b, at most k of them, in front of other bytes
unfoldable pub digits : ℕ → ℕ → ℕ → List ℕ → List ℕ
digits zero b n bytes = bytes
digits (suc k) b n bytes = cond (ltb n b) (glyph n ∷ bytes) (digits k b (n / b) (glyph (n % b) ∷ bytes))

-- a number of 64 bits has at most 20 digits in base 10 or 16
unfoldable pub number_line : ℕ → ℕ → List ℕ
number_line b n = digits 20 b n (newline ∷ [])

-- `ok`, a read's hex, or `-` and errno in decimal
unfoldable pub answer_line : Bool → ℤ → List ℕ
answer_line true (pos n) = number_line 16 n
answer_line false (pos n) = 0x6f ∷ 0x6b ∷ newline ∷ []
answer_line true (negsuc n) = 0x2d ∷ number_line 10 (suc n)
answer_line false (negsuc n) = 0x2d ∷ number_line 10 (suc n)

-- `?` only
unfoldable pub bad_line : List ℕ
bad_line = 0x3f ∷ newline ∷ []
