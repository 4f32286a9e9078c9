-- What the programs of cases print. A number has no leading zeros, and hex digits are small letters.
use Rattle.std.specs.Prelude.{ℕ, ◌+◌, false, cond, List, [], ◌∷◌, ◌++◌, eqb, ℤ, pos, negsuc}
use Rattle.std.specs.Fmt.{digits, decimal, signed_decimal}

-- a space, and a number in hex
unfoldable pub hex_field : ℕ → List ℕ
hex_field n = 0x20 ∷ digits 16 false n

-- a space, and a number in decimal, with its sign
unfoldable pub signed_field : ℤ → List ℕ
signed_field r = 0x20 ∷ signed_decimal r

-- a space, and what is read in hex, or the refusal in decimal
unfoldable pub answer_field : ℤ → List ℕ
answer_field (pos n) = hex_field n
answer_field (negsuc n) = signed_field (negsuc n)

-- nothing of a word that did not change; of another a space, its place in decimal, a colon, and its value in hex
unfoldable pub word_field : ℕ → ℕ → ℕ → List ℕ
word_field at word before = cond (eqb word before) [] (0x20 ∷ decimal at ++ (0x3a ∷ digits 16 false word))

-- each word of a list beside the word that was there before, the first of which has the place at
unfoldable pub changed_fields : ℕ → List ℕ → List ℕ → List ℕ
changed_fields at [] before = []
changed_fields at (word ∷ words) [] = []
changed_fields at (word ∷ words) (old ∷ before) = word_field at word old ++ changed_fields (at + 1) words before
