-- The twelve words, as bytes.
use Rattle.std.specs.Prelude.{ℕ, List, [], ◌∷◌}

abbrev pub irqs : List ℕ
irqs = 0x69 ∷ 0x72 ∷ 0x71 ∷ 0x73 ∷ []

abbrev pub vcpu : List ℕ
vcpu = 0x76 ∷ 0x63 ∷ 0x70 ∷ 0x75 ∷ []

abbrev pub init : List ℕ
init = 0x69 ∷ 0x6e ∷ 0x69 ∷ 0x74 ∷ []

abbrev pub run : List ℕ
run = 0x72 ∷ 0x75 ∷ 0x6e ∷ []

abbrev pub dr : List ℕ
dr = 0x64 ∷ 0x72 ∷ []

abbrev pub dw : List ℕ
dw = 0x64 ∷ 0x77 ∷ []

abbrev pub rr : List ℕ
rr = 0x72 ∷ 0x72 ∷ []

abbrev pub rw : List ℕ
rw = 0x72 ∷ 0x77 ∷ []

abbrev pub sr : List ℕ
sr = 0x73 ∷ 0x72 ∷ []

abbrev pub sw : List ℕ
sw = 0x73 ∷ 0x77 ∷ []

abbrev pub line : List ℕ
line = 0x6c ∷ 0x69 ∷ 0x6e ∷ 0x65 ∷ []

abbrev pub sig : List ℕ
sig = 0x73 ∷ 0x69 ∷ 0x67 ∷ []
