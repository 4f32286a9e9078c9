-- A line: a word and hex numbers, one space between.
use Rattle.std.specs.Prelude.{ℕ, ◌+◌, ◌-◌, ◌*◌, Bool, true, cond, ◌&&◌, false, List, [], ◌∷◌, ◌++◌, eqb, ltb, leb, length, Option, Some, None}
use Rattle.console.specs.Words as word
use Rattle.console.specs.declared.Command.{Command}
use Rattle.console.specs.declared.Command.TheVariants.{Irqs, Vcpu, Init, Run, Dr, Dw, Rr, Rw, Sr, Sw, Line, Sig}

-- ---- the fields of a line, one space between them

abbrev pub space : ℕ
space = 0x20

-- a byte in front of the first of some lists
unfoldable pub joined : ℕ → List (List ℕ) → List (List ℕ)
joined b [] = (b ∷ []) ∷ []
joined b (f ∷ fs) = (b ∷ f) ∷ fs

unfoldable pub fields : List ℕ → List (List ℕ)
fields [] = [] ∷ []
fields (b ∷ bs) = cond (eqb b space) ([] ∷ fields bs) (joined b (fields bs))

-- ---- hex numbers, lower case, 1-16 digits

-- the value of `0` to `9` and `a` to `f`; 16 for any other byte
unfoldable pub digit_of : ℕ → ℕ
digit_of b = cond (leb 0x30 b && leb b 0x39) (b - 0x30) (cond (leb 0x61 b && leb b 0x66) (b - 0x57) 16)

-- n, and further digits after it
unfoldable pub digits_after : ℕ → List ℕ → Option ℕ
digits_after n [] = Some n
digits_after n (b ∷ bs) = cond (ltb (digit_of b) 16) (digits_after (n * 16 + digit_of b) bs) None

unfoldable pub number : List ℕ → Option ℕ
number f = cond (leb 1 (length f) && leb (length f) 16) (digits_after 0 f) None

-- one number more; no word takes five
unfoldable pub further : Option (List ℕ) → Option ℕ → Option (List ℕ)
further ns None = None
further None (Some n) = None
further (Some ns) (Some n) = cond (ltb (length ns) 4) (Some (ns ++ (n ∷ []))) None

unfoldable pub numbers : Option (List ℕ) → List (List ℕ) → Option (List ℕ)
numbers ns [] = ns
numbers ns (f ∷ fs) = numbers (further ns (number f)) fs

-- ---- the twelve words

-- L is 0 or 1; others but sw's VAL at most ffffffff
abbrev pub level : ℕ → Bool
level n = leb n 1

abbrev pub small : ℕ → Bool
small n = leb n 0xffffffff

-- a word, whether its numbers are in range, and what it says
pub record Row : Type 0 where
  pub word : List ℕ
  pub fits : Bool
  pub command : Command

abbrev pub row : List ℕ → Bool → Command → Row
row w f c = record { word = w; fits = f; command = c }

-- irqs N, vcpu A, init, run V L, dr V OFF, dw V OFF VAL, rr V F OFF, rw V F OFF VAL, sr V ENC, sw V ENC VAL, line V ID L, sig V: by how many numbers they have
unfoldable pub rows : Option (List ℕ) → List Row
rows (Some []) = row word.init true Init ∷ []
rows (Some (a ∷ [])) = row word.irqs (small a) (Irqs a) ∷ row word.vcpu (small a) (Vcpu a) ∷ row word.sig (small a) (Sig a) ∷ []
rows (Some (a ∷ b ∷ [])) =
    row word.run (small a && level b) (Run a (eqb b 1))
    ∷ row word.dr (small a && small b) (Dr a b)
    ∷ row word.sr (small a && small b) (Sr a b)
    ∷ []
rows (Some (a ∷ b ∷ c ∷ [])) =
    row word.dw (small a && small b && small c) (Dw a b c)
    ∷ row word.rr (small a && small b && small c) (Rr a b c)
    ∷ row word.sw (small a && small b) (Sw a b c)
    ∷ row word.line (small a && small b && level c) (Line a b (eqb c 1))
    ∷ []
rows (Some (a ∷ b ∷ c ∷ d ∷ [])) = row word.rw (small a && small b && small c && small d) (Rw a b c d) ∷ []
rows (Some (a ∷ b ∷ c ∷ d ∷ e ∷ ns)) = []
rows None = []

-- whether two lists of bytes are the same
unfoldable pub same : List ℕ → List ℕ → Bool
same [] [] = true
same [] (b ∷ m) = false
same (a ∷ l) [] = false
same (a ∷ l) (b ∷ m) = eqb a b && same l m

-- the row that has the word; with no such row, or a number out of range, the line is bad
unfoldable pub line_in : List Row → List ℕ → Option Command
line_in [] w = None
line_in (r ∷ rs) w = cond (same w r.word) (cond r.fits (Some r.command) None) (line_in rs w)

unfoldable pub line_of : List (List ℕ) → Option Command
line_of [] = None
line_of (w ∷ fs) = line_in (rows (numbers (Some []) fs)) w

-- anything over 80 characters is bad
unfoldable pub parsed : List ℕ → Option Command
parsed line = cond (leb (length line) 80) (line_of (fields line)) None
