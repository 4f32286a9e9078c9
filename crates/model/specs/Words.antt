-- Numbers as words of bits.
--     bit w i        bit i of w
--     gather n f     the number below 2 ^ n whose bit i is f i
--     with_bit w i t  the word w with its bit i made t
--     within n w m   w has only bits of m, all of them below bit n
--     masked m w     the bits of w that m has, below bit 32
--     spread e       the word whose bit 2 i + 1 is bit i of e, i below 16, and whose other bits are 0
use Rattle.std.specs.Prelude.{ℕ, zero, suc, ◌+◌, ◌*◌, ◌/◌, ◌%◌, ◌^◌, Bool, true, false, cond, ◌&&◌, List, [], ◌∷◌, ◌++◌, eqb, leb}

abbrev pub val : Bool → ℕ
val true = 1
val false = 0

unfoldable pub bit : ℕ → ℕ → Bool
bit w i = eqb (w / 2 ^ i % 2) 1

unfoldable pub gather : ℕ → (ℕ → Bool) → ℕ
gather zero f = 0
gather (suc n) f = gather n f + val (f n) * 2 ^ n

unfoldable pub with_bit : ℕ → ℕ → Bool → ℕ
with_bit w i t = gather 32 (λ j. cond (eqb j i) t (bit w j))

unfoldable pub within : ℕ → ℕ → ℕ → Bool
within zero w m = eqb w 0
within (suc n) w m = leb (w % 2) (m % 2) && within n (w / 2) (m / 2)

unfoldable pub masked : ℕ → ℕ → ℕ
masked m w = gather 32 (λ i. bit m i && bit w i)

unfoldable pub spread : ℕ → ℕ
spread e = gather 32 (λ i. eqb (i % 2) 1 && bit e (i / 2))

-- ---- searching and testing over numbers and lists

-- the first of i, i + 1, .. i + n - 1 at which f holds, or i + n
unfoldable pub lowest : (ℕ → Bool) → ℕ → ℕ → ℕ
lowest f zero i = i
lowest f (suc n) i = elim (f i) [ true ↦ i | false ↦ lowest f n (suc i) ]

-- f holds at each number below n
unfoldable pub all_below : (ℕ → Bool) → ℕ → Bool
all_below f zero = true
all_below f (suc n) = f n && all_below f n

-- f holds of each place and the number there, counted from place i
unfoldable pub every : (ℕ → ℕ → Bool) → ℕ → List ℕ → Bool
every f i [] = true
every f i (x ∷ xs) = f i x && every f (suc i) xs

-- what f gives at b, b + 1, .. b + k - 1, one after the other
unfoldable pub each {ℓ} : {A : Type ℓ} → (ℕ → List A) → ℕ → ℕ → List A
each f b zero = []
each f b (suc k) = f b ++ each f (suc b) k
