-- The listed attributes by their families, and that these are exactly the members of `listed`.
use Prim.Native.Nat.{ℕ, zero, suc, ◌+◌, ◌*◌, ◌≤◌, ◌<◌, min}
use mathlib.Core.Path.{ap, ◌≡◌, refl, sym, subst}
use mathlib.Core.List.Memᴰ
use mathlib.Core.List.{map, List, [], ◌∷◌, ◌++◌, Memᴰ}
use mathlib.Core.Logic.{⊎_elim}
use native.Mathlib.Decide.{ℕ_discrete}
use native.Mathlib.Omega.{arith}
use Rattle.model.specs.Words.{each}
use Rattle.model.specs.Layout.{count, vcpus}
use Rattle.model.specs.Attributes.{Attribute, attr}
use Rattle.model.specs.Record.{spi_words, spis, of_vcpu, of_spi_word, of_route, of_vcpu_block, listed}
use Rattle.model.proofs.Soundness.{Ready}
use Rattle.model.proofs.Masks.{SpiWord}

-- ---- the registers of flags that are listed: the set register stands for the pair

pub data Kept : Type 0 where
  groups enables latches actives : Kept

abbrev pub offset_of : Kept → ℕ
offset_of groups = 0x80
offset_of enables = 0x100
offset_of latches = 0x200
offset_of actives = 0x300

-- ---- the system registers that are listed: all that are both ways but SRE

pub data Stored : Type 0 where
  pmr ctlr bpr0 bpr1 ap0r ap1r igrpen0 igrpen1 : Stored

abbrev pub encoding_of : Stored → ℕ
encoding_of pmr = 0xc230
encoding_of ctlr = 0xc664
encoding_of bpr0 = 0xc643
encoding_of bpr1 = 0xc663
encoding_of ap0r = 0xc644
encoding_of ap1r = 0xc648
encoding_of igrpen0 = 0xc666
encoding_of igrpen1 = 0xc667

-- ---- the families

pub data Listed (s : List ℕ) : Attribute → Type 0 where
  control : Listed s (attr 1 0x0)
  status : Listed s (attr 1 0x10)
  spi-flags : (w : ℕ) (k : Kept) → SpiWord s w → Listed s (attr 1 (offset_of k + 4 * w))
  spi-lines : (w : ℕ) → SpiWord s w → Listed s (attr 7 (32 * w))
  spi-priority : (w j : ℕ) → SpiWord s w → j < 8 → Listed s (attr 1 (0x400 + 32 * w + 4 * j))
  spi-config : (w j : ℕ) → SpiWord s w → j < 2 → Listed s (attr 1 (0xc00 + 8 * w + 4 * j))
  spi-route : (id : ℕ) → 32 ≤ id → id < min (count s) 1020 → Listed s (attr 1 (0x6000 + 8 * id))
  vcpu-status : (v : ℕ) → v < vcpus s → Listed s (attr 5 (of_vcpu s v 0x10))
  vcpu-flags : (v : ℕ) (k : Kept) → v < vcpus s → Listed s (attr 5 (of_vcpu s v (0x10000 + offset_of k)))
  vcpu-lines : (v : ℕ) → v < vcpus s → Listed s (attr 7 (of_vcpu s v 0))
  vcpu-priority : (v j : ℕ) → v < vcpus s → j < 8 → Listed s (attr 5 (of_vcpu s v (0x10400 + 4 * j)))
  vcpu-system : (v : ℕ) (p : Stored) → v < vcpus s → Listed s (attr 6 (of_vcpu s v (encoding_of p)))

-- ---- membership in a list made block by block

pub in-each {ℓ} : {A : Type ℓ} (f : ℕ → List A) (b k j : ℕ) {a : A} → b ≤ j → j < b + k → Memᴰ a (f j) → Memᴰ a (each f b k)
unfolding each
in-each f b zero j l h m = absurd (omega arith)
in-each {A} f b (suc k) j {a} l h m = cases (λ g. in-each f (suc b) k j g (omega arith) m) (ℕ_discrete j b)
  where
    cases : (suc b ≤ j → Memᴰ a (each f (suc b) k)) → Dec (j ≡ b) → Memᴰ a (f b ++ each f (suc b) k)
    cases ih (yes e) = Memᴰ.append_left (each f (suc b) k) (subst (λ (x : ℕ). Memᴰ a (f x)) e m)
    cases ih (no n) = Memᴰ.append_right (f b) (ih (omega arith))

pub record Block {ℓ} {A : Type ℓ} (f : ℕ → List A) (b k : ℕ) (a : A) : Type ℓ where
  pub number : ℕ
  pub low : b ≤ number
  pub high : number < b + k
  pub there : Memᴰ a (f number)

pub mem-each {ℓ} : {A : Type ℓ} (f : ℕ → List A) (b k : ℕ) {a : A} → Memᴰ a (each f b k) → Block f b k a
unfolding each
mem-each f b zero m = absurd (Memᴰ.not-nil m)
mem-each f b (suc k) {a} m = ⊎_elim (λ q. record { number = b; low = omega arith; high = omega arith; there = q }) (λ q. later (mem-each f (suc b) k q)) (Memᴰ.append_cases (f b) m)
  where
    later : Block f (suc b) k a → Block f b (suc k) a
    later r = record { number = r.number; low = omega (arith, r.low); high = omega (arith, r.high); there = r.there }

-- what is in a list is, through f, in the list of what f gives
pub mem-map {ℓ ℓ'} : {A : Type ℓ} {B : Type ℓ'} (f : A → B) (l : List A) {a : A} → Memᴰ a l → Memᴰ (f a) (map f l)
mem-map f [] m = absurd (Memᴰ.not-nil m)
mem-map f (x ∷ l) (Memᴰ.head e) = Memᴰ.head (ap f e)
mem-map f (x ∷ l) (Memᴰ.tail m) = Memᴰ.tail (mem-map f l m)

-- a block of one
single : {a b : Attribute} → Memᴰ a (b ∷ []) → a ≡ b
single (Memᴰ.head e) = e
single (Memᴰ.tail m) = absurd (Memᴰ.not-nil m)

-- ---- every member is of a family

module _ (s : List ℕ) (h : Ready s) where
  is : {a b : Attribute} → a ≡ b → Listed s b → Listed s a
  is e l = subst (Listed s) (sym e) l

  of-spi-word : (w : ℕ) {a : Attribute} → SpiWord s w → Memᴰ a (of_spi_word w) → Listed s a
  unfolding of_spi_word
  of-spi-word w q (Memᴰ.head e) = is e (spi-flags w groups q)
  of-spi-word w q (Memᴰ.tail (Memᴰ.head e)) = is e (spi-flags w enables q)
  of-spi-word w q (Memᴰ.tail (Memᴰ.tail (Memᴰ.head e))) = is e (spi-flags w latches q)
  of-spi-word w q (Memᴰ.tail (Memᴰ.tail (Memᴰ.tail (Memᴰ.head e)))) = is e (spi-flags w actives q)
  of-spi-word w q (Memᴰ.tail (Memᴰ.tail (Memᴰ.tail (Memᴰ.tail (Memᴰ.head e))))) = is e (spi-lines w q)
  of-spi-word w q (Memᴰ.tail (Memᴰ.tail (Memᴰ.tail (Memᴰ.tail (Memᴰ.tail m))))) =
      ⊎_elim (λ p. let b = mem-each _ 0 8 p in is (single b.there) (spi-priority w b.number q (omega (arith, b.high))))
      (λ p. let b = mem-each _ 0 2 p in is (single b.there) (spi-config w b.number q (omega (arith, b.high))))
      (Memᴰ.append_cases (each (λ j. attr 1 (0x400 + 32 * w + 4 * j) ∷ []) 0 8) m)

  of-interface : (v : ℕ) {a : Attribute} → v < vcpus s
      → Memᴰ a (attr 6 (of_vcpu s v 0xc230) ∷ attr 6 (of_vcpu s v 0xc664) ∷ attr 6 (of_vcpu s v 0xc643) ∷ attr 6 (of_vcpu s v 0xc663)
      ∷ attr 6 (of_vcpu s v 0xc644) ∷ attr 6 (of_vcpu s v 0xc648) ∷ attr 6 (of_vcpu s v 0xc666) ∷ attr 6 (of_vcpu s v 0xc667) ∷ []) → Listed s a
  of-interface v l (Memᴰ.head e) = is e (vcpu-system v pmr l)
  of-interface v l (Memᴰ.tail (Memᴰ.head e)) = is e (vcpu-system v ctlr l)
  of-interface v l (Memᴰ.tail (Memᴰ.tail (Memᴰ.head e))) = is e (vcpu-system v bpr0 l)
  of-interface v l (Memᴰ.tail (Memᴰ.tail (Memᴰ.tail (Memᴰ.head e)))) = is e (vcpu-system v bpr1 l)
  of-interface v l (Memᴰ.tail (Memᴰ.tail (Memᴰ.tail (Memᴰ.tail (Memᴰ.head e))))) = is e (vcpu-system v ap0r l)
  of-interface v l (Memᴰ.tail (Memᴰ.tail (Memᴰ.tail (Memᴰ.tail (Memᴰ.tail (Memᴰ.head e)))))) = is e (vcpu-system v ap1r l)
  of-interface v l (Memᴰ.tail (Memᴰ.tail (Memᴰ.tail (Memᴰ.tail (Memᴰ.tail (Memᴰ.tail (Memᴰ.head e))))))) =
      is e (vcpu-system v igrpen0 l)
  of-interface v l (Memᴰ.tail (Memᴰ.tail (Memᴰ.tail (Memᴰ.tail (Memᴰ.tail (Memᴰ.tail (Memᴰ.tail m))))))) =
      is (single m) (vcpu-system v igrpen1 l)

  of-vcpu : (v : ℕ) {a : Attribute} → v < vcpus s → Memᴰ a (of_vcpu_block s v) → Listed s a
  unfolding of_vcpu_block
  of-vcpu v l (Memᴰ.head e) = is e (vcpu-status v l)
  of-vcpu v l (Memᴰ.tail (Memᴰ.head e)) = is e (vcpu-flags v groups l)
  of-vcpu v l (Memᴰ.tail (Memᴰ.tail (Memᴰ.head e))) = is e (vcpu-flags v enables l)
  of-vcpu v l (Memᴰ.tail (Memᴰ.tail (Memᴰ.tail (Memᴰ.head e)))) = is e (vcpu-flags v latches l)
  of-vcpu v l (Memᴰ.tail (Memᴰ.tail (Memᴰ.tail (Memᴰ.tail (Memᴰ.head e))))) = is e (vcpu-flags v actives l)
  of-vcpu v l (Memᴰ.tail (Memᴰ.tail (Memᴰ.tail (Memᴰ.tail (Memᴰ.tail (Memᴰ.head e)))))) = is e (vcpu-lines v l)
  of-vcpu v l (Memᴰ.tail (Memᴰ.tail (Memᴰ.tail (Memᴰ.tail (Memᴰ.tail (Memᴰ.tail m)))))) =
      ⊎_elim (λ p. let b = mem-each _ 0 8 p in is (single b.there) (vcpu-priority v b.number l (omega (arith, b.high))))
      (λ p. of-interface v l p) (Memᴰ.append_cases (each (λ j. attr 5 (of_vcpu s v (0x10400 + 4 * j)) ∷ []) 0 8) m)

  spi-word : (w : ℕ) → 1 ≤ w → w < 1 + spi_words (count s) → SpiWord s w
  spi-word w l u = record { low = l; high = omega (arith, h.counted.step, h.counted.least) }

  of-rest : {a : Attribute} → Memᴰ a (each of_route 32 (spis (count s)) ++ each (of_vcpu_block s) 0 (vcpus s)) → Listed s a
  unfolding of_route
  of-rest m =
      ⊎_elim (λ p. let b = mem-each of_route 32 (spis (count s)) p in is (single b.there) (spi-route b.number b.low (omega (arith, b.high, h.counted.least))))
      (λ p. let b = mem-each (of_vcpu_block s) 0 (vcpus s) p in of-vcpu b.number (omega (arith, b.high)) b.there)
      (Memᴰ.append_cases (each of_route 32 (spis (count s))) m)

  pub family : {a : Attribute} → Memᴰ a (listed s) → Listed s a
  unfolding listed
  family (Memᴰ.head e) = is e control
  family (Memᴰ.tail (Memᴰ.head e)) = is e status
  family (Memᴰ.tail (Memᴰ.tail m)) =
      ⊎_elim (λ p. let b = mem-each of_spi_word 1 (spi_words (count s)) p in of-spi-word b.number (spi-word b.number b.low b.high) b.there)
      (λ p. of-rest p) (Memᴰ.append_cases (each of_spi_word 1 (spi_words (count s))) m)

-- ---- and every family is listed

module _ (s : List ℕ) (h : Ready s) where
  spi-member : (w : ℕ) {a : Attribute} → SpiWord s w → Memᴰ a (of_spi_word w) → Memᴰ a (listed s)
  unfolding listed
  spi-member w q m = Memᴰ.tail (Memᴰ.tail (Memᴰ.append_left _ (in-each of_spi_word 1 (spi_words (count s)) w q.low (omega (arith, q.high)) m)))

  route-member : (id : ℕ) {a : Attribute} → 32 ≤ id → id < min (count s) 1020 → Memᴰ a (of_route id) → Memᴰ a (listed s)
  unfolding listed
  route-member id l u m =
      Memᴰ.tail (Memᴰ.tail (Memᴰ.append_right (each of_spi_word 1 (spi_words (count s))) (Memᴰ.append_left _ (in-each of_route 32 (spis (count s)) id l (omega arith) m))))

  vcpu-member : (v : ℕ) {a : Attribute} → v < vcpus s → Memᴰ a (of_vcpu_block s v) → Memᴰ a (listed s)
  unfolding listed
  vcpu-member v l m =
      Memᴰ.tail (Memᴰ.tail (Memᴰ.append_right (each of_spi_word 1 (spi_words (count s)))
      (Memᴰ.append_right (each of_route 32 (spis (count s))) (in-each (of_vcpu_block s) 0 (vcpus s) v (omega arith) (omega arith) m))))

  system-member : (v : ℕ) (p : Stored)
      → Memᴰ (attr 6 (of_vcpu s v (encoding_of p))) (attr 6 (of_vcpu s v 0xc230) ∷ attr 6 (of_vcpu s v 0xc664) ∷ attr 6 (of_vcpu s v 0xc643) ∷ attr 6 (of_vcpu s v 0xc663)
      ∷ attr 6 (of_vcpu s v 0xc644) ∷ attr 6 (of_vcpu s v 0xc648) ∷ attr 6 (of_vcpu s v 0xc666) ∷ attr 6 (of_vcpu s v 0xc667) ∷ [])
  system-member v pmr = Memᴰ.head refl
  system-member v ctlr = Memᴰ.tail (Memᴰ.head refl)
  system-member v bpr0 = Memᴰ.tail (Memᴰ.tail (Memᴰ.head refl))
  system-member v bpr1 = Memᴰ.tail (Memᴰ.tail (Memᴰ.tail (Memᴰ.head refl)))
  system-member v ap0r = Memᴰ.tail (Memᴰ.tail (Memᴰ.tail (Memᴰ.tail (Memᴰ.head refl))))
  system-member v ap1r = Memᴰ.tail (Memᴰ.tail (Memᴰ.tail (Memᴰ.tail (Memᴰ.tail (Memᴰ.head refl)))))
  system-member v igrpen0 = Memᴰ.tail (Memᴰ.tail (Memᴰ.tail (Memᴰ.tail (Memᴰ.tail (Memᴰ.tail (Memᴰ.head refl))))))
  system-member v igrpen1 = Memᴰ.tail (Memᴰ.tail (Memᴰ.tail (Memᴰ.tail (Memᴰ.tail (Memᴰ.tail (Memᴰ.tail (Memᴰ.head refl)))))))

  -- past the first places of a list
  five : {a b c d e f : Attribute} {r : List Attribute} → Memᴰ a r → Memᴰ a (b ∷ c ∷ d ∷ e ∷ f ∷ r)
  five m = Memᴰ.tail (Memᴰ.tail (Memᴰ.tail (Memᴰ.tail (Memᴰ.tail m))))

  pub member : {a : Attribute} → Listed s a → Memᴰ a (listed s)
  unfolding listed of_spi_word of_route of_vcpu_block
  member control = Memᴰ.head refl
  member status = Memᴰ.tail (Memᴰ.head refl)
  member (spi-flags w groups q) = spi-member w q (Memᴰ.head refl)
  member (spi-flags w enables q) = spi-member w q (Memᴰ.tail (Memᴰ.head refl))
  member (spi-flags w latches q) = spi-member w q (Memᴰ.tail (Memᴰ.tail (Memᴰ.head refl)))
  member (spi-flags w actives q) = spi-member w q (Memᴰ.tail (Memᴰ.tail (Memᴰ.tail (Memᴰ.head refl))))
  member (spi-lines w q) = spi-member w q (Memᴰ.tail (Memᴰ.tail (Memᴰ.tail (Memᴰ.tail (Memᴰ.head refl)))))
  member (spi-priority w j q l) =
      spi-member w q (five (Memᴰ.append_left _ (in-each (λ i. attr 1 (0x400 + 32 * w + 4 * i) ∷ []) 0 8 j (omega arith) (omega arith) (Memᴰ.head refl))))
  member (spi-config w j q l) =
      spi-member w q (five (Memᴰ.append_right (each (λ i. attr 1 (0x400 + 32 * w + 4 * i) ∷ []) 0 8)
      (in-each (λ i. attr 1 (0xc00 + 8 * w + 4 * i) ∷ []) 0 2 j (omega arith) (omega arith) (Memᴰ.head refl))))
  member (spi-route id l m) = route-member id l m (Memᴰ.head refl)
  member (vcpu-status v l) = vcpu-member v l (Memᴰ.head refl)
  member (vcpu-flags v groups l) = vcpu-member v l (Memᴰ.tail (Memᴰ.head refl))
  member (vcpu-flags v enables l) = vcpu-member v l (Memᴰ.tail (Memᴰ.tail (Memᴰ.head refl)))
  member (vcpu-flags v latches l) = vcpu-member v l (Memᴰ.tail (Memᴰ.tail (Memᴰ.tail (Memᴰ.head refl))))
  member (vcpu-flags v actives l) = vcpu-member v l (Memᴰ.tail (Memᴰ.tail (Memᴰ.tail (Memᴰ.tail (Memᴰ.head refl)))))
  member (vcpu-lines v l) = vcpu-member v l (five (Memᴰ.head refl))
  member (vcpu-priority v j l m) =
      vcpu-member v l (five (Memᴰ.tail (Memᴰ.append_left _ (in-each (λ i. attr 5 (of_vcpu s v (0x10400 + 4 * i)) ∷ []) 0 8 j (omega arith) (omega arith) (Memᴰ.head refl)))))
  member (vcpu-system v p l) =
      vcpu-member v l (five (Memᴰ.tail (Memᴰ.append_right (each (λ i. attr 5 (of_vcpu s v (0x10400 + 4 * i)) ∷ []) 0 8) (system-member v p))))
