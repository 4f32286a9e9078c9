-- Laws of `Clear`, for loops that join words by `|`.
use Prim.Native.Nat.{ℕ, zero, suc, ◌+◌, ◌-◌, ◌/◌, ◌%◌, ◌^◌, ◌≤◌, ◌<◌}
use mathlib.Core.Path.{◌≡◌, refl, sym, ◌∙◌, subst}
use mathlib.Core.List.{List, [], ◌∷◌}
use native.Mathlib.Nat.{zero-add, add-zero, mod-one, sub_self, zero-mod, mod-zero, mod-add-mod, mod-eq_of_lt, mod-eq-sub-mod, add-mod_right}
use native.Mathlib.Decide.{dec_lt}
use native.Mathlib.Omega.{arith}
use lib.Bits.{bit_and, bit_or}
use lib.ListN.{length, get_or}
use Rattle.words.proofs.Masks.{or_left, or_right, or-none, and-over-or, and_none}
use Rattle.state.specs.Clear.{Apart, Clear, Joins}

module _ {P : ℕ → Type 0} where
  -- no place, one place, and two parts that meet
  pub clear_none : (a : ℕ) → Clear P a a 0
  clear_none a = record { ordered = omega arith; all = λ e k l m. absurd (omega arith); none = λ h. refl }

  clear-one : (k e x : ℕ) → k + 1 ≡ e → (x ≡ 0 → P k) → (P k → x ≡ 0) → Clear P k e x
  clear-one k e x q f g = record {
    ordered = omega arith;
    all = λ z j l m. let i : k ≡ j = omega arith in subst P i (f z);
    none = λ h. g (h k (omega arith) (omega arith));
  }

  pub clear-join : {a b e x y : ℕ} → Clear P a b x → Clear P b e y → Clear P a e (bit_or x y)
  clear-join {a} {b} {e} {x} {y} p q =
      let l₁ = p.ordered in
      let l₂ = q.ordered in
      record {
        ordered = omega arith;
        all = λ z k l m. elim (dec_lt k b) [ yes i ↦ p.all (or_left x y z) k l i | no i ↦ q.all (or_right x y z) k (omega arith) m ];
        none = λ h. or-none x y (p.none (λ k l m. h k l (omega arith))) (q.none (λ k l m. h k (omega arith) m));
      }

-- where P and Q say the same at each place
pub clear-as : {P Q : ℕ → Type 0} {a e r : ℕ} → ((k : ℕ) → a ≤ k → k < e → P k → Q k) → ((k : ℕ) → a ≤ k → k < e → Q k → P k) → Clear P a e r → Clear Q a e r
clear-as f g t =
    record { ordered = t.ordered; all = λ z k l m. f k l m (t.all z k l m); none = λ h. t.none (λ k l m. g k l m (h k l m)) }

-- ---- words against a row that repeats

-- whole rows of d places lie between a and i, and between i and e
pub record WholeRows (a i e d : ℕ) : Type 0 where
  pub low : a ≤ i
  pub high : i ≤ e
  pub passed : (i - a) % d ≡ 0
  pub left : (e - i) % d ≡ 0

pub at_first : (a e d : ℕ) → a ≤ e → (e - a) % d ≡ 0 → WholeRows a a e d
at_first a e d l h = record { low = omega arith; high = l; passed = rw (sub_self, zero-mod); left = h }

-- before the end there is one more row, and it has a place
pub row-left : (a i e d : ℕ) → WholeRows a i e d → i < e → (0 < d) × (i + d ≤ e)
row-left a i e zero b l = absurd (omega (arith, mod-zero (e - i)))
row-left a i e (suc d) b l = (omega arith, elim (dec_lt (e - i) (suc d)) [ yes m ↦ absurd (omega (arith, mod-eq_of_lt m)) | no m ↦ omega arith ])

pub at_next : (a i e d : ℕ) → WholeRows a i e d → i < e → WholeRows a (i + d) e d
at_next a i e d b l =
    let r = row-left a i e d b l in
    let p : i + d - a ≡ i - a + d = omega arith in
    let q : e - (i + d) ≡ e - i - d = omega arith in
    record {
      low = omega arith;
      high = r.1;
      passed = rw p (add-mod_right (i - a) d ∙ b.passed);
      left = rw q (sym (mod-eq-sub-mod {n = e - i} {m = d} (omega arith)) ∙ b.left);
    }

module _ {s row : List ℕ} where
  -- one word more
  pub clear-word : {a x : ℕ} (j : ℕ) → j < length row → Clear (Apart s row a) a (a + j) x
      → Clear (Apart s row a) a (a + (j + 1)) (bit_or x (bit_and (get_or s (a + j) 0) (get_or row j 0)))
  clear-word {a} j l t =
      let i : a + j - a ≡ j = omega arith in
      let q : (a + j - a) % length row ≡ j = rw i (mod-eq_of_lt l) in
      clear-join t (clear-one (a + j) (a + (j + 1)) (bit_and (get_or s (a + j) 0) (get_or row j 0)) (omega arith) (λ z. record { apart = rw q z }) (λ z. rw q at z.apart))

  -- one row more
  pub clear-row : {a i x y : ℕ} → (i - a) % length row ≡ 0 → Clear (Apart s row a) a i x → Clear (Apart s row i) i (i + length row) y
      → Clear (Apart s row a) a (i + length row) (bit_or x y)
  clear-row {a} {i} d t u =
      clear-join t (clear-as (λ k m n z. record { apart = rw (same k m) z.apart }) (λ k m n z. record { apart = rw (same k m) at z.apart }) u)
    where
      same : (k : ℕ) → i ≤ k → (k - a) % length row ≡ (k - i) % length row
      same k m =
          let l = t.ordered in
          let q : k - a ≡ i - a + (k - i) = omega arith in
          rw q (sym (mod-add-mod (i - a) (length row) (k - i)) ∙ rw (d, zero-add))

-- ---- words joined with no row

-- the words of two halves, a and b on, up to i of each
pub record Halves (s : List ℕ) (a b i low high : ℕ) : Type 0 where
  pub first : Joins s a (a + i) low
  pub second : Joins s b (b + i) high

module _ (s : List ℕ) where
  joins-none : (a : ℕ) → Joins s a (a + 0) 0
  joins-none a = record { tells = λ m h. rw (add-zero, and_none m) (clear_none a) }

  joins-word : (a i x : ℕ) → Joins s a (a + i) x → Joins s a (a + (i + 1)) (bit_or x (get_or s (a + i) 0))
  joins-word a i x j = record {
    tells = λ m h. rw (and-over-or x (get_or s (a + i) 0) m h) (clear-join (j.tells m h) (clear-one (a + i) (a + (i + 1)) (bit_and (get_or s (a + i) 0) m) (omega arith) (λ z. z) (λ z. z)));
  }

  pub halves-none : (a b : ℕ) → Halves s a b 0 0 0
  halves-none a b = record { first = joins-none a; second = joins-none b }

  module _ (a b i low high : ℕ) (h : Halves s a b i low high) where
    pub halves-more : Halves s a b (i + 1) (bit_or low (get_or s (a + i) 0)) (bit_or high (get_or s (b + i) 0))
    halves-more = record { first = joins-word a i low h.first; second = joins-word b i high h.second }

    pub halves-joined : (e : ℕ) → b ≡ a + (e - a) / 2 → a ≤ e → (e - a) % 2 ≡ 0 → (e - a) / 2 ≤ i → i ≤ (e - a) / 2 → Joins s a e (bit_or low high)
    halves-joined e p l q f g =
        let k : a + i ≡ b = omega arith in
        let n : b + i ≡ e = omega arith in
        record { tells = λ m u. rw (and-over-or low high m u) (clear-join (rw k at (h.first.tells m u)) (rw n at (h.second.tells m u))) }

  -- the same bits of each
  pub joins-apart : (a e r m : ℕ) → Joins s a e r → m < 2 ^ 32 → Clear (Apart s (m ∷ []) a) a e (bit_and r m)
  joins-apart a e r m j u = clear-as (λ k l n z. record { apart = rw mod-one z }) (λ k l n z. rw mod-one at z.apart) (j.tells m u)
