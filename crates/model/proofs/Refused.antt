-- A refused call answers -errno and changes nothing; any other answers its value and leaves its state; EFAULT comes first.
use Rattle.std.specs.Prelude.{Ok, Err}
use Prim.Native.Nat.{ℕ, zero, suc, ◌-◌, ◌<◌}
use mathlib.Core.Path.{◌≡◌, refl, sym, ap, ◌∙◌}
use mathlib.Core.Bool.{Bool, true, false, not}
use mathlib.Core.List.{List, [], ◌∷◌, ◌++◌}
use mathlib.Core.Logic.{◌⊎◌, inl, inr, ◌↔◌}
use native.Mathlib.Omega.{arith}
use borrow.Author.Tests.{eq-eqb, ne_eqb, lt-ltb, le-ltb, le-leb, lt-leb, not-true, not-false}
use lib.IntN.{pos, negsuc, neg_ℤ}
use Rattle.model.specs.Refusals.{Refusal, Check, first_failing, errno, number}
use Rattle.model.specs.Calls.{Call, Outcome, Does, lent_to, acceptable, checks, refusal, value, next_core, next, filled, settle, call}
use Rattle.model.specs.Roles.{with_derived}
use Rattle.model.specs.declared.Errno.{Errno}
use Rattle.model.specs.declared.Errno.TheVariants.{Eperm, Eio, Enxio, Enomem, Efault, Ebusy, Eexist, Enodev, Einval, Enospc, Ebadmsg}

-- ---- a list of tests: all hold, or a first one fails

abbrev pub Passed : List Check → Type 0
Passed [] = Unit {0}
Passed (c ∷ cs) = (c.0 ≡ true) × Passed cs

pub passed : (cs : List Check) → first_failing cs ≡ Ok tt → Passed cs
unfolding first_failing
passed [] e = tt
passed (c ∷ cs) e = step c.0 refl (passed cs)
  where
    step : (b : Bool) → c.0 ≡ b → (first_failing cs ≡ Ok tt → Passed cs) → (c.0 ≡ true) × Passed cs
    step true q ih = (q, ih (rw (q, first_failing) at e))
    step false q ih = let z : ◌≡◌ {A = ℕ} 0 1 = cc (rw (q, first_failing) at e) in absurd (omega arith)

pub none_of : (cs : List Check) → Passed cs → first_failing cs ≡ Ok tt
unfolding first_failing
none_of [] h = refl
none_of (c ∷ cs) h = rw (h.0, first_failing) (none_of cs h.1)

-- the first test that fails has the errno e: those before it hold
pub data Fails : List Check → Errno → Type 0 where
  fails : {b : Bool} {e : Errno} {cs : List Check} → b ≡ false → Fails ((b, e) ∷ cs) e
  holds : {b : Bool} {e n : Errno} {cs : List Check} → b ≡ true → Fails cs n → Fails ((b, e) ∷ cs) n

pub fails-first : {cs : List Check} {n : Errno} → Fails cs n → first_failing cs ≡ Err n
unfolding first_failing
fails-first (fails e) = rw (e, first_failing)
fails-first (holds e h) = rw (e, first_failing) (fails-first h)

-- tests in front of others: where none fails the others decide, and a failing one stays
pub none_then : (xs ys : List Check) → first_failing xs ≡ Ok tt → first_failing (xs ++ ys) ≡ first_failing ys
unfolding first_failing
none_then [] ys e = refl
none_then (x ∷ xs) ys e = step x.0 (none_then xs ys) e
  where
    step : (b : Bool) → (first_failing xs ≡ Ok tt → first_failing (xs ++ ys) ≡ first_failing ys) → ◌≡◌ {A = Refusal} (elim b [ true ↦ first_failing xs | false ↦ Err x.1 ]) (Ok tt)
        → ◌≡◌ {A = Refusal} (elim b [ true ↦ first_failing (xs ++ ys) | false ↦ Err x.1 ]) (first_failing ys)
    step true ih h = ih h
    step false ih h = let z : ◌≡◌ {A = ℕ} 0 1 = cc in absurd (omega arith)

pub fails-then : (xs ys : List Check) (e : Errno) → first_failing xs ≡ Err e → first_failing (xs ++ ys) ≡ Err e
unfolding first_failing
fails-then [] ys e h = let z : ◌≡◌ {A = ℕ} 0 1 = cc in absurd (omega arith)
fails-then (x ∷ xs) ys e h = step x.0 (fails-then xs ys e) h
  where
    step : (b : Bool) → (first_failing xs ≡ Err e → first_failing (xs ++ ys) ≡ Err e) → ◌≡◌ {A = Refusal} (elim b [ true ↦ first_failing xs | false ↦ Err x.1 ]) (Err e)
        → ◌≡◌ {A = Refusal} (elim b [ true ↦ first_failing (xs ++ ys) | false ↦ Err x.1 ]) (Err e)
    step true ih g = ih g
    step false ih g = g

-- a test that stands twice
pub twice : (c : Check) (cs : List Check) → first_failing (c ∷ c ∷ cs) ≡ first_failing (c ∷ cs)
unfolding first_failing
twice c cs = step c.0 refl
  where
    step : (t : Bool) → c.0 ≡ t → first_failing (c ∷ c ∷ cs) ≡ first_failing (c ∷ cs)
    step true q = rw (q, first_failing) (rw (q, first_failing))
    step false q = rw (q, first_failing)

pub after : (c : Check) (xs ys : List Check) → first_failing xs ≡ first_failing ys → first_failing (c ∷ xs) ≡ first_failing (c ∷ ys)
unfolding first_failing
after c xs ys e = ap (λ (f : Refusal). elim c.0 [ true ↦ f | false ↦ Err c.1 ]) e

-- ---- EFAULT first, then the call's own tests in their order

pub fault-first : (c : Call) (s : List ℕ) → acceptable c s ≡ false → refusal c s ≡ Err Efault
unfolding refusal
fault-first c s e = rw (e, refusal)

pub tests-next : (c : Call) (s : List ℕ) → acceptable c s ≡ true → refusal c s ≡ first_failing (checks c s)
unfolding refusal
tests-next c s e = rw (e, refusal)

pub refusal-list : (c : Call) (s : List ℕ) → refusal c s ≡ first_failing ((acceptable c s, Efault) ∷ checks c s)
unfolding refusal first_failing
refusal-list c s = refl

-- where a call is not refused, its state is acceptable and all its tests hold
pub unrefused : (c : Call) (s : List ℕ) → refusal c s ≡ Ok tt → (acceptable c s ≡ true) × Passed (checks c s)
unrefused c s e = step (acceptable c s) refl
  where
    step : (b : Bool) → acceptable c s ≡ b → (acceptable c s ≡ true) × Passed (checks c s)
    step true h = (h, passed (checks c s) (sym (tests-next c s h) ∙ e))
    step false h = let z : ◌≡◌ {A = ℕ} 0 1 = cc (sym (fault-first c s h) ∙ e) in absurd (omega arith)

-- a call whose state is not acceptable answers -14, whatever it is
pub fault-answer : (c : Call) (s : List ℕ) → acceptable c s ≡ false → (call c s).answer ≡ neg_ℤ (pos 14)
unfolding call settle number errno
fault-answer c s e = ap (λ (r : Refusal). (settle r c s).answer) (fault-first c s e)

-- ---- every call is refused or not

pub granted : (c : Call) (s : List ℕ) → refusal c s ≡ Ok tt → call c s ≡ record { answer = pos (value c s); state = next c s; buffers = filled c s }
unfolding call settle number
granted c s e = ap (λ (r : Refusal). settle r c s) e

pub refused : (c : Call) (s : List ℕ) (e : Errno) → refusal c s ≡ Err e → call c s ≡ record { answer = neg_ℤ (pos (errno e)); state = s; buffers = lent_to c s }
unfolding call settle number
refused c s e h = ap (λ (r : Refusal). settle r c s) h

pub refused-or-granted : (c : Call) (s : List ℕ) → (refusal c s ≡ Ok tt) ⊎ ((e : Errno) × (refusal c s ≡ Err e))
refused-or-granted c s = step (refusal c s) refl
  where
    step : (r : Refusal) → refusal c s ≡ r → (refusal c s ≡ Ok tt) ⊎ ((e : Errno) × (refusal c s ≡ Err e))
    step (Ok tt) h = inl h
    step (Err e) h = inr (e, h)

-- a call that is refused with e changes no word of the state and nothing of the lent buffers
pub record IsRefused (c : Call) (s : List ℕ) (e : Errno) : Type 0 where
  pub refuses : refusal c s ≡ Err e
  pub answer : (call c s).answer ≡ neg_ℤ (pos (errno e))
  pub state : (call c s).state ≡ s
  pub buffers : (call c s).buffers ≡ lent_to c s

-- a call that is not refused
pub record IsGranted (c : Call) (s : List ℕ) : Type 0 where
  pub grants : refusal c s ≡ Ok tt
  pub answer : (call c s).answer ≡ pos (value c s)
  pub state : (call c s).state ≡ next c s
  pub buffers : (call c s).buffers ≡ filled c s

pub is-refused : (c : Call) (s : List ℕ) (e : Errno) → refusal c s ≡ Err e → IsRefused c s e
is-refused c s e h =
    record {
      refuses = h;
      answer = ap (λ (o : Outcome). o.answer) (refused c s e h);
      state = ap (λ (o : Outcome). o.state) (refused c s e h);
      buffers = ap (λ (o : Outcome). o.buffers) (refused c s e h);
    }

pub is-granted : (c : Call) (s : List ℕ) → refusal c s ≡ Ok tt → IsGranted c s
is-granted c s h =
    record {
      grants = h;
      answer = ap (λ (o : Outcome). o.answer) (granted c s h);
      state = ap (λ (o : Outcome). o.state) (granted c s h);
      buffers = ap (λ (o : Outcome). o.buffers) (granted c s h);
    }

pub every_call : (c : Call) (s : List ℕ) → IsGranted c s ⊎ ((e : Errno) × IsRefused c s e)
every_call c s = step (refused-or-granted c s)
  where
    step : (refusal c s ≡ Ok tt) ⊎ ((e : Errno) × (refusal c s ≡ Err e)) → IsGranted c s ⊎ ((e : Errno) × IsRefused c s e)
    step (inl h) = inl (is-granted c s h)
    step (inr h) = inr (h.0, is-refused c s h.0 h.1)

-- ---- the answer is negative exactly when the call is refused

pub errno-positive : (e : Errno) → 0 < errno e
unfolding errno
errno-positive Eperm = omega arith
errno-positive Eio = omega arith
errno-positive Enxio = omega arith
errno-positive Enomem = omega arith
errno-positive Efault = omega arith
errno-positive Ebusy = omega arith
errno-positive Eexist = omega arith
errno-positive Enodev = omega arith
errno-positive Einval = omega arith
errno-positive Enospc = omega arith
errno-positive Ebadmsg = omega arith

minus : (n : ℕ) → 0 < n → neg_ℤ (pos n) ≡ negsuc (n - 1)
minus zero h = absurd (omega arith)
minus (suc n) h = let e : suc n - 1 ≡ n = omega arith in rw e

pub negative-errno : (c : Call) (s : List ℕ) (n : ℕ) → (call c s).answer ≡ negsuc n → (e : Errno) × (refusal c s ≡ Err e) × (errno e ≡ suc n)
negative-errno c s n h = step (every_call c s)
  where
    step : IsGranted c s ⊎ ((e : Errno) × IsRefused c s e) → (e : Errno) × (refusal c s ≡ Err e) × (errno e ≡ suc n)
    step (inl g) = let z : ◌≡◌ {A = ℕ} 0 1 = cc g.answer in absurd (omega arith)
    step (inr r) =
        let k : errno r.0 - 1 ≡ n = cc (r.1.answer, minus (errno r.0) (errno-positive r.0)) in
        (r.0, r.1.refuses, omega (arith, errno-positive r.0))

pub refused-negative : (c : Call) (s : List ℕ) (e : Errno) → refusal c s ≡ Err e → (call c s).answer ≡ negsuc (errno e - 1)
refused-negative c s e h = (is-refused c s e h).answer ∙ minus (errno e) (errno-positive e)

pub negative-refused : (c : Call) (s : List ℕ) → ((n : ℕ) × ((call c s).answer ≡ negsuc n)) ↔ ((e : Errno) × (refusal c s ≡ Err e))
negative-refused c s =
    (λ h. let r = negative-errno c s h.0 h.1 in (r.0, r.1), λ h. (errno h.0 - 1, refused-negative c s h.0 h.1))

-- ---- what a function of the code promises: the refusal, and the call by its refusal

pub fault-is : (c : Call) (s : List ℕ) → acceptable c s ≡ false → Err Efault ≡ refusal c s
fault-is c s e = sym (fault-first c s e)

pub refuse-is : (c : Call) (s : List ℕ) (e : Errno) → acceptable c s ≡ true → Fails (checks c s) e → Err e ≡ refusal c s
refuse-is c s e a h = sym (tests-next c s a ∙ fails-first h)

pub none_is : (c : Call) (s : List ℕ) → acceptable c s ≡ true → Passed (checks c s) → Ok tt ≡ refusal c s
none_is c s a h = sym (tests-next c s a ∙ none_of (checks c s) h)

pub refuses : (c : Call) (s : List ℕ) (b : List (List ℕ)) (e : Errno) → Err e ≡ refusal c s → b ≡ lent_to c s → Does (call c s) (number (Err e)) s b
unfolding number
refuses c s b e h r = rw (refused c s e (sym h)) (record { answer = refl; state = refl; buffers = r })

-- the code stores what the core's next state has: no word is derived yet
pub grants : (c : Call) (s : List ℕ) (v : ℕ) (t : List ℕ) (b : List (List ℕ)) → Ok tt ≡ refusal c s → v ≡ value c s → t ≡ next_core c s → b ≡ filled c s → Does (call c s) (number (Ok v)) t b
unfolding number with_derived
grants c s v t b h p q r = rw (granted c s (sym h)) (record { answer = ap pos p; state = q; buffers = r })

-- what a function that returns a test's value tells
pub told-no : (b r : Bool) → r ≡ b → not r ≡ true → b ≡ false
told-no b r e h = sym e ∙ not-true r h

pub told-yes : (b r : Bool) → r ≡ b → not r ≡ false → b ≡ true
told-yes b r e h = sym e ∙ not-false r h

-- what a branch of the code has tested, as the value of a check: `search tests` finds the branches' facts
pub ruleset tests = (fails, holds, told-no, told-yes, eq-eqb, ne_eqb, lt-ltb, le-ltb, le-leb, lt-leb)
