-- What a test for soundness says of the state, and what a list of tests, EFAULT first, says of the call that makes them.
use Rattle.std.specs.Prelude.{IsErrAnd, Result, Ok, Err}
use Prim.Native.Nat.{ℕ, ◌≤◌, ◌<◌}
use mathlib.Core.Path.{◌≡◌, sym, ap, ◌∙◌}
use mathlib.Core.Bool.{Bool, true, false, not}
use mathlib.Core.List.{List, ◌∷◌}
use mathlib.Core.Logic.{◌⊎◌, inl, inr}
use native.Mathlib.Omega.{arith}
use borrow.Author.Tests.{eq-eqb, ne_eqb, ltb-true}
use lib.Dec.{eqb, lit<}
use lib.ListN.{length}
use mir.Syntax.{w64}
use mir.Val.{Fits}
use Rattle.model.specs.Layout.{state_length, most_vcpus, is_initialised, vcpus}
use Rattle.model.specs.Sound.{core, sound, stopped}
use Rattle.model.specs.Refusals.{Refusal, Check, first_failing, number}
use Rattle.model.specs.Calls.{Call, acceptable, in_phase, vcpu_checks, checks, refusal, Does, call, lent_to}
use Rattle.model.specs.declared.Phase.{Phase}
use Rattle.model.specs.declared.Phase.TheVariants.{Initialised, Changing, Stopped}
use Rattle.model.specs.declared.Errno.{Errno}
use Rattle.model.specs.declared.Errno.TheVariants.{Efault}
use Rattle.model.proofs.Soundness.{sound-length, sound-vcpus}
use Rattle.model.proofs.Refused.{Passed, passed, none_of, Fails, fails-first, fault-is, refusal-list, told-yes, refuses, grants, tests}

-- ---- after the test for soundness

pub sound-size : (s : List ℕ) (r : Bool) → r ≡ sound s → not r ≡ false → length s ≡ state_length
sound-size s r e h = sound-length s (told-yes (sound s) r e h)

pub sound-inside : (s : List ℕ) (r : Bool) (i : ℕ) → r ≡ sound s → not r ≡ false → i < state_length → i < length s
sound-inside s r i e h l = omega (arith, sound-size s r e h)

pub sound-few : (s : List ℕ) (r : Bool) → r ≡ sound s → not r ≡ false → vcpus s ≤ most_vcpus
sound-few s r e h = sound-vcpus s (told-yes (sound s) r e h)

pub sound-fits : (s : List ℕ) (r : Bool) → r ≡ sound s → not r ≡ false → Fits w64 (vcpus s)
sound-fits s r e h = record { fits = omega (arith, sound-few s r e h) }

-- an index below the number of vCPUs
pub sound-index : (s : List ℕ) (r : Bool) (v : ℕ) → r ≡ sound s → not r ≡ false → v < vcpus s → v < most_vcpus
sound-index s r v e h l = omega (arith, sound-few s r e h)

-- ---- the value of a test `not (eqb a b)`

pub eq-not : (a b : ℕ) → a ≡ b → not (eqb a b) ≡ false
eq-not a b e = rw (eq-eqb a b e)

pub ne-not : (a b : ℕ) → ¬ (a ≡ b) → not (eqb a b) ≡ true
ne-not a b n = rw (ne_eqb a b n)

-- and of a test of what a function gave
pub gave-eq : (a b r : ℕ) → r ≡ a → r ≡ b → eqb a b ≡ true
gave-eq a b r e h = eq-eqb a b (sym e ∙ h)

pub gave-ne : (a b r : ℕ) → r ≡ a → ¬ (r ≡ b) → eqb a b ≡ false
gave-ne a b r e n = ne_eqb a b (λ h. n (e ∙ h))

-- ---- the phase that a call asks for

module _ (s : List ℕ) (p : Phase) where
  pub phase-set_up : (p ≡ Initialised) ⊎ (p ≡ Changing) → is_initialised s ≡ in_phase p s
  phase-set_up (inl e) = rw e
  phase-set_up (inr e) = rw e

  pub phase-stopped : (r : Bool) → p ≡ Stopped → r ≡ stopped s → r ≡ in_phase p s
  phase-stopped r e h = rw e h

-- ---- the refusal that a branch has come to

pub refuse-first : {cs : List Check} {e : Errno} → Fails cs e → Err e ≡ first_failing cs
refuse-first h = sym (fails-first h)

pub none_first : (cs : List Check) → Passed cs → Ok tt ≡ first_failing cs
none_first cs h = sym (none_of cs h)

-- ---- a call by the answer of its refusal's function

module _ (s : List ℕ) (r : Refusal) (cs : List Check) (e : r ≡ first_failing ((sound s, Efault) ∷ cs)) where
  pub told : (c : Call) (q : Refusal) → r ≡ q → acceptable c s ≡ sound s → cs ≡ checks c s → q ≡ refusal c s
  told c q h l k = sym h ∙ e ∙ rw (refusal-list c s, l, ← k)

  -- where it is none, all tests hold
  pub admitted : r ≡ Ok tt → Passed ((sound s, Efault) ∷ cs)
  admitted n = passed ((sound s, Efault) ∷ cs) (sym e ∙ n)

  -- what a function below asks of a state t that is s
  pub admitted-sound : (t : List ℕ) → r ≡ Ok tt → t ≡ s → sound t ≡ true
  admitted-sound t n q = rw q (admitted n).0

  pub admitted-size : (t : List ℕ) → r ≡ Ok tt → t ≡ s → length t ≡ state_length
  admitted-size t n q = sound-length t (admitted-sound t n q)

  pub admitted-few : (t : List ℕ) → r ≡ Ok tt → t ≡ s → vcpus t ≤ most_vcpus
  admitted-few t n q = sound-vcpus t (admitted-sound t n q)

  pub admitted-inside : (t : List ℕ) (i : ℕ) → r ≡ Ok tt → t ≡ s → i < state_length → i < length t
  admitted-inside t i n q l = omega (arith, admitted-size t n q)

-- the answer that `?` gives for a refusal
pub passed_on : {A : Type 0} (r : Result A Errno) (e : Errno) → IsErrAnd r (λ y. y ≡ e) → r ≡ Err e
passed_on (Err e₁) e h = ap (λ (x : Errno). Err x) h
passed_on (Ok x) e h = absurd h

-- words of another length are no state
pub no_state : (s : List ℕ) → ¬ (length s ≡ state_length) → sound s ≡ false
unfolding sound core
no_state s n = rw (ne_eqb (length s) state_length n)

-- and a call that asks for a sound state is refused there
pub unsized : (c : Call) (s : List ℕ) (b : List (List ℕ)) → ¬ (length s ≡ state_length) → acceptable c s ≡ sound s → b ≡ lent_to c s → Does (call c s) (number (Err Efault)) s b
unsized c s b n a e = refuses c s b Efault (fault-is c s (a ∙ no_state s n)) e

-- a vCPU that is there has its block
pub vcpu-inside : (s : List ℕ) (r : Refusal) (p : Phase) (v : ℕ) → r ≡ first_failing ((sound s, Efault) ∷ vcpu_checks p v s) → r ≡ Ok tt → v < most_vcpus
vcpu-inside s r p v e n =
    let p = admitted s r (vcpu_checks p v s) e n in
    omega (arith, ltb-true v (vcpus s) p.1.1.0, sound-vcpus s p.0)

-- `search inside` finds what the test for soundness says, `search refusing` which refusal a branch has come to, `search answering` what a call does by it
pub ruleset inside = (sound-inside, sound-size, sound-few, sound-fits, sound-index, lit<)

pub ruleset refusing = (refuse-first, none_first, eq-not, ne-not, gave-eq, gave-ne, tests)

pub ruleset answering = (refuses, grants, told, unsized)
