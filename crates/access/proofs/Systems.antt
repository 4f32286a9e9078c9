-- A guest's read and write of a system register by their tests: those of every guest's access, then the register's own.
use Rattle.std.specs.Prelude.{Ok, Err}
use Prim.Native.Nat.{ℕ, ◌<◌}
use mathlib.Core.Path.{◌≡◌, refl, sym, ◌∙◌}
use mathlib.Core.List.{List, [], ◌∷◌, ◌++◌}
use Rattle.model.specs.Layout.{most_vcpus}
use Rattle.model.specs.Sound.{sound}
use Rattle.model.specs.Refusals.{Answer, Refusal, Check, first_failing, number}
use Rattle.model.specs.Interface.{system}
use Rattle.model.specs.Calls.{Call, Does, call, acceptable, lent_to, filled, guest_checks, read_phase, read_checks, write_checks, checks, refusal, value, next_core, read_system, write_system, describe}
use Rattle.model.specs.declared.Phase.{Phase}
use Rattle.model.specs.declared.Phase.TheVariants.{Changing}
use Rattle.model.specs.declared.Errno.{Errno}
use Rattle.model.specs.declared.Errno.TheVariants.{Efault}
use Rattle.model.specs.declared.SystemRegister.{SystemRegister}
use Rattle.model.proofs.Kept.{in-phase}
use Rattle.model.proofs.Refused.{none_then, fails-then, refusal-list, refuses, grants}
use Rattle.state.proofs.Admitted.{admitted}
use Rattle.priority.specs.Asked.{Usable}
use Rattle.priority.specs.Settled.{Settled}
use Rattle.system.specs.Answers.{Reads, Writes}
use Rattle.priority.proofs.Usable.{usable}

-- ---- tests in front of others, in a call on a device

module _ (c : Call) (s : List ℕ) (a : acceptable c s ≡ sound s) (l : [] ≡ lent_to c s) (f : [] ≡ filled c s) where
  device-list : (xs ys : List Check) → checks c s ≡ xs ++ ys → refusal c s ≡ first_failing (((sound s, Efault) ∷ xs) ++ ys)
  device-list xs ys k = rw (refusal-list c s, a, k)

  front-refused : (xs ys : List Check) (e : Errno) → checks c s ≡ xs ++ ys → first_failing ((sound s, Efault) ∷ xs) ≡ Err e → Does (call c s) (number (Err e)) s []
  front-refused xs ys e k h = refuses c s [] e (sym (device-list xs ys k ∙ fails-then ((sound s, Efault) ∷ xs) ys e h)) l

  -- where those in front hold, the others decide
  by-rest : (q : Refusal) (r : Answer) (t : List ℕ) → refusal c s ≡ q → Settled q (value c s) (next_core c s) s r t → Does (call c s) (number r) t []
  by-rest (Ok tt) r t h d = rw d.answer (grants c s (value c s) t [] (sym h) refl d.state f)
  by-rest (Err e) r t h d = rw (d.answer, d.state) (refuses c s [] e (sym h) l)

  front-passed : (xs ys : List Check) (r : Answer) (t : List ℕ) → checks c s ≡ xs ++ ys → first_failing ((sound s, Efault) ∷ xs) ≡ Ok tt
      → Settled (first_failing ys) (value c s) (next_core c s) s r t → Does (call c s) (number r) t []
  front-passed xs ys r t k h = by-rest (first_failing ys) r t (device-list xs ys k ∙ none_then ((sound s, Efault) ∷ xs) ys h)

-- ---- the two calls, by what `check_guest` answers

module _ (v : ℕ) (s : List ℕ) (q : Refusal) (f : Phase) (p : q ≡ first_failing ((sound s, Efault) ∷ guest_checks f v s)) where
  module _ (n : Errno) (h : q ≡ Err n) where
    pub read-refused : (e : ℕ) (r : SystemRegister) → r ≡ system e → f ≡ read_phase r → Does (call (read_system v e) s) (number (Err n)) s []
    unfolding describe
    read-refused e r k w = front-refused (read_system v e) s refl refl refl (guest_checks (read_phase (system e)) v s) (read_checks (system e) v s) n refl (rw (w, k) at (sym p ∙ h))

    pub write-refused : (e x : ℕ) → f ≡ Changing → Does (call (write_system v e x) s) (number (Err n)) s []
    unfolding describe
    write-refused e x w = front-refused (write_system v e x) s refl refl refl (guest_checks Changing v s) (write_checks (system e)) n refl (rw w at (sym p ∙ h))

  module _ (h : q ≡ Ok tt) (r : SystemRegister) (a : Answer) (t : List ℕ) where
    pub read-settled : (e : ℕ) → f ≡ read_phase r → r ≡ system e → Reads r v s a t → Does (call (read_system v e) s) (number a) t []
    unfolding describe
    read-settled e w k d = front-passed (read_system v e) s refl refl refl (guest_checks (read_phase (system e)) v s) (read_checks (system e) v s) a t refl (rw (w, k) at (sym p ∙ h)) (rw k at d)

    pub write-settled : (e x : ℕ) → f ≡ Changing → r ≡ system e → Writes r v x s a t → Does (call (write_system v e x) s) (number a) t []
    unfolding describe
    write-settled e x w k d = front-passed (write_system v e x) s refl refl refl (guest_checks Changing v s) (write_checks (system e)) a t refl (rw w at (sym p ∙ h)) (rw k at d)

  -- what the functions below ask
  pub guest-usable : (u : List ℕ) → q ≡ Ok tt → u ≡ s → Usable u v
  unfolding guest_checks
  guest-usable u h e = let d = admitted s q (guest_checks f v s) p h in rw e (usable s v d.0 (in-phase f s d.1.0) d.1.1.0)

  pub guest-index : q ≡ Ok tt → v < most_vcpus
  guest-index h = (guest-usable s h refl).index
