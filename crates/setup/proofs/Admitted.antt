-- What the writers of the set-up calls ask, where their refusal is none.
use Rattle.std.specs.Prelude.{Ok}
use Prim.Native.Nat.{ℕ, ◌<◌}
use mathlib.Core.Path.{◌≡◌}
use mathlib.Core.List.{List, ◌∷◌}
use native.Mathlib.Omega.{arith}
use borrow.Author.Tests.{ltb-true}
use mir.Syntax.{w32}
use mir.Val.{Fits}
use Rattle.model.specs.Layout.{most_vcpus, vcpus}
use Rattle.model.specs.Sound.{sound}
use Rattle.model.specs.Refusals.{Refusal, first_failing}
use Rattle.model.specs.Calls.{add_vcpu, checks, set_checks, describe}
use Rattle.model.specs.declared.Errno.TheVariants.{Efault}
use Rattle.model.specs.declared.AttributeGroup.TheVariants.{Count}
use Rattle.model.proofs.Soundness.{is-count}
use Rattle.state.proofs.Admitted.{admitted}

module _ (s : List ℕ) (r : Refusal) where
  -- room for one vCPU more, in a state t that is s
  pub add-room : (t : List ℕ) (a : ℕ) → r ≡ first_failing ((sound s, Efault) ∷ checks (add_vcpu a) s) → r ≡ Ok tt → t ≡ s → vcpus t < most_vcpus
  unfolding describe
  add-room t a e n q = rw q (ltb-true (vcpus s) most_vcpus (admitted s r (checks (add_vcpu a) s) e n).1.1.1.1.0)

  pub count_fits : (x : ℕ) → r ≡ first_failing ((sound s, Efault) ∷ set_checks Count 0 x s) → r ≡ Ok tt → Fits w32 x
  unfolding set_checks
  count_fits x e n = record { fits = omega (arith, (is-count x (admitted s r (set_checks Count 0 x s) e n).1.0).most) }
