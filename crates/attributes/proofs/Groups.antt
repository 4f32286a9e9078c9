-- A call by the group that its number means.
use Rattle.std.specs.Prelude.{Ok, Err}
use Prim.Native.Nat.{ℕ}
use mathlib.Core.Path.{◌≡◌, refl}
use mathlib.Core.Bool.{false}
use mathlib.Core.List.{List, [], ◌∷◌}
use Rattle.model.specs.Sound.{sound}
use Rattle.model.specs.Refusals.{Refusal, first_failing}
use Rattle.model.specs.Attributes.{group_of}
use Rattle.model.specs.Calls.{Call, call, get_attribute, set_attribute, lent_to, filled, get_checks, set_checks, refusal, settle, value, next_core, describe}
use Rattle.model.specs.declared.Errno.TheVariants.{Efault, Enxio}
use Rattle.model.specs.declared.AttributeGroup.{AttributeGroup}
use Rattle.model.specs.declared.AttributeGroup.TheVariants.{Registers, Count, Initialise, Unknown}
use Rattle.model.proofs.Refused.{refusal-list}
use Rattle.attributes.specs.Names.{group_number}
use Rattle.attributes.proofs.Naming.{group-of}

-- ---- a number of each group

abbrev pub number_of : AttributeGroup → ℕ
number_of (Registers q) = group_number q
number_of Count = 3
number_of Initialise = 4
number_of Unknown = 0

numbered : (k : AttributeGroup) → group_of (number_of k) ≡ k
unfolding group_of
numbered (Registers q) = group-of q
numbered Count = refl
numbered Initialise = refl
numbered Unknown = refl

-- ---- a call does what that of another number does which means the same group

alike : (c d : Call) (s : List ℕ) → refusal c s ≡ refusal d s → value c s ≡ value d s → next_core c s ≡ next_core d s → lent_to c s ≡ lent_to d s → filled c s ≡ filled d s → call c s ≡ call d s
unfolding call
alike c d s r v n l f = rw r (step (refusal d s))
  where
    step : (f : Refusal) → settle f c s ≡ settle f d s
    step (Ok tt) = unfold settle in (rw (v, n, f))
    step (Err e) = unfold settle in (rw l)

module _ (g a : ℕ) (s : List ℕ) where
  pub same_get : call (get_attribute g a) s ≡ call (get_attribute (number_of (group_of g)) a) s
  unfolding describe
  same_get =
      let n = number_of (group_of g) in
      alike (get_attribute g a) (get_attribute n a) s (rw (refusal-list (get_attribute g a) s, refusal-list (get_attribute n a) s, numbered (group_of g))) (rw (numbered (group_of g))) refl refl refl

  pub same_set : (x : ℕ) → call (set_attribute g a x) s ≡ call (set_attribute (number_of (group_of g)) a x) s
  unfolding describe
  same_set x =
      let n = number_of (group_of g) in
      alike (set_attribute g a x) (set_attribute n a x) s (rw (refusal-list (set_attribute g a x) s, refusal-list (set_attribute n a x) s, numbered (group_of g))) refl (rw (numbered (group_of g))) refl refl

-- ---- an unknown group

module _ (a : ℕ) (s : List ℕ) where
  abbrev unknown : Refusal
  unknown = first_failing ((sound s, Efault) ∷ (false, Enxio) ∷ [])

  pub unknown_get : call (get_attribute 0 a) s ≡ settle unknown (get_attribute 0 a) s
  unfolding call describe get_checks group_of
  unknown_get = rw (refusal-list (get_attribute 0 a) s)

  pub unknown_set : (x : ℕ) → call (set_attribute 0 a x) s ≡ settle unknown (set_attribute 0 a x) s
  unfolding call describe set_checks group_of
  unknown_set x = rw (refusal-list (set_attribute 0 a x) s)

pub ruleset grouped = (same_get, same_set, unknown_get, unknown_set)
