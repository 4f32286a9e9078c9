-- What a get and a set of an attribute do, by what the attribute names.
use Rattle.std.specs.Prelude.{Option, Some, None, Result, Ok, Err}
use Prim.Native.Nat.{ℕ}
use mathlib.Core.Path.{◌≡◌, refl, sym, ◌∙◌}
use mathlib.Core.Bool.{Bool, true, false, not, true≢false}
use mathlib.Core.List.{List, [], ◌∷◌, ◌++◌}
use Rattle.model.specs.Sound.{sound}
use Rattle.model.specs.Refusals.{Refusal, Check, first_failing}
use Rattle.model.specs.Attributes.{group_of, low, item, known, takes, item_read, item_write}
use Rattle.model.specs.Calls.{get_attribute, set_attribute, register_checks, get_checks, set_checks, refusal, get_value, value, set_state, describe, next_core}
use Rattle.model.specs.declared.Phase.TheVariants.{Stopped}
use Rattle.model.proofs.Kept.{in-phase}
use Rattle.model.specs.declared.Errno.{Errno}
use Rattle.model.specs.declared.Errno.TheVariants.{Efault, Einval}
use Rattle.model.specs.declared.Item.{Item}
use Rattle.model.specs.declared.RegisterGroup.{RegisterGroup}
use Rattle.model.specs.declared.RegisterGroup.TheVariants.{Distributor, Redistributor, Interface, Lines}
use Rattle.model.specs.declared.AttributeGroup.TheVariants.{Registers}
use Rattle.model.proofs.Refused.{none_then, fails-then, passed, refusal-list, told-no, told-yes, refuses, grants}
use Rattle.attributes.specs.Names.{group_number, item_at, named_by, item_named, Within}
use Rattle.attributes.proofs.Placing.{Inside, has_view, placed}

-- ---- the tests of a get, and of a set

pub group-of : (q : RegisterGroup) → group_of (group_number q) ≡ Registers q
unfolding group_of group_number
group-of Distributor = refl
group-of Redistributor = refl
group-of Interface = refl
group-of Lines = refl

module _ (q : RegisterGroup) (a : ℕ) (s : List ℕ) where
  abbrev tested : List Check
  tested = (sound s, Efault) ∷ register_checks q a s

  get-list : refusal (get_attribute (group_number q) a) s ≡ first_failing tested
  unfolding describe get_checks
  get-list = rw (refusal-list (get_attribute (group_number q) a) s, group-of q)

  set-list : (x : ℕ) → refusal (set_attribute (group_number q) a x) s ≡ first_failing (tested ++ ((takes (item q a s) x, Einval) ∷ []))
  unfolding describe set_checks
  set-list x = rw (refusal-list (set_attribute (group_number q) a x) s, group-of q)

  -- ---- by what is named, a get and a set

  module _ (o : Result Item Errno) (e : o ≡ item_named q a s) where
    refused-with : (n : Errno) → o ≡ Err n → first_failing tested ≡ Err n
    unfolding item_named register_checks named_by known
    refused-with n h = step (first_failing tested) (item q a s) refl refl (sym e ∙ h)
      where
        step : (f : Refusal) (i : Option Item) → first_failing tested ≡ f → item q a s ≡ i → named_by f i ≡ Err n → f ≡ Err n
        step (Err k) i g j w = cc
        step (Ok tt) (Some i) g j w = cc
        step (Ok tt) None g j w = absurd (true≢false (sym (rw j at (passed tested g).1.1.1.1.0)))

    pub get-refused : (n : Errno) → o ≡ Err n → Err n ≡ refusal (get_attribute (group_number q) a) s
    get-refused n h = sym (get-list ∙ refused-with n h)

    pub set-refused : (v : ℕ) (n : Errno) → o ≡ Err n → Err n ≡ refusal (set_attribute (group_number q) a v) s
    set-refused v n h = sym (set-list v ∙ fails-then tested _ n (refused-with n h))

    module _ (i : Item) (h : o ≡ Ok i) where
      opened : (first_failing tested ≡ Ok tt) × (item q a s ≡ Some i)
      unfolding item_named named_by
      opened = step (first_failing tested) (item q a s) refl (sym e ∙ h)
        where
          step : (f : Refusal) (j : Option Item) → first_failing tested ≡ f → named_by f j ≡ Ok i → (first_failing tested ≡ Ok tt) × (j ≡ Some i)
          step (Ok tt) (Some j) g w = (g, cc)
          step (Ok tt) None g w = cc
          step (Err n) j g w = cc

      -- what the functions below ask
      pub named-within : Within s i
      unfolding register_checks
      named-within =
          let p = passed tested opened.0 in
          let x = has_view q a s p.1.1.0 in
          let y = placed q a s x.0 x.1 in
          let w : Inside s (item_at q x.0 (low a)) = y.within p.0 (in-phase Stopped s p.1.1.1.0) p.1.0 in
          rw (sym y.is_item ∙ opened.1) at w

      pub get-granted : Ok tt ≡ refusal (get_attribute (group_number q) a) s
      get-granted = sym (get-list ∙ opened.0)

      pub get-value-is : (w : ℕ) → w ≡ item_read s (Some i) → w ≡ value (get_attribute (group_number q) a) s
      unfolding describe get_value
      get-value-is w p = rw (group-of q, opened.1) p

      module _ (v : ℕ) (t : Bool) (g : t ≡ takes (Some i) v) where
        last : refusal (set_attribute (group_number q) a v) s ≡ first_failing ((takes (Some i) v, Einval) ∷ [])
        last = set-list v ∙ none_then tested _ opened.0 ∙ rw opened.1

        pub set-bad : not t ≡ true → Err Einval ≡ refusal (set_attribute (group_number q) a v) s
        unfolding first_failing
        set-bad n = sym (last ∙ rw (told-no (takes (Some i) v) t g n))

        pub set-granted : not t ≡ false → Ok tt ≡ refusal (set_attribute (group_number q) a v) s
        unfolding first_failing
        set-granted n = sym (last ∙ rw (told-yes (takes (Some i) v) t g n))

      pub set-next : (v : ℕ) (t : List ℕ) → t ≡ item_write s (Some i) v → t ≡ next_core (set_attribute (group_number q) a v) s
      unfolding describe set_state
      set-next v t p = rw (group-of q, opened.1) p

-- `search named` finds what a get or a set does by what is named
pub ruleset named = (refuses, grants, get-refused, get-granted, get-value-is, set-refused, set-bad, set-granted, set-next)
