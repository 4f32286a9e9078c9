-- The view that an attribute's register is in, and what is named there.
use Rattle.std.specs.Prelude.{Option, Some, None, is_some}
use Prim.Native.Nat.{ℕ, ◌/◌, ◌%◌, ◌<◌}
use mathlib.Core.Path.{◌≡◌, refl, sym, ◌∙◌}
use mathlib.Core.Bool.{Bool, true, false, cond, true≢false}
use mathlib.Core.List.{List}
use native.Mathlib.Omega.{arith}
use borrow.Author.Tests.{ltb-true, eqb-true}
use lib.Dec.{eqb, ltb}
use Rattle.model.specs.Layout.{most_vcpus, vcpus, is_initialised}
use Rattle.model.specs.Sound.{sound}
use Rattle.model.specs.Registers.{Decoded, decode, rows, banks, words_of, seen_by}
use Rattle.model.specs.Interface.{system}
use Rattle.model.specs.Attributes.{high, low, index_of, is_used, number_ok, affinity_known, mapped_item, mapped, system_item, item, known}
use Rattle.model.specs.declared.View.{View}
use Rattle.model.specs.declared.View.TheVariants as view
use Rattle.model.specs.declared.Flags.TheVariants as flags
use Rattle.model.specs.declared.Register.TheVariants.{Bits}
use Rattle.model.specs.declared.SystemRegister.{SystemRegister}
use Rattle.model.specs.declared.SystemRegister.TheVariants.{Both, Read, Write, Unnamed}
use Rattle.model.specs.declared.Item.{Item}
use Rattle.model.specs.declared.Item.TheVariants.{Mapped, System}
use Rattle.model.specs.declared.RegisterGroup.{RegisterGroup}
use Rattle.model.specs.declared.RegisterGroup.TheVariants.{Distributor, Redistributor, Interface, Lines}
use Rattle.model.proofs.Tests.{both}
use Rattle.model.proofs.Decode.{decode-words}
use Rattle.model.proofs.Soundness.{sound-vcpus}
use Rattle.priority.specs.Asked.{Usable}
use Rattle.priority.proofs.Usable.{usable}
use Rattle.attributes.specs.Names.{frame_with, place_of, item_at, Within}

-- ---- the functions that read and write may be given what is named, if anything is

abbrev pub Inside : List ℕ → Option Item → Type 0
Inside s (Some i) = Within s i
Inside s None = Unit {0}

mapped-within : (s : List ℕ) (x : View) (n : ℕ) → sound s ≡ true → seen_by x < most_vcpus → Inside s (mapped x n)
unfolding mapped
mapped-within s x n h l = step (eqb (n % 4) 0) (decode (rows x) n) refl
  where
    step : (t : Bool) (d : Decoded) → decode (rows x) n ≡ d → Inside s (cond t (mapped_item x d) None)
    step true (Some (r, k)) e = unfold mapped_item in (h, l, decode-words x n r k e)
    step true None e = unfold mapped_item in tt
    step false d e = tt

system-within : (s : List ℕ) (x : View) (n : ℕ) → Usable s (seen_by x) → Inside s (system_item x (system n))
system-within s x n u = step (system n)
  where
    step : (r : SystemRegister) → Inside s (system_item x r)
    step (Both p) = unfold system_item in u
    step (Read q) = unfold system_item in tt
    step (Write w) = unfold system_item in tt
    step Unnamed = unfold system_item in tt

lines-within : (s : List ℕ) (x : View) (k : ℕ) → sound s ≡ true → seen_by x < most_vcpus → k < banks x → Within s (Mapped x (Bits flags.Lines) k)
unfolding words_of
lines-within s x k h l b = (h, l, b)

-- ---- the place of a register, and what is named there

frame-in : (s : List ℕ) (h : ℕ) (x : View) → frame_with s h ≡ Some x → (is_used s h ≡ true) × (view.Frame (index_of s h) ≡ x)
unfolding frame_with
frame-in s h x e = step (is_used s h) refl e
  where
    step : (t : Bool) → is_used s h ≡ t → cond t (Some (view.Frame (index_of s h))) None ≡ Some x → (is_used s h ≡ true) × (view.Frame (index_of s h) ≡ x)
    step true q g = (q, cc)
    step false q g = cc

frame-no : (s : List ℕ) (h : ℕ) → frame_with s h ≡ None → is_used s h ≡ false
unfolding frame_with
frame-no s h e = step (is_used s h) refl e
  where
    step : (t : Bool) → is_used s h ≡ t → cond t (Some (view.Frame (index_of s h))) None ≡ None → is_used s h ≡ false
    step true q g = cc
    step false q g = q

-- the view x is the one that an attribute's register is in
pub record Placed (q : RegisterGroup) (a : ℕ) (s : List ℕ) (x : View) : Type 0 where
  pub is_known : affinity_known q a s ≡ true
  pub is_item : item q a s ≡ item_at q x (low a)
  pub within : sound s ≡ true → is_initialised s ≡ true → number_ok q a ≡ true → Inside s (item_at q x (low a))

in_frame : (s : List ℕ) (h : ℕ) → is_used s h ≡ true → sound s ≡ true → seen_by (view.Frame (index_of s h)) < most_vcpus
unfolding seen_by
in_frame s h u e = omega (arith, ltb-true (index_of s h) (vcpus s) u, sound-vcpus s e)

-- group 7, below ID 32 or not
of-lines : (a : ℕ) (s : List ℕ) (x : View) → place_of Lines a s ≡ Some x → Placed Lines a s x
unfolding place_of affinity_known item item_at number_ok
of-lines a s x e = step (ltb (low a) 32) refl e
  where
    step : (t : Bool) → ltb (low a) 32 ≡ t → cond t (frame_with s (high a)) (Some view.Distributor) ≡ Some x → Placed Lines a s x
    step true q g =
        let f = frame-in s (high a) x g in
        let l : low a < 32 = ltb-true (low a) 32 q in
        let z : low a / 32 ≡ 0 = omega arith in
        rw (← f.1) (record {
          is_known = rw (q, affinity_known) f.0;
          is_item = rw (q, z);
          within = λ h i n. lines-within s (view.Frame (index_of s (high a))) (low a / 32) h (in_frame s (high a) f.0 h) (rw z (unfold banks in (omega arith)));
        })
    step false q g =
        let y : view.Distributor ≡ x = cc in
        rw (← y) (record {
          is_known = rw (q, affinity_known);
          is_item = rw q;
          within = λ h i n. lines-within s view.Distributor (low a / 32) h (unfold seen_by in (omega arith))
              (unfold banks in (omega (arith, eqb-true (low a / 1024) 0 (both (eqb (low a / 1024) 0) (eqb (low a % 1024 % 32) 0) n).0)));
        })

pub placed : (q : RegisterGroup) (a : ℕ) (s : List ℕ) (x : View) → place_of q a s ≡ Some x → Placed q a s x
unfolding place_of affinity_known item item_at
placed Distributor a s x e =
    let y : view.Distributor ≡ x = cc in
    rw (← y) (record {
      is_known = refl;
      is_item = refl;
      within = λ h i n. mapped-within s view.Distributor (low a) h (unfold seen_by in (omega arith));
    })
placed Redistributor a s x e =
    let f = frame-in s (high a) x e in
    rw (← f.1) (record {
      is_known = f.0;
      is_item = refl;
      within = λ h i n. mapped-within s (view.Frame (index_of s (high a))) (low a) h (in_frame s (high a) f.0 h);
    })
placed Interface a s x e =
    let f = frame-in s (high a) x e in
    rw (← f.1) (record {
      is_known = f.0;
      is_item = refl;
      within = λ h i n. system-within s (view.Frame (index_of s (high a))) (low a) (unfold seen_by in (usable s (index_of s (high a)) h i f.0));
    })
placed Lines a s x e = of-lines a s x e

-- and where no view has it
pub unplaced : (q : RegisterGroup) (a : ℕ) (s : List ℕ) → place_of q a s ≡ None → affinity_known q a s ≡ false
unfolding place_of affinity_known
unplaced Distributor a s e = cc
unplaced Redistributor a s e = frame-no s (high a) e
unplaced Interface a s e = frame-no s (high a) e
unplaced Lines a s e = step (ltb (low a) 32) e
  where
    step : (t : Bool) → cond t (frame_with s (high a)) (Some view.Distributor) ≡ None → cond t (is_used s (high a)) true ≡ false
    step true g = frame-no s (high a) g
    step false g = cc

-- one or the other
pub has_view : (q : RegisterGroup) (a : ℕ) (s : List ℕ) → affinity_known q a s ≡ true → (x : View) × (place_of q a s ≡ Some x)
has_view q a s t = step (place_of q a s) refl
  where
    step : (p : Option View) → place_of q a s ≡ p → (x : View) × (place_of q a s ≡ Some x)
    step (Some x) e = (x, e)
    step None e = absurd (true≢false (sym t ∙ unplaced q a s e))

-- ---- what the tests of item_named tell, as equations

pub known_place : (q : RegisterGroup) (a : ℕ) (s : List ℕ) → affinity_known q a s ≡ is_some (place_of q a s)
known_place q a s = step (place_of q a s) refl
  where
    step : (p : Option View) → place_of q a s ≡ p → affinity_known q a s ≡ is_some p
    step (Some x) e = (placed q a s x e).is_known
    step None e = unplaced q a s e

pub placed_item : (q : RegisterGroup) (a : ℕ) (s : List ℕ) (x : View) → place_of q a s ≡ Some x → item_at q x (low a) ≡ item q a s
placed_item q a s x e = sym (placed q a s x e).is_item

pub known_item : (i : Option Item) → known i ≡ is_some i
unfolding known
known_item (Some (Mapped x r k)) = refl
known_item (Some (System x p)) = refl
known_item None = refl

pub ruleset naming = (known_place, placed_item, known_item)
