-- The laws of the derived words: what else speaks of them cites these. Only this file, and `grants` of proofs/Refused for the code, opens `with_derived`.
use Rattle.std.specs.Prelude.{Option}
use Prim.Native.Nat.{ℕ, ◌≤◌, ◌<◌}
use mathlib.Core.Path.{◌≡◌, refl, sym, ◌∙◌}
use mathlib.Core.Bool.{true, false}
use mathlib.Core.List.{List}
use native.Mathlib.Omega.{arith}
use lib.Seq.{ext_get_or}
use Rattle.model.specs.Layout.{state_length, word, count_at, vcpus, vcpus_at, affinity_field, affinity_at}
use Rattle.model.specs.Roles.{role_of, is_derived, with_derived, derived_ok}
use Rattle.model.specs.Sound.{sound, stopped, fresh}
use Rattle.model.specs.Attributes.{item_of, item_read, Attribute}
use Rattle.model.specs.Record.{record_of}
use Rattle.model.specs.Demands.{Alike}
use Rattle.model.specs.declared.Item.{Item}
use Rattle.model.proofs.Tests.{and-true}
use Rattle.model.proofs.Soundness.{Sound, close-core, open-sound}
use Rattle.model.proofs.Roles.{header-core, block-core, none-derived}

-- putting them in changes no other word
pub with-word : (s : List ℕ) (k : ℕ) → is_derived (role_of k) ≡ false → word (with_derived s) k ≡ word s k
unfolding with_derived
with-word s k e = refl

-- it makes a sound state of one whose core is sound
pub with-sound : (s : List ℕ) → Sound s → sound (with_derived s) ≡ true
unfolding sound with_derived derived_ok
with-sound s h = and-true (close-core s h) refl

-- nor who runs, nor the count and the affinities, nor what a fresh device is
pub with-stopped : (s : List ℕ) → stopped s ≡ true → stopped (with_derived s) ≡ true
unfolding with_derived
with-stopped s e = e

pub with-fresh : (s : List ℕ) → fresh s ≡ true → fresh (with_derived s) ≡ true
unfolding with_derived
with-fresh s e = e

pub with-alike : (s : List ℕ) → vcpus s ≤ 8 → Alike s (with_derived s)
with-alike s few = record {
  same_count = with-word s count_at (header-core count_at (omega arith));
  same_number = with-word s vcpus_at (header-core vcpus_at (omega arith));
  same_affinities = λ v l. with-word s (affinity_at v) (block-core v affinity_field (omega arith) (omega arith));
}

-- a sound state has them already
pub sound-with : (s : List ℕ) → sound s ≡ true → with_derived s ≡ s
unfolding with_derived
sound-with s h = refl

-- two sound states that agree in all other words are equal
pub core-decides : (s t : List ℕ) → sound s ≡ true → sound t ≡ true → ((k : ℕ) → k < state_length → is_derived (role_of k) ≡ false → word t k ≡ word s k) → t ≡ s
core-decides s t hs ht same =
    let ls = (open-sound s hs).size in
    let lt = (open-sound t ht).size in
    ext_get_or 0 t s (lt ∙ sym ls) (λ k l. same k (omega arith) (none-derived k))

-- no register and no record shows them
pub with-reads : (s : List ℕ) (i : Option Item) → item_read (with_derived s) i ≡ item_read s i
unfolding with_derived
with-reads s i = refl

pub with-names : (s : List ℕ) (a : Attribute) → item_of a (with_derived s) ≡ item_of a s
unfolding with_derived
with-names s a = refl

pub with-record : (s : List ℕ) → record_of (with_derived s) ≡ record_of s
unfolding with_derived
with-record s = refl
