-- A state whose words, but for the derived ones, are words of two sound states of the same set-up: its core is sound, and at rest where both are.
use Prim.Native.Nat.{ℕ, ◌≤◌, ◌<◌}
use mathlib.Core.Path.{◌≡◌, refl, sym, ◌∙◌, subst}
use mathlib.Core.Bool.{Bool, true, false}
use mathlib.Core.List.{List}
use mathlib.Core.Logic.{◌⊎◌, inl, inr, ⊎_elim}
use native.Mathlib.Omega.{arith}
use lib.ListN.{length, set, length-set}
use lib.Seq.{get_or-set_same}
use Rattle.model.specs.Layout.{state_length, word, initialised_at, count_at, vcpus, vcpus_at, affinity_field, affinity_at, running_field, running_at}
use Rattle.model.specs.Roles.{role_of, is_derived, with_derived}
use Rattle.model.specs.Demands.{Alike}
use Rattle.model.proofs.Tests.{not-both}
use Rattle.model.proofs.Soundness.{Sound, open-sound, setup-vcpus, Ready, core-ready, ready-is-sound, Resting}
use Rattle.model.proofs.Roles.{header-core, block-core}
use Rattle.model.proofs.Derived.{with-word, with-sound}
use Rattle.model.proofs.Stores.{SameSetUp, MayStand, stands, stands_alike, words-sound, stored}

-- t has the length of a state; a derived word of t may stand where it does, each other word is f's or s's
pub record Between (f s t : List ℕ) : Type 0 where
  pub size : length t ≡ state_length
  pub each : (k : ℕ) → k < state_length → is_derived (role_of k) ≡ false → (word t k ≡ word f k) ⊎ (word t k ≡ word s k)
  pub range : (k : ℕ) → k < state_length → is_derived (role_of k) ≡ true → MayStand f k (word t k)

-- the second is between
pub between_start : (f s : List ℕ) → Sound s → SameSetUp f s → Between f s s
between_start f s h same = record { size = h.size; each = λ k m d. inr refl; range = λ k m d. stands_alike f s k (word s k) same (stands s h k m) }

-- and stays so where a word of the first is stored that is not derived
pub between_put : (f s t : List ℕ) (p : ℕ) → p < state_length → is_derived (role_of p) ≡ false → Between f s t → Between f s (set t p (word f p))
between_put f s t p l core b = record {
  size = length-set t p (word f p) ∙ b.size;
  each = λ k m d. stored (λ x. (x ≡ word f k) ⊎ (x ≡ word s k)) t p (word f p) k (omega (arith, b.size)) (λ e. inl (rw e)) (λ n. b.each k m d);
  range = λ k m d. stored (MayStand f k) t p (word f p) k (omega (arith, b.size)) (λ e. absurd (not-both (is_derived (role_of p)) (rw e at d) core)) (λ n. b.range k m d);
}

-- the word at p is f's; it is so where it was stored, and stays so where another word of f is stored and where derived words are put in
unfoldable pub Agrees : List ℕ → ℕ → List ℕ → Type 0
Agrees f p t = word t p ≡ word f p

pub agrees-put : (f t : List ℕ) (p : ℕ) → p < state_length → length t ≡ state_length → Agrees f p (set t p (word f p))
unfolding Agrees
agrees-put f t p l e = get_or-set_same t p (word f p) 0 (omega arith)

pub agrees-kept : (f t : List ℕ) (p q : ℕ) → q < state_length → length t ≡ state_length → Agrees f p t → Agrees f p (set t q (word f q))
unfolding Agrees
agrees-kept f t p q l e h = stored (λ x. x ≡ word f p) t q (word f q) p (omega arith) (λ z. rw z) (λ n. h)

pub agrees-with : (f t : List ℕ) (p : ℕ) → is_derived (role_of p) ≡ false → Agrees f p t → Agrees f p (with_derived t)
unfolding Agrees
agrees-with f t p d h = with-word t p d ∙ h

-- what holds of a word in both holds of it in t
in_both : (f s t : List ℕ) → Between f s t → (P : ℕ → Type 0) (k : ℕ) → k < state_length → is_derived (role_of k) ≡ false → P (word f k) → P (word s k) → P (word t k)
in_both f s t b P k l d p q = ⊎_elim (λ e. subst P (sym e) p) (λ e. subst P (sym e) q) (b.each k l d)

-- ---- sound states

module _ (f s : List ℕ) (hf : Sound f) (hs : Sound s) (same : SameSetUp f s) where
  module _ (t : List ℕ) (b : Between f s t) where
    -- a word that is the same in both is the same in t
    fixed : (k : ℕ) → k < state_length → is_derived (role_of k) ≡ false → word s k ≡ word f k → word t k ≡ word f k
    fixed k l d e = in_both f s t b (λ w. w ≡ word f k) k l d refl e

    pub mixed-same : SameSetUp f t
    mixed-same =
        let few : vcpus f ≤ 8 = setup-vcpus _ _ _ hf.set_up in
        record {
          same_mark = fixed initialised_at (omega arith) (header-core initialised_at (omega arith)) same.same_mark;
          alike = record {
            same_count = fixed count_at (omega arith) (header-core count_at (omega arith)) same.alike.same_count;
            same_number = fixed vcpus_at (omega arith) (header-core vcpus_at (omega arith)) same.alike.same_number;
            same_affinities = λ v l. fixed (affinity_at v) (omega arith) (block-core v affinity_field (omega arith) (omega arith)) (same.alike.same_affinities v l);
          };
        }

    pub mixed-sound : Sound t
    mixed-sound =
        words-sound f t hf mixed-same b.size (λ k l. step k l (is_derived (role_of k)) refl)
      where
        step : (k : ℕ) → k < state_length → (d : Bool) → is_derived (role_of k) ≡ d → MayStand f k (word t k)
        step k l true d = b.range k l d
        step k l false d = in_both f s t b (MayStand f k) k l d (stands f hf k l) (stands_alike f s k (word s k) same (stands s hs k l))

  -- it stays between where its derived words are put in
  pub between-with : (t : List ℕ) → Between f s t → Between f s (with_derived t)
  between-with t b =
      record {
        size = whole.size;
        each = λ k l d. rw (with-word t k d) (b.each k l d);
        range = λ k l d. stands_alike f (with_derived t) k (word (with_derived t) k) alike (stands (with_derived t) whole k l);
      }
    where
      whole : Sound (with_derived t)
      whole = open-sound _ (with-sound t (mixed-sound t b))

      kept : (k : ℕ) → is_derived (role_of k) ≡ false → word t k ≡ word f k → word (with_derived t) k ≡ word f k
      kept k d e = with-word t k d ∙ e

      few : vcpus f ≤ 8
      few = setup-vcpus _ _ _ hf.set_up

      alike : SameSetUp f (with_derived t)
      alike =
          let m = mixed-same t b in
          record {
            same_mark = kept initialised_at (header-core initialised_at (omega arith)) m.same_mark;
            alike = record {
              same_count = kept count_at (header-core count_at (omega arith)) m.alike.same_count;
              same_number = kept vcpus_at (header-core vcpus_at (omega arith)) m.alike.same_number;
              same_affinities = λ v l. kept (affinity_at v) (block-core v affinity_field (omega (arith, few)) (omega arith)) (m.alike.same_affinities v l);
            };
          }

-- ---- initialised ones

module _ (f s : List ℕ) (hf : Ready f) (hs : Ready s) (same : Alike f s) where
  set_up : SameSetUp f s
  set_up = record { same_mark = hs.mark ∙ sym hf.mark; alike = same }

  open-f : Sound f
  open-f = ready-is-sound f hf

  open-s : Sound s
  open-s = ready-is-sound s hs

  pub start_between : Between f s s
  start_between = between_start f s open-s set_up

  pub derived-between : (t : List ℕ) → Between f s t → Between f s (with_derived t)
  derived-between t b = between-with f s open-f open-s set_up t b

  module _ (t : List ℕ) (b : Between f s t) where
    pub mixed-alike : Alike f t
    mixed-alike = (mixed-same f s open-f open-s set_up t b).alike

    pub mixed-ready : Ready t
    mixed-ready = core-ready t (mixed-sound f s open-f open-s set_up t b) ((mixed-same f s open-f open-s set_up t b).same_mark ∙ hf.mark)

    pub mixed-resting : Resting f → Resting s → Resting t
    mixed-resting rf rs = record {
      is_ready = mixed-ready;
      idle = λ v l.
          let m : v < vcpus f = rw mixed-alike.same_number at l in
          in_both f s t b (λ w. w ≡ 0) (running_at v) (omega (arith, hf.few)) (block-core v running_field (omega (arith, hf.few)) (omega arith)) (rf.idle v m) (rs.idle v (rw same.same_number m));
    }
