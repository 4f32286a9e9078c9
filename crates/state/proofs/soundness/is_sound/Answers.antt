-- `state::soundness::is_sound` meets its contract: it tests what the definition does, in the same order.
-- the definition at a state of the right length, by the three numbers of its set-up
use Prim.Native.Nat.{ℕ}
use mathlib.Core.Path.{◌≡◌, sym, ◌∙◌}
use mathlib.Core.Bool.{Bool, true, false, ◌&&◌, and-true}
use mathlib.Core.List.{List}
use borrow.Author.Tests.{eq-eqb, ne_eqb}
use lib.ListN.{length}
use Rattle.model.specs.Words.{every, all_below}
use Rattle.model.specs.Layout.{initialised, count, vcpus}
use Rattle.model.specs.Roles.{derived_ok}
use Rattle.model.specs.Sound.{setup, vcpu_ok, word_ok, core, sound}
use Rattle.model.proofs.Soundness.{setup-vcpus}
use Rattle.model.proofs.Refused.{told-yes}
use Rattle.state.proofs.soundness.is_sound.Goals as goal

module _ (s : List ℕ) (i c n : ℕ) (size : length s ≡ 1760) (p : i ≡ initialised s) (q : c ≡ count s) (r : n ≡ vcpus s) where
  refused : (ok : Bool) → ok ≡ setup i c n → ok ≡ false → false ≡ sound s
  unfolding sound core derived_ok
  refused ok e h = rw (← p, ← q, ← r, eq-eqb (length s) 1760 size, ← e, h)

  decided : (ok each words : Bool) → ok ≡ setup i c n → ok ≡ true → each ≡ all_below (vcpu_ok s) n → words ≡ every (word_ok i c n) 0 s → (each && words) ≡ sound s
  unfolding sound core derived_ok
  decided ok each words e h v w = rw (← p, ← q, ← r, eq-eqb (length s) 1760 size, ← e, h, v, w, and-true)

pub returns-in_default : goal.returns-in_default
unfolding sound core derived_ok
returns-in_default c = rw (ne_eqb _ _ c.in_default.ensures.cases)

pub returns-then-not-setup_ok : goal.returns-then-not-setup_ok
returns-then-not-setup_ok c =
    let h = c.in-Some.ensures.cases in
    let size : length c.in-Some.s.now ≡ 1760 = rw h.same h.long in
    rw (← h.same) (search refused)

pub vcpus_ok-requires : goal.vcpus_ok-requires
vcpus_ok-requires c = setup-vcpus _ _ _ (sym c.setup_ok.ensures ∙ c.if-not-setup_ok.false)

pub words_fit-requires : goal.words_fit-requires
words_fit-requires c = search told-yes

pub returns : goal.returns
returns c =
    let h = c.in-Some.ensures.cases in
    let size : length c.in-Some.s.now ≡ 1760 = rw h.same h.long in
    rw (← h.same) (search decided)
