-- End of interrupt and deactivate, from the tests in their order.
use Prim.Native.Nat.{ℕ, ◌<◌}
use mathlib.Core.Path.{◌≡◌, sym, ◌∙◌}
use mathlib.Core.Bool.{Bool, true, false, not, ◌&&◌}
use mathlib.Core.List.{List}
use mathlib.Core.Logic.{⊎_elim}
use native.Mathlib.Omega.{arith}
use borrow.Author.Tests.{ltb-true, not-true, not-false}
use lib.Dec.{ltb}
use mir.Syntax.{w32}
use mir.Val.{Fits}
use Rattle.model.specs.Words.{bit}
use Rattle.model.specs.Layout.{word, apr_at, active_field}
use Rattle.model.specs.Interrupts.{is_private, is_spi, exists, set_flag}
use Rattle.model.specs.Interface.{running_level, set_level, eoi_mode, dropped, ended, deactivated}
use Rattle.model.proofs.Bits.{bit_below}
use Rattle.model.proofs.Tests.{both, either}
use Rattle.model.proofs.Fields.{spi-within}

exists_below : (s : List ℕ) (id : ℕ) → exists s id ≡ true → id < 1024
unfolding exists is_private
exists_below s id h = ⊎_elim (λ p. omega (arith, ltb-true id 32 p)) (λ p. omega (arith, spi-within s id p)) (either (ltb id 32) (is_spi s id) h)

-- ---- dropping a level: m is EOImode, and t has the level's bit cleared

module _ (s t : List ℕ) (v g id level : ℕ) (m : Bool) (k : m ≡ eoi_mode s v) (q : t ≡ set_level false v g level s) where
  pub dropped-active : not m ≡ false → t ≡ dropped s v g id level
  unfolding dropped
  dropped-active n = rw (← k, not-false m n) q

  pub dropped-inactive : (u : List ℕ) → not m ≡ true → u ≡ set_flag active_field false v id t → u ≡ dropped s v g id level
  unfolding dropped
  dropped-inactive u n r = rw (← k, not-true m n, ← q) r

-- ---- end of interrupt: p tells whether there is such an interrupt, h whether APgR has the running level

pub ended-within : (s : List ℕ) (id w level : ℕ) (p h : Bool) → p ≡ exists s id → h ≡ bit w level → (p && h) ≡ true → Fits w32 w → (id < 1024) × (level < 32)
ended-within s id w level p h e b y f =
    let t = both p h y in
    (exists_below s id (sym e ∙ t.0), bit_below 32 w level f.fits (sym b ∙ t.1))

module _ (s : List ℕ) (v g id level : ℕ) (p h : Bool) (e : p ≡ exists s id) (b : h ≡ bit (word s (apr_at v g)) level) (l : level ≡ running_level s v) where
  pub ended-one : (t : List ℕ) → (p && h) ≡ true → t ≡ dropped s v g id level → t ≡ ended s v g id
  unfolding ended
  ended-one t y q = rw (← l, ← b, ← e, y) q

  pub ended-none : (p && h) ≡ false → s ≡ ended s v g id
  unfolding ended
  ended-none n = rw (← l, ← b, ← e, n)

-- ---- deactivate: m is EOImode, p tells whether there is such an interrupt

pub deactivated-below : (s : List ℕ) (id : ℕ) (m p : Bool) → p ≡ exists s id → (m && p) ≡ true → id < 1024
deactivated-below s id m p e y = exists_below s id (sym e ∙ (both m p y).1)

module _ (s : List ℕ) (v id : ℕ) (m p : Bool) (k : m ≡ eoi_mode s v) (e : p ≡ exists s id) where
  pub deactivated-one : (t : List ℕ) → (m && p) ≡ true → t ≡ set_flag active_field false v id s → t ≡ deactivated s v id
  unfolding deactivated
  deactivated-one t y q = rw (← k, ← e, y) q

  pub deactivated-none : (m && p) ≡ false → s ≡ deactivated s v id
  unfolding deactivated
  deactivated-none n = rw (← k, ← e, n)
