-- A line change: which interrupts have a line, the latch and then the line.
use Rattle.std.specs.Prelude.{Ok}
use Prim.Native.Nat.{ℕ, zero, suc, ◌+◌, ◌-◌, ◌/◌, ◌%◌, ◌≤◌, ◌<◌}
use mathlib.Core.Path.{◌≡◌, refl, sym, ap, ◌∙◌}
use mathlib.Core.Bool.{Bool, true, false, cond, ◌&&◌}
use mathlib.Core.List.{List, [], ◌∷◌}
use mathlib.Core.Logic.{◌⊎◌, inl, inr, ⊎_elim}
use native.Mathlib.Decide.{dec_lt}
use native.Mathlib.Nat.{add_assoc}
use native.Mathlib.Omega.{arith}
use borrow.Author.Tests.{lt-ltb, le-ltb, ltb-true}
use borrow.Rule.Slice.PartMut.{mid_of}
use lib.Dec.{leb, ltb}
use Rattle.model.specs.Layout.{most_vcpus, word, vcpus, bank}
use Rattle.model.specs.Interrupts.{is_private, is_ppi, is_spi, set_flag}
use Rattle.model.specs.Sound.{sound}
use Rattle.model.specs.Refusals.{Refusal, first_failing}
use Rattle.model.specs.Lines.{latches, line_changed}
use Rattle.model.specs.Calls.{has_line, vcpu_checks, phase}
use Rattle.model.specs.declared.Phase.{Phase}
use Rattle.model.specs.declared.Phase.TheVariants.{Changing}
use Rattle.model.proofs.Kept.{in-phase}
use Rattle.model.specs.declared.Errno.TheVariants.{Efault, Einval}
use Rattle.model.proofs.Tests.{both}
use Rattle.model.proofs.Fields.{spi-within}
use Rattle.state.proofs.Admitted.{admitted}
use Rattle.state.proofs.Lending.{at_mid}
use Rattle.priority.specs.Asked.{Usable}
use Rattle.priority.proofs.Usable.{usable}
use Rattle.lines.specs.Lines.{rises_in, rise_latched}

-- ---- a vCPU that sees the interrupt

module _ (v id : ℕ) where
  pub own-seen : id < 32 → v ≡ cond (is_private id) v 0
  unfolding is_private
  own-seen l = rw (lt-ltb id 32 l)

  pub any_seen : 32 ≤ id → 0 ≡ cond (is_private id) v 0
  unfolding is_private
  any_seen l = rw (le-ltb id 32 l)

-- ---- which interrupts have a line

module _ (s : List ℕ) (v id : ℕ) where
  pub ppi-line : (n : ℕ) → n ≡ vcpus s → (leb 16 id && ltb id 32) ≡ true → ltb v n ≡ has_line s v id
  unfolding has_line is_ppi
  ppi-line n e t = rw (t, e)

  pub spi-line : (r : Bool) → r ≡ is_spi s id → (leb 16 id && ltb id 32) ≡ false → r ≡ has_line s v id
  unfolding has_line is_ppi
  spi-line r e t = rw (t, e)

  -- a PPI of a vCPU that is there, or an SPI
  line-place : has_line s v id ≡ true → ((id < 32) × (v < vcpus s)) ⊎ ((32 ≤ id) × (id < 1020))
  unfolding has_line is_ppi
  line-place h = step (leb 16 id && ltb id 32) refl h
    where
      step : (t : Bool) → (leb 16 id && ltb id 32) ≡ t → cond t (ltb v (vcpus s)) (is_spi s id) ≡ true
          → ((id < 32) × (v < vcpus s)) ⊎ ((32 ≤ id) × (id < 1020))
      step true q g = inl (ltb-true id 32 (both (leb 16 id) (ltb id 32) q).1, ltb-true v (vcpus s) g)
      step false q g = let p = spi-within s id g in inr (p.0, omega arith)

  pub seen-inside : (u : ℕ) → u ≡ cond (is_private id) v 0 → vcpus s ≤ most_vcpus → has_line s v id ≡ true → u < most_vcpus
  seen-inside u e few h = ⊎_elim (λ p. omega (arith, e ∙ sym (own-seen v id p.0), p.1)) (λ p. omega (arith, e ∙ sym (any_seen v id p.0))) (line-place h)

  pub line-inside : has_line s v id ≡ true → id < 1024
  line-inside h = ⊎_elim (λ p. omega (arith, p.0)) (λ p. omega (arith, p.1)) (line-place h)

  -- its bank is the same
  same-bank : (u : ℕ) → u ≡ cond (is_private id) v 0 → bank u (id / 32) ≡ bank v (id / 32)
  same-bank u e = step (dec_lt id 32)
    where
      any : (w : ℕ) → 1 ≤ w → bank u w ≡ bank v w
      any zero l = absurd (omega arith)
      any (suc w) l = refl

      step : Dec (id < 32) → bank u (id / 32) ≡ bank v (id / 32)
      step (yes l) = ap (λ (w : ℕ). bank w (id / 32)) (e ∙ sym (own-seen v id l))
      step (no l) = any (id / 32) (omega arith)

-- ---- latching it: r tells whether its line rises, read from the bank that is lent

module _ (s : List ℕ) (at v id : ℕ) (level r : Bool) (a : at ≡ bank v (id / 32)) (e : r ≡ rises_in (mid_of at (at + 16 - at) s) (id % 32) level) where
  in-part : (k : ℕ) → k < 16 → word (mid_of at (at + 16 - at) s) k ≡ word s (bank v (id / 32) + k)
  in-part k m = at_mid at (at + 16 - at) s k (omega arith) ∙ ap (λ (n : ℕ). word s (n + k)) a

  same-rise : latches s v id level ≡ r
  unfolding rises_in latches
  same-rise =
      let i : id % 32 % 16 ≡ id % 16 = omega arith in
      rw (e, in-part (13 + id % 32 / 16) (omega arith), in-part 4 (omega arith), i, add_assoc (bank v (id / 32)) 13 (id % 32 / 16))

  pub rise-latched : (t : List ℕ) → r ≡ true → t ≡ set_flag 2 true v id s → t ≡ rise_latched s v id level
  unfolding rise_latched
  rise-latched t k q = rw (same-rise, k) q

  pub no-rise : r ≡ false → s ≡ rise_latched s v id level
  unfolding rise_latched
  no-rise k = rw (same-rise, k)

-- ---- and then the line, as the vCPU u sees it

pub line-stored : (s p t : List ℕ) (u v id : ℕ) (level : Bool) → u ≡ cond (is_private id) v 0 → p ≡ rise_latched s u id level → t ≡ set_flag 4 level u id p → t ≡ line_changed s v id level
unfolding rise_latched line_changed latches set_flag
line-stored s p t u v id level e q r = rw (r, q, same-bank s v id u e)

-- ---- where the change is not refused

pub line-admitted : (s t : List ℕ) (r : Refusal) (v id : ℕ) → r ≡ first_failing ((sound s, Efault) ∷ phase Changing s ∷ (has_line s v id, Einval) ∷ []) → r ≡ Ok tt → t ≡ s
    → has_line t v id ≡ true
line-admitted s t r v id e n q = rw q (admitted s r (phase Changing s ∷ (has_line s v id, Einval) ∷ []) e n).1.1.0

-- ---- what the signal asks, where its query is not refused

pub vcpu-usable : (v : ℕ) (s : List ℕ) (q : Refusal) (f : Phase) → q ≡ first_failing ((sound s, Efault) ∷ vcpu_checks f v s) → q ≡ Ok tt → Usable s v
vcpu-usable v s q f p h = let d = admitted s q (vcpu_checks f v s) p h in usable s v d.0 (in-phase f s d.1.0) d.1.1.0
