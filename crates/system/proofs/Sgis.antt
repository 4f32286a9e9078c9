-- Whom an SGI reaches, and latching it at one vCPU after the other.
use Prim.Native.Nat.{ℕ, zero, suc, ◌+◌, ◌/◌, ◌%◌, ◌^◌, ◌≤◌}
use mathlib.Core.Path.{◌≡◌, refl, sym, ◌∙◌}
use mathlib.Core.Bool.{Bool, true, false, cond}
use mathlib.Core.List.{List}
use native.Mathlib.Numerals.{add-one}
use native.Mathlib.Omega.{arith}
use lib.Seq.{get_or-set_other}
use Rattle.model.specs.Words.{bit}
use Rattle.model.specs.Layout.{word, block, latch_field, affinity_at}
use Rattle.model.specs.Interrupts.{set_flag}
use Rattle.model.specs.Interface.{targets, sgi_id, reaches, sgi_sent}
use Rattle.words.proofs.Operators.{bit-above}
use Rattle.system.specs.Steps.{latched_at}

-- ---- whom it reaches

pub unlisted : (x a : ℕ) → 16 ≤ a → false ≡ bit (x % 2 ^ 16) a
unlisted x a l = sym (bit-above 16 (x % 2 ^ 16) a (omega arith) l)

-- ---- and at one vCPU after the other

module _ (only0 : Bool) (v x : ℕ) (s : List ℕ) where
  -- that changes only words that hold the latches of a vCPU's own interrupts
  latch-keeps : (n p : ℕ) (t : List ℕ) → ¬ (p ≡ block n + 2) → word (set_flag latch_field true n (sgi_id x) t) p ≡ word t p
  unfolding set_flag
  latch-keeps n p t h =
      let own : sgi_id x / 32 ≡ 0 = omega arith in
      rw own (get_or-set_other t (block n + 2) p _ 0 h)

  sent-keeps : (n p : ℕ) → ((u : ℕ) → ¬ (p ≡ block u + 2)) → word (sgi_sent n only0 v x s) p ≡ word s p
  unfolding sgi_sent
  sent-keeps zero p h = refl
  sent-keeps (suc n) p h = step (sgi_sent n only0 v x s) (reaches only0 s v x n) ∙ sent-keeps n p h
    where
      step : (t : List ℕ) (b : Bool) → word (cond b (set_flag latch_field true n (sgi_id x) t) t) p ≡ word t p
      step t true = latch-keeps n p t (h n)
      step t false = refl

  -- so the SGI still reaches the same vCPUs
  reaches_same : (n t : ℕ) → reaches only0 (sgi_sent n only0 v x s) v x t ≡ reaches only0 s v x t
  unfolding reaches targets
  reaches_same n t =
      let own : sgi_id x / 32 ≡ 0 = omega arith in
      rw (own, sent-keeps n (affinity_at t) (λ u e. omega arith), sent-keeps n (block t + 0) (λ u e. omega arith))

  -- one vCPU more
  pub sent_more : (n : ℕ) → latched_at n only0 v x (sgi_sent n only0 v x s) ≡ sgi_sent (n + 1) only0 v x s
  unfolding sgi_sent latched_at
  sent_more n = rw (add-one, reaches_same n n)
