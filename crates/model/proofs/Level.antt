-- Where IARg gives an interrupt, the bit of its group priority is clear in APgR: a read of a system register is never refused with EIO.
use Rattle.std.specs.Prelude.{Ok, Err}
use Prim.Native.Nat.{ℕ, zero, suc, ◌*◌, ◌<◌}
use mathlib.Core.Path.{◌≡◌, refl}
use mathlib.Core.Bool.{Bool, true, false, not, cond, ◌&&◌, ◌||◌, true≢false}
use mathlib.Core.List.{List, ◌∷◌}
use native.Mathlib.Omega.{arith}
use borrow.Author.Tests.{ltb-true}
use lib.Dec.{eqb, ltb}
use lib.IntN.{pos, neg_ℤ}
use Rattle.model.specs.Words.{bit}
use Rattle.model.specs.Layout.{word, pmr_at, apr_at, running}
use Rattle.model.specs.Interface.{group_index, system, best, nothing, found, rank_priority, group_priority, running_level, of_group, gives, offered, level_of, level_clear, system_read_clear}
use Rattle.model.specs.Refusals.{Refusal, Check, first_failing, errno}
use Rattle.model.specs.Calls.{read_system, acceptable, guest_checks, read_checks, checks, is_vcpu, refusal, call, describe, in_phase, read_phase}
use Rattle.model.specs.declared.Errno.{Errno}
use Rattle.model.specs.declared.Errno.TheVariants.{Eperm, Enxio, Efault, Ebusy, Einval}
use Rattle.model.specs.declared.Readable.{Readable}
use Rattle.model.specs.declared.Readable.TheVariants.{Iar, Hppir, Rpr}
use Rattle.model.specs.declared.SystemRegister.{SystemRegister}
use Rattle.model.specs.declared.SystemRegister.TheVariants.{Both, Read, Write, Unnamed}
use Rattle.model.proofs.Tests.{both, below-lowest}
use Rattle.model.proofs.Fields.{group_below}
use Rattle.model.proofs.Refused.{negative-errno}

or-false : (a b : Bool) → (a || b) ≡ false → (a ≡ false) × (b ≡ false)
or-false true b e = absurd (true≢false e)
or-false false b e = (refl, e)

module _ (s : List ℕ) (v g b : ℕ) where
  below-running : gives s v g b ≡ true → level_of s v g b < running_level s v
  unfolding gives level_of
  below-running e =
      let h : group_priority s v g (rank_priority b) < 8 * running_level s v =
      ltb-true (group_priority s v g (rank_priority b)) (8 * running_level s v)
      (both (of_group s v g b && ltb (rank_priority b) (word s (pmr_at v))) (ltb (group_priority s v g (rank_priority b)) (8 * running_level s v)) e).1 in
      omega arith

  both-clear : gives s v g b ≡ true → (bit (word s (apr_at v 0)) (level_of s v g b) ≡ false) × (bit (word s (apr_at v 1)) (level_of s v g b) ≡ false)
  unfolding running_level
  both-clear e =
      or-false (bit (word s (apr_at v 0)) (level_of s v g b)) (bit (word s (apr_at v 1)) (level_of s v g b))
      (below-lowest (λ k. bit (word s (apr_at v 0)) k || bit (word s (apr_at v 1)) k) 32 0 (level_of s v g b) (omega arith) (below-running e))

  bit-clear : g < 2 → gives s v g b ≡ true → bit (word s (apr_at v g)) (level_of s v g b) ≡ false
  bit-clear h e = step g h
    where
      step : (i : ℕ) → i < 2 → bit (word s (apr_at v i)) (level_of s v g b) ≡ false
      step zero l = (both-clear e).0
      step (suc zero) l = (both-clear e).1
      step (suc (suc i)) l = absurd (omega arith)

  -- where IARg gives b, its active-priority bit is clear
  pub level-clear : g < 2 → gives s v g b ≡ true → level_clear s v g b ≡ true
  unfolding level_clear
  level-clear h e = rw (bit-clear h e) (neither (found b))
    where
      neither : (a : Bool) → not (a && false) ≡ true
      neither true = refl
      neither false = refl

-- so it is for what IARg offers, an interrupt or nothing
pub offered-clear : (s : List ℕ) (v g : ℕ) → g < 2 → level_clear s v g (offered s v g) ≡ true
unfolding offered
offered-clear s v g h = step (gives s v g (best s v)) refl
  where
    step : (t : Bool) → gives s v g (best s v) ≡ t → level_clear s v g (cond t (best s v) nothing) ≡ true
    step true e = level-clear s v g (best s v) h e
    step false e = unfold level_clear in refl

-- ---- no read of a system register is refused with EIO, at any state

read-clear : (s : List ℕ) (v : ℕ) (r : Readable) → system_read_clear s v r ≡ true
unfolding system_read_clear
read-clear s v (Iar g) = offered-clear s v (group_index g) (group_below g)
read-clear s v (Hppir g) = refl
read-clear s v Rpr = refl

abbrev Other : ℕ → Refusal → Type 0
Other k r = (e : Errno) → r ≡ Err e → errno e ≡ k → ⊥

other_none : (k : ℕ) → Other k (Ok tt)
other_none k e h q = let z : ◌≡◌ {A = ℕ} 0 1 = cc in omega arith

other-refuse : (k : ℕ) (n : Errno) → (errno n ≡ k → ⊥) → Other k (Err n)
other-refuse k n h e q l = let same : n ≡ e = cc in h (rw same l)

other-next : (k : ℕ) (b : Bool) (n : Errno) (cs : List Check) → (errno n ≡ k → ⊥) → Other k (first_failing cs) → Other k (first_failing ((b, n) ∷ cs))
unfolding first_failing
other-next k true n cs h o = o
other-next k false n cs h o = other-refuse k n h

read-other : (s : List ℕ) (v : ℕ) (r : SystemRegister) → Other 5 (first_failing (read_checks r v s))
unfolding read_checks first_failing errno
read-other s v (Both p) = other_none 5
read-other s v (Read r) = rw (read-clear s v r) (other_none 5)
read-other s v (Write w) = other-refuse 5 Enxio (omega arith)
read-other s v Unnamed = other-refuse 5 Enxio (omega arith)

checks-other : (v e : ℕ) (s : List ℕ) → Other 5 (first_failing (checks (read_system v e) s))
unfolding describe guest_checks errno
checks-other v e s =
    other-next 5 (in_phase (read_phase (system e)) s) Ebusy _ (omega arith)
    (other-next 5 (is_vcpu s v) Einval _ (omega arith) (other-next 5 (eqb (running s v) 1) Eperm _ (omega arith) (read-other s v (system e))))

refusal-other : (v e : ℕ) (s : List ℕ) → Other 5 (refusal (read_system v e) s)
unfolding refusal errno
refusal-other v e s = step (acceptable (read_system v e) s)
  where
    step : (t : Bool) → Other 5 (elim t [ true ↦ first_failing (checks (read_system v e) s) | false ↦ Err Efault ])
    step true = checks-other v e s
    step false = other-refuse 5 Efault (omega arith)

pub never-eio : (v e : ℕ) (s : List ℕ) → (call (read_system v e) s).answer ≡ neg_ℤ (pos 5) → ⊥
never-eio v e s h = let r = negative-errno (read_system v e) s 4 h in refusal-other v e s r.0 r.1 r.2
