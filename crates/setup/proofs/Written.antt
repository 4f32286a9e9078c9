-- What the writers of the set-up calls leave, as the definitions say it.
use Prim.Native.Nat.{ℕ, ◌+◌, ◌-◌, ◌<◌}
use mathlib.Core.Path.{◌≡◌}
use mathlib.Core.Bool.{cond}
use mathlib.Core.List.{List, [], ◌∷◌}
use native.Mathlib.Omega.{arith}
use borrow.Author.Tests.{ne_eqb}
use borrow.Rule.Slice.PartMut.{mid_of, put_mid}
use lib.Dec.{eqb}
use lib.ListN.{length, set}
use Rattle.model.specs.Layout.{state_length, most_vcpus, initialised, count, block}
use Rattle.model.specs.Calls.{vcpu_added, initialised_next}
use Rattle.state.proofs.Lending.{stores, further, lent}

-- the block of a vCPU that is added, written as a lent part
pub block-lent : (s last : List ℕ) (at n a : ℕ) → length s ≡ state_length → n < most_vcpus → at ≡ block n
    → last ≡ set (set (set (set (mid_of at (at + 32 - at) s) 13 0xffff) 16 a) 21 2) 22 3
    → set (put_mid at (at + 32 - at) s last) 2 (n + 1) ≡ vcpu_added s n a
unfolding vcpu_added stores further
block-lent s last at n a l m e p =
    let part = lent at (at + 32 - at) s ((13, 0xffff) ∷ (16, a) ∷ (21, 2) ∷ (22, 3) ∷ []) (omega arith) (omega arith, (omega arith, (omega arith, (omega arith, tt)))) in
    rw (p, part, e)

-- initialise
pub done-already : (s : List ℕ) → initialised s ≡ 1 → s ≡ initialised_next s
unfolding initialised_next
done-already s e = rw e

pub done-now : (s last : List ℕ) (c : ℕ) → ¬ (initialised s ≡ 1) → c ≡ cond (eqb (count s) 0) 256 (count s) → last ≡ set (set s 1 c) 0 1 → last ≡ initialised_next s
unfolding initialised_next
done-now s last c n e p = rw (p, ne_eqb (initialised s) 1 n, e)
