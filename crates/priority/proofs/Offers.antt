-- What acknowledge, the highest pending and the signal give, from the tests of the code.
use Rattle.std.specs.Prelude.{Ok, Err}
use Prim.Native.Nat.{ℕ, ◌+◌, ◌*◌, ◌/◌, ◌%◌, ◌^◌, ◌<◌, ◌≤◌}
use mathlib.Core.Path.{◌≡◌, refl, sym}
use mathlib.Core.Bool.{Bool, true, false, not, ◌&&◌, ◌||◌}
use mathlib.Core.List.{List}
use native.Mathlib.Omega.{arith}
use native.Mathlib.Nat.{div-mul-le_self}
use borrow.Author.Tests.{ltb-true, lt-ltb, le-ltb}
use lib.Dec.{eqb, ltb}
use lib.ListN.{set}
use mir.Syntax.{w32}
use mir.Val.{Fits, bool_byte}
use Rattle.model.specs.Values.{id_span, spurious}
use Rattle.model.specs.Words.{val, bit, with_bit, lowest}
use Rattle.model.specs.Layout.{word, block, pmr_at, bpr_at, apr_at, latch_field, active_field}
use Rattle.model.specs.Interrupts.{group, set_flag}
use Rattle.model.specs.Interface.{best, nothing, found, cleared_bits, group_priority, running_level, running_priority, of_group, gives, offered, level_of, set_level, taken, level_clear, acknowledged, highest_pending, signal}
use Rattle.model.specs.Refusals.{first_failing}
use Rattle.model.specs.declared.Errno.TheVariants.{Eio}
use Rattle.model.proofs.Tests.{both}
use Rattle.model.proofs.Refused.{told-no, told-yes}
use Rattle.words.proofs.Operators.{bit-above}
use Rattle.priority.specs.Settled.{Acknowledges}

module _ (s : List ℕ) (v g : ℕ) where
  -- ---- group priority and running level; at is where the block of vCPU v starts

  module _ (at : ℕ) (a : at ≡ block v) where
    pub point-zero : g ≡ 0 → word s (at + 21) + 1 ≡ cleared_bits s v g
    unfolding cleared_bits
    point-zero e = rw (a, e)

    pub point-one : g ≡ 1 → word s (at + 22) ≡ cleared_bits s v g
    unfolding cleared_bits
    point-one e = rw (a, e)

    pub zero-small : word s (bpr_at v 0) ≤ 7 → word s (at + 21) + 1 ≤ 8
    zero-small l = rw a (omega arith)

    pub one-small : word s (bpr_at v 1) ≤ 7 → word s (at + 22) ≤ 8
    one-small l = rw a (omega arith)

    pub zero-fits : (k : ℕ) → k ≤ 1 → word s (bpr_at v 0) ≤ 7 → Fits w32 (word s (at + 21) + k)
    zero-fits k j l = record { fits = omega (arith, zero-small l) }

    pub lowest-level : (r : ℕ) → (r ≡ lowest (λ k. bit (word s (at + 23)) k || bit (word s (at + 24)) k) 32 0) × (r ≤ 32) → (r ≡ running_level s v) × (r ≤ 32)
    unfolding running_level
    lowest-level r h = (rw a at h.0, h.1)

    pub level-put : (i level : ℕ) (on : Bool) (w : ℕ) (t : List ℕ) → i ≡ g → w ≡ with_bit (word s (at + (23 + i))) level on → t ≡ set s (block v + (23 + i)) w
        → t ≡ set_level on v g level s
    unfolding set_level
    level-put i level on w t k e q = rw (q, e, a, k)

  pub cleared : (p n r : ℕ) → n ≡ cleared_bits s v g → r ≡ p / 2 ^ n * 2 ^ n → r ≡ group_priority s v g p
  unfolding group_priority
  cleared p n r e q = rw (q, e)

  pub cleared-less : (p n r : ℕ) → r ≡ p / 2 ^ n * 2 ^ n → r ≤ p
  cleared-less p n r q = rw q (div-mul-le_self p (2 ^ n))

  pub running : (r : ℕ) → r ≡ running_level s v → r < 32 → 8 * r ≡ running_priority s v
  unfolding running_priority
  running r e l = rw (← e, lt-ltb r 32 l)

  pub idle : (r : ℕ) → r ≡ running_level s v → 32 ≤ r → 255 ≡ running_priority s v
  unfolding running_priority
  idle r e l = rw (← e, le-ltb r 32 l)

  -- no register has bit 32
  pub no-level : (level : ℕ) → ((k : ℕ) → word s k < 2 ^ 32) → level ≡ 32 → false ≡ bit (word s (apr_at v g)) level
  no-level level f e = sym (bit-above 32 (word s (apr_at v g)) level (f (apr_at v g)) (omega arith))

  -- ---- what the best b is to the group

  pub group-tested : (b : ℕ) (t : Bool) → t ≡ group s v (b % id_span) → (ltb b (256 * id_span) && eqb (bool_byte t) g) ≡ of_group s v g b
  unfolding of_group
  group-tested b t e = rw (← e) (go t)
    where
      go : (t : Bool) → (ltb b (256 * id_span) && eqb (bool_byte t) g) ≡ (ltb b (256 * id_span) && eqb (val t) g)
      go true = refl
      go false = refl

  module _ (b : ℕ) (e : b ≡ best s v) where
    -- the highest pending
    pub pending-given : (t : Bool) → t ≡ of_group s v g b → t ≡ true → b % id_span ≡ highest_pending s v g
    unfolding highest_pending
    pending-given t q h = rw (← e, ← q, h)

    pub pending-none : (t : Bool) → t ≡ of_group s v g b → t ≡ false → spurious ≡ highest_pending s v g
    unfolding highest_pending
    pending-none t q h = rw (← e, ← q, h)

    -- what is offered, as a rank
    module _ (t : Bool) (q : t ≡ gives s v g b) where
      offers : not t ≡ false → offered s v g ≡ b
      unfolding offered
      offers h = rw (← e, told-yes (gives s v g b) t q h)

      offers-nothing : not t ≡ true → offered s v g ≡ nothing
      unfolding offered
      offers-nothing h = rw (← e, told-no (gives s v g b) t q h)

      given_below : not t ≡ false → b < (256 * id_span)
      unfolding gives of_group
      given_below h =
          let a = both (of_group s v g b && ltb (b / id_span) (word s (pmr_at v))) (ltb (group_priority s v g (b / id_span)) (8 * running_level s v)) (told-yes (gives s v g b) t q h) in
          let o = both (of_group s v g b) (ltb (b / id_span) (word s (pmr_at v))) a.0 in
          ltb-true b (256 * id_span) (both (ltb b (256 * id_span)) (eqb (val (group s v (b % id_span))) g) o.0).0

      -- the level to be set
      pub given-level : (p : ℕ) → not t ≡ false → p ≤ b / id_span → p / 8 < 32
      given-level p h l = omega (arith, given_below h)

      pub given-most : (p : ℕ) → not t ≡ false → p ≤ b / id_span → p / 8 ≤ 32
      given-most p h l = omega (arith, given-level p h l)

      -- ---- acknowledge

      pub none-given : not t ≡ true → Acknowledges g v s (Ok spurious) s
      unfolding first_failing level_clear acknowledged
      none-given h = rw (offers-nothing h) (record { answer = refl; state = refl })

      module _ (h : not t ≡ false) (p : ℕ) (c : p ≡ group_priority s v g (b / id_span)) (u : Bool) (d : u ≡ bit (word s (apr_at v g)) (p / 8)) where
        same-level : level_clear s v g (offered s v g) ≡ not u
        unfolding level_clear level_of
        same-level = rw (offers h, lt-ltb b (256 * id_span) (given_below h), ← c, ← d)

        pub level-taken : u ≡ true → Acknowledges g v s (Err Eio) s
        unfolding first_failing
        level-taken k = rw (same-level, k) (record { answer = refl; state = refl })

        pub given : (x : List ℕ) → u ≡ false → x ≡ set_level true v g (p / 8) (set_flag latch_field false v (b % id_span) (set_flag active_field true v (b % id_span) s))
            → Acknowledges g v s (Ok (b % id_span)) x
        unfolding first_failing acknowledged taken level_of
        given x k m = rw (same-level, k, offers h, lt-ltb b (256 * id_span) (given_below h), ← c) (record { answer = refl; state = m })

-- ---- the signal

module _ (s : List ℕ) (v b : ℕ) (e : b ≡ best s v) where
  found-by : (g : ℕ) (t : Bool) → t ≡ gives s v g b → found (offered s v g) ≡ t
  found-by g true q = rw (offers s v g b e true q refl) (lt-ltb b (256 * id_span) (given_below s v g b e true q refl))
  found-by g false q = rw (offers-nothing s v g b e false q refl)

  pub signal-one : (t : Bool) → t ≡ gives s v 1 b → t ≡ true → 1 ≡ signal s v
  unfolding signal
  signal-one t q h = rw (found-by 1 t q, h)

  pub signal-zero : (t u : Bool) → t ≡ gives s v 1 b → t ≡ false → u ≡ gives s v 0 b → u ≡ true → 2 ≡ signal s v
  unfolding signal
  signal-zero t u q h r k = rw (found-by 1 t q, h, found-by 0 u r, k)

  pub no-signal : (t u : Bool) → t ≡ gives s v 1 b → t ≡ false → u ≡ gives s v 0 b → u ≡ false → 0 ≡ signal s v
  unfolding signal
  no-signal t u q h r k = rw (found-by 1 t q, h, found-by 0 u r, k)
