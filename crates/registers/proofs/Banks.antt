-- A register's word read from the words of its bank, and written to them, as the definitions say it interrupt by interrupt.
use Prim.Native.Nat.{ℕ, ◌+◌, ◌*◌, ◌-◌, ◌/◌, ◌%◌, ◌<◌}
use mathlib.Core.Path.{◌≡◌, refl, sym, ap, ◌∙◌}
use mathlib.Core.Bool.{Bool, cond, ◌&&◌, and_comm, and_assoc}
use mathlib.Core.List.{List}
use native.Mathlib.Omega.{arith}
use borrow.Rule.Slice.PartMut.{mid_of}
use lib.Bits.{bit_and, and_le_r}
use lib.Dec.{eqb, leb}
use lib.ListN.{set}
use Rattle.model.specs.Words.{bit, gather, spread}
use Rattle.model.specs.Layout.{word, bank}
use Rattle.model.specs.Interrupts.{edge, priority}
use Rattle.model.specs.Registers.{shows, has, seen_by, read_flags, read_priority, read_config, write_flags, write_priority, write_config}
use Rattle.model.specs.declared.View.{View}
use Rattle.model.specs.declared.Rule.{Rule}
use Rattle.model.specs.declared.Shown.{Shown}
use Rattle.model.specs.declared.Shown.TheVariants.{Nothing, Flag, Pending}
use Rattle.model.proofs.Bits.{gather-same, gather-lt, bit-gather, word-is}
use Rattle.model.proofs.Within.{bit-none}
use Rattle.model.proofs.Fields.{banks-most, flag-bit, priority-bit, edge-bit}
use Rattle.words.specs.Words.{under, priority_under, collect}
use Rattle.words.proofs.Operators.{bit-and}
use Rattle.words.proofs.Pending.{pending-bit}
use Rattle.state.proofs.Lending.{at_mid}
use Rattle.registers.specs.Words.{flags_meant, priorities_meant, edges_meant, shown_in, edges_under, names}
use Rattle.registers.specs.declared.priorities.Bytes.{Bytes}

-- a bit of word k of IPRIORITYR, and an edge flag of word k of ICFGR, in the bank's word
of_four : (s : List ℕ) (v k i : ℕ) → i < 32 → bit (priority s v (4 * k + i / 8)) (i % 8) ≡ bit (word s (bank v (k / 8) + 5 + k % 8)) i
of_four s v k i l = let p : 8 * (k / 8) + k % 8 ≡ k = omega arith in rw p at (priority-bit s v (k / 8) (k % 8) i (omega arith) l)

of-sixteen : (s : List ℕ) (v k i : ℕ) → i < 16 → edge s v (16 * k + i) ≡ bit (word s (bank v (k / 2) + 13 + k % 2)) i
of-sixteen s v k i l = let p : 2 * (k / 2) + k % 2 ≡ k = omega arith in rw p at (edge-bit s v (k / 2) (k % 2) i (omega arith) l)

-- a word of which the bits that a mask names are read
masked : (w m : ℕ) (f g : ℕ → Bool) → m ≡ gather 32 f → ((i : ℕ) → i < 32 → bit w i ≡ g i) → bit_and w m ≡ gather 32 (λ i. f i && g i)
masked w m f g e h =
    word-is 32 (bit_and w m) (λ i. f i && g i) (omega (arith, and_le_r w m, gather-lt 32 f))
    (λ i l. bit-and w m i ∙ and_comm (bit w i) (bit m i) ∙ rw (e, bit-gather 32 f i l, h i l))

-- ---- reading

module _ (s : List ℕ) (x : View) where
  -- bit i of what is shown of the bank that starts at `at`
  shown-bit : (at : ℕ) (shown : Shown) (field k i : ℕ) → at ≡ bank (seen_by x) k → field < 16 → i < 32
      → bit (shown_in shown field (mid_of at (at + 16 - at) s)) i ≡ shows shown field s (seen_by x) (32 * k + i)
  unfolding shown_in shows
  shown-bit at Nothing field k i e l m = bit-none i
  shown-bit at Flag field k i e l m = rw (at_mid at (at + 16 - at) s field (omega arith), flag-bit s (seen_by x) k field i m, e)
  shown-bit at Pending field k i e l m = pending-bit s (mid_of at (at + 16 - at) s) (seen_by x) k i m (λ j n. rw (at_mid at (at + 16 - at) s j (omega arith), e))

  -- 32 flags
  pub reads-flags : (field from : ℕ) (shown : Shown) (k at : ℕ) → at ≡ bank (seen_by x) k → field < 16
      → read_flags s x field from shown k ≡ bit_and (shown_in shown field (mid_of at (at + 16 - at) s)) (flags_meant s x from k)
  unfolding flags_meant read_flags
  reads-flags field from shown k at e l = sym (masked _ _ _ _ refl (λ i m. shown-bit at shown field k i e l m))

  -- four priorities
  pub reads-priority : (k : ℕ) → read_priority s x k ≡ bit_and (word s (bank (seen_by x) (k / 8) + 5 + k % 8)) (priorities_meant s x k)
  unfolding priorities_meant read_priority
  reads-priority k = sym (masked _ _ _ _ refl (λ i l. sym (of_four s (seen_by x) k i l)))

  -- sixteen edge flags
  pub reads-config : (k : ℕ) → read_config s x k ≡ spread (bit_and (word s (bank (seen_by x) (k / 2) + 13 + k % 2)) (edges_meant s x k))
  unfolding edges_meant spread read_config
  reads-config k = gather-same 32 _ _ at-bit
    where
      at-bit : (i : ℕ) → i < 32
          → (eqb (i % 2) 1 && has s x (16 * k + i / 2) && edge s (seen_by x) (16 * k + i / 2))
          ≡ (eqb (i % 2) 1 && bit (bit_and (word s (bank (seen_by x) (k / 2) + 13 + k % 2)) (gather 16 (λ j. has s x (16 * k + j)))) (i / 2))
      at-bit i l =
          rw (
            and_assoc (eqb (i % 2) 1),
            bit-and (word s (bank (seen_by x) (k / 2) + 13 + k % 2)) (gather 16 (λ j. has s x (16 * k + j))) (i / 2),
            and_comm (bit (word s (bank (seen_by x) (k / 2) + 13 + k % 2)) (i / 2)),
            bit-gather 16 (λ j. has s x (16 * k + j)) (i / 2) (omega arith),
            of-sixteen s (seen_by x) k (i / 2) (omega arith),
          )

-- ---- writing

module _ (s : List ℕ) (x : View) where
  pub writes-flags : (field from : ℕ) (rule : Rule) (k value : ℕ)
      → write_flags s x field from rule k value
      ≡ set s (bank (seen_by x) k + field) (under rule (word s (bank (seen_by x) k + field)) value (flags_meant s x from k))
  unfolding flags_meant write_flags under
  writes-flags field from rule k value =
      ap (set s (bank (seen_by x) k + field)) (gather-same 32 _ _ (λ i j. rw (bit-gather 32 (λ h. has s x (32 * k + h) && leb from (32 * k + h)) i j, flag-bit s (seen_by x) k field i j)))

  pub writes-priority : (bytes : Bytes) (k value : ℕ)
      → write_priority s x (names bytes) k value
      ≡ set s (bank (seen_by x) (k / 8) + 5 + k % 8)
      (priority_under (word s (bank (seen_by x) (k / 8) + 5 + k % 8)) value (bit_and (gather 32 (λ i. names bytes (i / 8))) (priorities_meant s x k)))
  unfolding priorities_meant write_priority priority_under
  writes-priority bytes k value = ap (set s (bank (seen_by x) (k / 8) + 5 + k % 8)) (gather-same 32 _ _ at-bit)
    where
      at-bit : (i : ℕ) → i < 32
          → cond (names bytes (i / 8) && has s x (4 * k + i / 8)) (leb 3 (i % 8) && bit value i) (bit (priority s (seen_by x) (4 * k + i / 8)) (i % 8))
          ≡ cond (bit (bit_and (gather 32 (λ j. names bytes (j / 8))) (gather 32 (λ j. has s x (4 * k + j / 8)))) i) (leb 3 (i % 8) && bit value i) (bit (word s (bank (seen_by x) (k / 8) + 5 + k % 8)) i)
      at-bit i l = rw (bit-and (gather 32 (λ j. names bytes (j / 8))) (gather 32 (λ j. has s x (4 * k + j / 8))) i, bit-gather 32 (λ j. names bytes (j / 8)) i l, bit-gather 32 (λ j. has s x (4 * k + j / 8)) i l, of_four s (seen_by x) k i l)

  pub writes-config : (k value : ℕ)
      → write_config s x k value
      ≡ set s (bank (seen_by x) (k / 2) + 13 + k % 2) (edges_under (word s (bank (seen_by x) (k / 2) + 13 + k % 2)) (collect value) (edges_meant s x k))
  unfolding edges_meant write_config edges_under collect
  writes-config k value = ap (set s (bank (seen_by x) (k / 2) + 13 + k % 2)) (gather-same 16 _ _ at-bit)
    where
      at-bit : (i : ℕ) → i < 16
          → cond (has s x (16 * k + i)) (bit value (2 * i + 1)) (edge s (seen_by x) (16 * k + i))
          ≡ cond (bit (gather 16 (λ j. has s x (16 * k + j))) i) (bit (gather 16 (λ j. bit value (2 * j + 1))) i) (bit (word s (bank (seen_by x) (k / 2) + 13 + k % 2)) i)
      at-bit i l = rw (bit-gather 16 (λ j. has s x (16 * k + j)) i l, bit-gather 16 (λ j. bit value (2 * j + 1)) i l, of-sixteen s (seen_by x) k i l)

-- ---- the rules by which the code reads and writes

-- a view has at most 32 banks
pub ruleset within = (banks-most)

pub ruleset reads = (reads-flags, reads-priority, reads-config)

pub ruleset writes = (writes-flags, writes-priority, writes-config)
