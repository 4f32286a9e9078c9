-- Save and restore by their tests: which refusal a branch has come to, and what the call does where none holds.
use Prim.Native.Nat.{ℕ, ◌≤◌, ◌<◌}
use mathlib.Core.Path.{◌≡◌, refl, sym, ap, ◌∙◌}
use mathlib.Core.List.{List, [], ◌∷◌, ◌++◌}
use native.Mathlib.Omega.{arith}
use native.Mathlib.Nat.{zero-add}
use native.Mathlib.Decide.{dec_lt}
use borrow.Author.Tests.{leb-true, lt-ltb, le-ltb}
use lib.ListN.{length, drop, drop_of_length-le}
use lib.Seq.{length-sets}
use Rattle.model.specs.Sound.{sound}
use Rattle.model.specs.Refusals.{Refusal, first_failing, number}
use Rattle.model.specs.Record.{record_of, saved, Loaded, done, fault, restored, faults, loaded_state}
use Rattle.model.specs.Calls.{Does, call, save, restore, refusal, describe}
use Rattle.model.specs.Demands.{Stopped, Fresh}
use Rattle.model.specs.declared.Errno.{Errno}
use Rattle.model.specs.declared.Errno.TheVariants.{Efault}
use Rattle.model.proofs.Restores.{fresh-stopped}
use Rattle.model.proofs.Refused.{none_then, fails-then, refusal-list, refuses, grants}
use Rattle.state.proofs.Admitted.{admitted}
use Rattle.record.specs.Table.{parts, slots, left_at, ShapeOf}
use Rattle.record.specs.Walked.{Judged, past, short, faulty, judged, kept, cleared, outcome, fault_of, device_checks, tells, leaves, Loads, Takes, end_of}
use Rattle.record.specs.Written.{Wrote, save_checks}
use Rattle.std.specs.Prelude.{Result, Ok, Err}
use Rattle.record.specs.declared.number.Cursor.{Cursor}
use Rattle.record.specs.declared.restore.Stop.{Stop}
use Rattle.record.specs.declared.restore.Stop.TheVariants.{Short, Fault}
use Rattle.record.specs.declared.table.Part.{Part}
use Rattle.record.specs.declared.shape.Shape.{Shape}
use Rattle.record.proofs.Bytes.{sets-front, drop-next}
use Rattle.record.proofs.Walking.{left-all, left_end}
use Rattle.record.proofs.Loading.{restored-walk}
use Rattle.record.proofs.Cleared.{taken_back}

-- ---- save

module _ (s b : List ℕ) (r : Refusal) (h : r ≡ first_failing ((sound s, Efault) ∷ save_checks s (length b))) where
  fill-decides : refusal (save b) s ≡ r
  unfolding describe save_checks
  fill-decides = refusal-list (save b) s ∙ sym h

  pub fill-refused : (e : Errno) → r ≡ Err e → Does (call (save b) s) (number (Err e)) s (b ∷ [])
  unfolding describe
  fill-refused e q = refuses (save b) s (b ∷ []) e (sym (fill-decides ∙ q)) refl

  module _ (q : r ≡ Ok tt) where
    pub asks-stopped : Stopped s
    unfolding save_checks
    asks-stopped = let p = admitted s r (save_checks s (length b)) h q in record { is_sound = p.0; is_stopped = p.1.0 }

    pub fill-room : length (record_of s) ≤ length b
    unfolding save_checks
    fill-room = leb-true _ _ (admitted s r (save_checks s (length b)) h q).1.1.0

    module _ (n : ℕ) (t : List ℕ) (w : Wrote b 0 (record_of s) n t) where
      -- the record is within the buffer, which keeps its length
      pub fill-within : n ≤ length t
      fill-within = rw (w.bytes, length-sets b 0 (record_of s)) (omega (arith, w.place, fill-room))

      pub fill_done : Does (call (save b) s) (number (Ok n)) s (t ∷ [])
      unfolding describe saved
      fill_done = grants (save b) s n s (t ∷ []) (sym (fill-decides ∙ q)) (w.place ∙ zero-add _) refl (ap (λ (x : List ℕ). x ∷ []) (w.bytes ∙ sets-front b (record_of s) fill-room))

-- ---- restore: the record

module _ (ps : List Part) (bytes s : List ℕ) where
  -- the refusal that a walk over the whole table comes to
  ends : (a : Result Cursor Stop) (u : List ℕ) → fault_of (outcome (tells ps bytes (length ps) a s) u) ≡ end_of bytes a
  unfolding tells end_of outcome fault_of faults first_failing judged
  ends (Err (Short p b)) u = refl
  ends (Err (Fault e)) u = refl
  ends (Ok c) u = rw (left_end ps (length ps) (omega arith)) (go (dec_lt c.at (length bytes)))
    where
      go : Dec (c.at < length bytes) → fault_of (outcome (past (drop c.at bytes)) u) ≡ end_of bytes (Ok c)
      go (yes l) = rw (lt-ltb c.at (length bytes) l, drop-next bytes c.at 0 l)
      go (no l) = let m : length bytes ≤ c.at = omega arith in rw (le-ltb c.at (length bytes) m, drop_of_length-le bytes m)

  -- the state that it leaves
  left_by : (a : Result Cursor Stop) → leaves ps bytes (length ps) a s ≡ s
  unfolding leaves kept
  left_by (Ok c) = rw (left_end ps (length ps) (omega arith))
  left_by (Err (Short p b)) = refl
  left_by (Err (Fault e)) = refl

-- a walk with no fault leaves what it stored, and with one the target stays
module _ (t : List ℕ) where
  no-fault : (x : Judged) (s : List ℕ) → fault_of (outcome x s) ≡ Ok tt → s ≡ loaded_state t (outcome x s)
  unfolding outcome loaded_state fault_of faults first_failing
  no-fault (past []) s n = refl
  no-fault (past (b ∷ r)) s n = let z : ◌≡◌ {A = ℕ} 0 1 = cc in absurd (omega arith)
  no-fault (short xs y v) s n = let z : ◌≡◌ {A = ℕ} 0 1 = cc in absurd (omega arith)
  no-fault (faulty e) s n = let z : ◌≡◌ {A = ℕ} 0 1 = cc in absurd (omega arith)

  a-fault : (l : Loaded) (e : Errno) → fault_of l ≡ Err e → t ≡ loaded_state t l
  unfolding loaded_state fault_of faults first_failing
  a-fault (done s) e n = let z : ◌≡◌ {A = ℕ} 0 1 = cc in absurd (omega arith)
  a-fault (fault f) e n = refl

module _ (t : List ℕ) (ft : Fresh t) where
  pub fresh-is-stopped : Stopped t
  fresh-is-stopped = fresh-stopped t ft

  module _ (h : Shape) (sh : ShapeOf t h) (bytes : List ℕ) (a : Result Cursor Stop) (u : List ℕ) (w : Loads (parts h.count h.vcpus) bytes (record { part = 0; word = 0 }) 0 (length (parts h.count h.vcpus)) t u a) where
    abbrev table : List Part
    table = parts h.count h.vcpus

    -- the target's own values
    own : restored t bytes ≡ outcome (judged (left_at table 0 0) bytes t) (kept (left_at table 0 0) bytes t)
    own = rw (left-all table, sh.same_count, sh.same_vcpus) (restored-walk t ft bytes)

    stored : u ≡ kept (left_at table 0 0) bytes t
    stored = sym (left_by table bytes u a) ∙ w.state

    decides : fault_of (restored t bytes) ≡ end_of bytes a
    decides = ap fault_of own ∙ ap (λ (x : Judged). fault_of (outcome x (kept (left_at table 0 0) bytes t))) (sym w.come) ∙ ends table bytes u a (kept (left_at table 0 0) bytes t)

    module _ (r : Refusal) (q : r ≡ end_of bytes a) where
      pub takes_whole : r ≡ Ok tt → Takes t bytes (Ok tt) u
      takes_whole n = record {
        refusal = sym n ∙ q ∙ sym decides;
        state = stored ∙ no-fault t (judged (left_at table 0 0) bytes t) (kept (left_at table 0 0) bytes t) (sym (ap fault_of own) ∙ decides ∙ sym q ∙ n) ∙ sym (ap (loaded_state t) own);
      }

      -- the fresh words are put back
      pub takes_back : (e : Errno) → r ≡ Err e → (s : List ℕ) → s ≡ cleared (slots h.count h.vcpus) u → Takes t bytes (Err e) s
      takes_back e n s c = record { refusal = sym n ∙ q ∙ sym decides; state = same ∙ a-fault t (restored t bytes) e (decides ∙ sym q ∙ n) }
        where
          same : s ≡ t
          same = c ∙ ap (cleared (slots h.count h.vcpus)) stored ∙ rw (left-all table, sh.same_count, sh.same_vcpus) (taken_back t ft bytes)

-- ---- restore: the tests of the device, then those of the record

module _ (s bytes : List ℕ) (r : Refusal) (h : r ≡ first_failing ((sound s, Efault) ∷ device_checks s)) where
  tests-are : refusal (restore bytes) s ≡ first_failing (((sound s, Efault) ∷ device_checks s) ++ faults (restored s bytes))
  unfolding describe device_checks
  tests-are = refusal-list (restore bytes) s

  pub device-refused : (e : Errno) → r ≡ Err e → Does (call (restore bytes) s) (number (Err e)) s (bytes ∷ [])
  unfolding describe
  device-refused e q = refuses (restore bytes) s (bytes ∷ []) e (sym (tests-are ∙ fails-then ((sound s, Efault) ∷ device_checks s) (faults (restored s bytes)) e (sym h ∙ q))) refl

  module _ (q : r ≡ Ok tt) where
    pub asks-fresh : Fresh s
    unfolding device_checks
    asks-fresh = let p = admitted s r (device_checks s) h q in record { is_sound = p.0; is_fresh = p.1.1.0 }

    module _ (f : Refusal) (u : List ℕ) (g : Takes s bytes f u) where
      record-decides : refusal (restore bytes) s ≡ f
      unfolding fault_of
      record-decides = tests-are ∙ none_then ((sound s, Efault) ∷ device_checks s) (faults (restored s bytes)) (sym h ∙ q) ∙ sym g.refusal

      pub record-refused : (e : Errno) → f ≡ Err e → Does (call (restore bytes) s) (number (Err e)) u (bytes ∷ [])
      unfolding describe
      record-refused e k =
          let same : u ≡ s = g.state ∙ sym (a-fault s (restored s bytes) e (sym g.refusal ∙ k)) in
          rw same (refuses (restore bytes) s (bytes ∷ []) e (sym (record-decides ∙ k)) refl)

      pub restore-done : f ≡ Ok tt → Does (call (restore bytes) s) (number (Ok 0)) u (bytes ∷ [])
      unfolding describe
      restore-done k = grants (restore bytes) s 0 u (bytes ∷ []) (sym (record-decides ∙ k)) refl g.state refl
