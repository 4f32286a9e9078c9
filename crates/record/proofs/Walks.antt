-- A record walked value by value: what is left to load, or to make fresh, gives what the whole gives.
use Prim.Native.Nat.{ℕ, ◌+◌, ◌≤◌, ◌<◌}
use mathlib.Core.Path.{◌≡◌, refl, sym, ◌∙◌}
use mathlib.Core.Bool.{Bool, true, false, not, cond}
use mathlib.Core.List.{List, []}
use native.Mathlib.Omega.{arith}
use Rattle.std.specs.Prelude.{Result, Ok, Err}
use borrow.Author.Tests.{not-true, not-false}
use lib.ListN.{length, get_or, set, drop, length-set, get_or-eq_default}
use Rattle.model.specs.declared.Errno.TheVariants.{Einval}
use Rattle.record.specs.Numbers.{read_on, told, Resumes}
use Rattle.record.specs.Table.{Slot, slot, blank, left_at, takes, hidden, least_of, fixed, slot_set, slot_put, slot_clear}
use Rattle.record.specs.Walked.{judged, judging, keeping, kept, cleared, tells, leaves, Resumed, Loads, Clears, unread_at}
use Rattle.record.specs.declared.number.Cursor.{Cursor}
use Rattle.record.specs.declared.number.Number.{Number}
use Rattle.record.specs.declared.number.Unread.{Unread}
use Rattle.record.specs.declared.number.Unread.TheVariants.{Cut, Broken}
use Rattle.record.specs.declared.restore.Stop.{Stop}
use Rattle.record.specs.declared.restore.Stop.TheVariants.{Short, Fault}
use Rattle.record.specs.declared.table.Kind.{Kind}
use Rattle.record.specs.declared.table.Part.{Part}
use Rattle.record.specs.declared.table.Place.{Place}
use Rattle.record.proofs.Walking.{left-turn, left-part, left_end}

-- past the last part nothing is left
left_over : (ps : List Part) (k j : ℕ) → length ps ≤ k → left_at ps k j ≡ []
left_over ps k j l = left-part ps k j blank (sym (get_or-eq_default ps blank l)) (omega arith) ∙ left_end ps (k + 1) (omega arith)

-- ---- one word, stored or not: y is the word that is shown as x, or a fresh word

module _ (s : List ℕ) (p : ℕ) (k : Kind) (f x y : ℕ) where
  as-put : y ≡ hidden k x → (u : List ℕ) → u ≡ slot_set s (slot p k f) y → u ≡ slot_put s (slot p k f) x
  unfolding slot_set slot_put
  as-put e u z = rw (← e) z

  as-clear : y ≡ least_of k f → (u : List ℕ) → u ≡ slot_set s (slot p k f) y → u ≡ slot_clear s (slot p k f)
  unfolding slot_set slot_clear
  as-clear e u z = rw (← e) z

set-or-length : (b : Bool) (s : List ℕ) (p w : ℕ) → length (cond b s (set s p w)) ≡ length s
set-or-length true s p w = refl
set-or-length false s p w = length-set s p w

put-length : (s : List ℕ) (p : ℕ) (k : Kind) (f v : ℕ) → length (slot_put s (slot p k f) v) ≡ length s
unfolding slot_put
put-length s p k f v = set-or-length (fixed k) s p (hidden k v)

clear-length : (s : List ℕ) (p : ℕ) (k : Kind) (f : ℕ) → length (slot_clear s (slot p k f)) ≡ length s
unfolding slot_clear
clear-length s p k f = set-or-length (fixed k) s p (least_of k f)

-- ---- loading the values of one part

-- those before word j are loaded: the walk from word j on comes to what the walk from word j₀ on comes to, and leaves what that leaves
pub record Loading (bytes : List ℕ) (p : Part) (at₀ j₀ : ℕ) (s₀ : List ℕ) (at j : ℕ) (s : List ℕ) : Type 0 where
  pub same : length s ≡ length s₀
  pub come : (ps : List Part) (k : ℕ) → p ≡ get_or ps k blank → judged (left_at ps k j) (drop at bytes) s ≡ judged (left_at ps k j₀) (drop at₀ bytes) s₀
  pub state : (ps : List Part) (k : ℕ) → p ≡ get_or ps k blank → kept (left_at ps k j) (drop at bytes) s ≡ kept (left_at ps k j₀) (drop at₀ bytes) s₀

module _ (bytes : List ℕ) (p : Part) (at₀ j₀ : ℕ) (s₀ : List ℕ) (c : Cursor) (j : ℕ) (s : List ℕ) (w : Loading bytes p at₀ j₀ s₀ c.at j s) where
  -- a number is read
  module _ (l : j < p.len) (r : Result Number Unread) (m : told bytes r ≡ read_on 0 1 (drop c.at bytes)) where
    abbrev x : Slot
    x = slot (p.base + p.first + j) p.kind (p.first + j)

    module _ (ps : List Part) (k : ℕ) (e : p ≡ get_or ps k blank) where
      abbrev left : List Slot
      left = left_at ps k (j + 1)

      comes : judging s x left (told bytes r) (λ v b. judged left b (slot_put s x v)) ≡ judged (left_at ps k j₀) (drop at₀ bytes) s₀
      unfolding judged
      comes = rw m (rw (left-turn ps k j p e l) at (w.come ps k e))

      keeps : keeping s x (told bytes r) (λ v b. kept left b (slot_put s x v)) ≡ kept (left_at ps k j₀) (drop at₀ bytes) s₀
      unfolding kept
      keeps = rw m (rw (left-turn ps k j p e l) at (w.state ps k e))

    module _ (n : Number) (q : r ≡ Ok n) (b : Bool) (h : b ≡ takes s x n.value) where
      pub loading-next : not b ≡ false → (y : ℕ) → y ≡ hidden p.kind n.value → (u : List ℕ) → u ≡ slot_set s x y → Loading bytes p at₀ j₀ s₀ n.next.at (j + 1) u
      unfolding judging keeping told
      loading-next t y f u z = rw (as-put s _ p.kind _ n.value y f u z) (record {
        same = put-length s _ p.kind _ n.value ∙ w.same;
        come = λ ps k e. rw (q, ← h, not-false b t) at (comes ps k e);
        state = λ ps k e. rw (q, ← h, not-false b t) at (keeps ps k e);
      })

      pub loading-fault : not b ≡ true → (ps : List Part) (from : Place) → p ≡ get_or ps from.part blank → j₀ ≡ from.word → (k : ℕ) → Loads ps bytes from at₀ k s₀ s (Err (Fault Einval))
      unfolding judging keeping told tells leaves
      loading-fault t ps from e z k = record {
        same = w.same;
        resumes = tt;
        come = rw (← z) (rw (q, ← h, not-true b t) at (comes ps from.part e));
        state = rw (← z) (rw (q, ← h, not-true b t) at (keeps ps from.part e));
      }

    pub loading-unread : Resumes r → (y : Unread) → r ≡ Err y → (ps : List Part) (from : Place) → p ≡ get_or ps from.part blank → j₀ ≡ from.word
        → (a : Stop) → a ≡ unread_at (record { part = from.part; word = j }) y → (k : ℕ) → Loads ps bytes from at₀ k s₀ s (Err a)
    unfolding judging keeping told tells leaves unread_at
    loading-unread g y q ps from e z a f k = rw f (record {
      same = w.same;
      resumes = resumed y (rw q at g);
      come = comes-to y (rw q at (comes ps from.part e));
      state = rw (← z) (stays y (rw q at (keeps ps from.part e)));
    })
      where
        resumed : (y : Unread) → Resumes (Err y) → Resumed (Err (unread_at (record { part = from.part; word = j }) y))
        resumed (Cut b) g = g
        resumed Broken g = tt

        comes-to : (y : Unread) → judging s x (left_at ps from.part (j + 1)) (told bytes (Err y)) (λ v b. judged (left_at ps from.part (j + 1)) b (slot_put s x v)) ≡ judged (left_at ps from.part j₀) (drop at₀ bytes) s₀
            → tells ps bytes k (Err (unread_at (record { part = from.part; word = j }) y)) s ≡ judged (left_at ps from.part from.word) (drop at₀ bytes) s₀
        comes-to (Cut b) g = rw (left-turn ps from.part j p e l, ← z) g
        comes-to Broken g = rw (← z) g

        stays : (y : Unread) → keeping s x (told bytes (Err y)) (λ v b. kept (left_at ps from.part (j + 1)) b (slot_put s x v)) ≡ kept (left_at ps from.part j₀) (drop at₀ bytes) s₀
            → leaves ps bytes k (Err (unread_at (record { part = from.part; word = j }) y)) s ≡ kept (left_at ps from.part j₀) (drop at₀ bytes) s₀
        stays (Cut b) g = g
        stays Broken g = g

  pub loading-end : p.len ≤ j → (ps : List Part) (from : Place) → p ≡ get_or ps from.part blank → j₀ ≡ from.word → Loads ps bytes from at₀ (from.part + 1) s₀ s (Ok c)
  unfolding tells leaves
  loading-end l ps from e z = record {
    same = w.same;
    resumes = tt;
    come = rw (← left-part ps from.part j p e l, ← z) (w.come ps from.part e);
    state = rw (← left-part ps from.part j p e l, ← z) (w.state ps from.part e);
  }

-- ---- loading part by part

-- what is before word j of part k is loaded
pub record Loaded (ps : List Part) (bytes : List ℕ) (from : Place) (at₀ : ℕ) (s₀ : List ℕ) (k j at : ℕ) (s : List ℕ) : Type 0 where
  pub same : length s ≡ length s₀
  pub come : judged (left_at ps k j) (drop at bytes) s ≡ judged (left_at ps from.part from.word) (drop at₀ bytes) s₀
  pub state : kept (left_at ps k j) (drop at bytes) s ≡ kept (left_at ps from.part from.word) (drop at₀ bytes) s₀

module _ (ps : List Part) (bytes : List ℕ) (from : Place) (at₀ : ℕ) (s₀ : List ℕ) (k j : ℕ) (c : Cursor) (s : List ℕ) (w : Loaded ps bytes from at₀ s₀ k j c.at s) where
  module _ (r : Result Cursor Stop) (u : List ℕ) (m : Loads ps bytes (record { part = k; word = j }) c.at (k + 1) s u r) where
    pub loaded-next : (d : Cursor) → r ≡ Ok d → Loaded ps bytes from at₀ s₀ (k + 1) 0 d.at u
    unfolding tells leaves
    loaded-next d q = record { same = m.same ∙ w.same; come = rw q at m.come ∙ w.come; state = rw q at m.state ∙ w.state }

    -- the walk ends in the middle
    pub loaded-stops : (y : Stop) → r ≡ Err y → (n : ℕ) → Loads ps bytes from at₀ n s₀ u (Err y)
    loaded-stops y q n = record { same = m.same ∙ w.same; resumes = rw q at m.resumes; come = come-on y ∙ (rw q at m.come) ∙ w.come; state = state-on y ∙ (rw q at m.state) ∙ w.state }
      where
        come-on : (y : Stop) → tells ps bytes n (Err y) u ≡ tells ps bytes (k + 1) (Err y) u
        come-on (Short p b) = unfold tells in refl
        come-on (Fault e) = unfold tells in refl

        state-on : (y : Stop) → leaves ps bytes n (Err y) u ≡ leaves ps bytes (k + 1) (Err y) u
        state-on (Short p b) = unfold leaves in refl
        state-on (Fault e) = unfold leaves in refl

  pub loaded-end : (n : ℕ) → n ≡ length ps → n ≤ k → Loads ps bytes from at₀ (length ps) s₀ s (Ok c)
  unfolding tells leaves
  loaded-end n e l =
      let z = left_over ps k j (omega arith) in
      let y = left_end ps (length ps) (omega arith) in
      record { same = w.same; resumes = tt; come = rw y (rw z at w.come); state = rw y (rw z at w.state) }

-- ---- a fresh device as it was

-- of the part p the words before the j-th are fresh
pub record Clearing (p : Part) (s₀ : List ℕ) (j : ℕ) (s : List ℕ) : Type 0 where
  pub same : length s ≡ length s₀
  pub state : (ps : List Part) (k : ℕ) → p ≡ get_or ps k blank → cleared (left_at ps k j) s ≡ cleared (left_at ps k 0) s₀

module _ (p : Part) (s₀ : List ℕ) (j : ℕ) (s : List ℕ) (w : Clearing p s₀ j s) where
  pub clearing-next : j < p.len → (y : ℕ) → y ≡ least_of p.kind (p.first + j) → (u : List ℕ) → u ≡ slot_set s (slot (p.base + p.first + j) p.kind (p.first + j)) y → Clearing p s₀ (j + 1) u
  unfolding cleared
  clearing-next l y f u z = rw (as-clear s _ p.kind (p.first + j) 0 y f u z) (record {
    same = clear-length s _ p.kind _ ∙ w.same;
    state = λ ps k e. rw (left-turn ps k j p e l) at (w.state ps k e);
  })

  pub clearing-end : p.len ≤ j → (ps : List Part) (k : ℕ) → p ≡ get_or ps k blank → Clears ps k (k + 1) s₀ s
  clearing-end l ps k e = record { same = w.same; state = rw (left-part ps k j p e l) at (w.state ps k e) }

module _ (ps : List Part) (s₀ : List ℕ) (k : ℕ) (s : List ℕ) (w : Clears ps 0 k s₀ s) where
  pub clears-all : (n : ℕ) → n ≡ length ps → n ≤ k → (xs : List Slot) → left_at ps 0 0 ≡ xs → s ≡ cleared xs s₀
  unfolding cleared
  clears-all n e l xs z = rw (← z) (rw (left_end ps k (omega arith)) at w.state)
