-- The best is the candidate of least priority, and among those the one of least ID; going through the interrupts in parts.
use Prim.Native.Nat.{ℕ, zero, suc, ◌+◌, ◌*◌, ◌≤◌, ◌<◌, min}
use mathlib.Core.Path.{◌≡◌, refl, ap, ◌∙◌}
use mathlib.Core.Bool.{Bool, true, false, cond}
use mathlib.Core.Logic.{◌⊎◌, inl, inr, ⊎_elim}
use mathlib.Core.List.{List}
use native.Mathlib.Nat.{zero-add, add-zero, suc-add, add-suc}
use native.Mathlib.Omega.{arith}
use native.Mathlib.Decide.{dec_lt}
use Rattle.model.specs.Values.{id_span}
use Rattle.model.specs.Layout.{count}
use Rattle.model.specs.Interrupts.{priority}
use Rattle.model.specs.Interface.{candidate, rank, nothing, rank_priority, rank_id, better, scan, best}

module _ (s : List ℕ) (v : ℕ) where
  -- ---- going through the interrupts: in parts, and past those that change nothing

  pub scan-add : (n m id b : ℕ) → scan s v (n + m) id b ≡ scan s v m (id + n) (scan s v n id b)
  unfolding scan
  scan-add zero m id b = rw (zero-add, add-zero)
  scan-add (suc n) m id b = rw (suc-add n m, add-suc id n, ← suc-add id n) (scan-add n m (suc id) (better s v id b))

  pub scan-kept : (n id b : ℕ) → ((j : ℕ) → id ≤ j → j < id + n → better s v j b ≡ b) → scan s v n id b ≡ b
  unfolding scan
  scan-kept zero id b k = refl
  scan-kept (suc n) id b k =
      ap (scan s v n (suc id)) (k id (omega arith) (omega arith)) ∙ scan-kept n (suc id) b (λ j l h. k j (omega arith) (omega arith))

  -- ---- no candidate that exists has a lower rank

  better-le : (id b : ℕ) → better s v id b ≤ b
  unfolding better
  better-le id b = step (candidate s v id)
    where
      step : (t : Bool) → cond t (min (rank s v id) b) b ≤ b
      step true = omega arith
      step false = omega arith

  better-rank : (id b : ℕ) → candidate s v id ≡ true → better s v id b ≤ rank s v id
  unfolding better
  better-rank id b h = rw h (omega arith)

  scan-le : (n id b : ℕ) → scan s v n id b ≤ b
  unfolding scan
  scan-le zero id b = omega arith
  scan-le (suc n) id b = omega (arith, scan-le n (suc id) (better s v id b), better-le id b)

  scan-least : (n id b j : ℕ) → id ≤ j → j < id + n → candidate s v j ≡ true → scan s v n id b ≤ rank s v j
  unfolding scan
  scan-least zero id b j l h e = absurd (omega arith)
  scan-least (suc n) id b j l h e = step (dec_lt id j) (scan-least n (suc id) (better s v id b) j)
    where
      step : Dec (id < j) → (suc id ≤ j → j < suc id + n → candidate s v j ≡ true → scan s v n (suc id) (better s v id b) ≤ rank s v j)
          → scan s v n (suc id) (better s v id b) ≤ rank s v j
      step (yes q) ih = ih q (omega arith) e
      step (no q) ih =
          let same : id ≡ j = omega arith in
          let here : better s v id b ≤ rank s v j = rw same (better-rank j b e) in
          omega (arith, scan-le n (suc id) (better s v id b))

  pub best-least : (j : ℕ) → j < min (count s) 1020 → candidate s v j ≡ true → best s v ≤ rank s v j
  unfolding best
  best-least j h e = scan-least (min (count s) 1020) 0 nothing j (omega arith) (omega arith) e

  -- ---- it is nothing, or the rank of a candidate that exists

  abbrev Found : ℕ → ℕ → ℕ → Type 0
  Found n id r = (j : ℕ) × (id ≤ j) × (j < id + n) × (candidate s v j ≡ true) × (r ≡ rank s v j)

  better-cases : (id b : ℕ) → (better s v id b ≡ b) ⊎ ((candidate s v id ≡ true) × (better s v id b ≡ rank s v id))
  unfolding better
  better-cases id b = step (candidate s v id) refl
    where
      smaller : (x y : ℕ) → (min x y ≡ y) ⊎ (min x y ≡ x)
      smaller x y = elim (dec_lt x y) [ yes h ↦ inr (omega arith) | no h ↦ inl (omega arith) ]

      step : (t : Bool) → candidate s v id ≡ t → (cond t (min (rank s v id) b) b ≡ b) ⊎ ((candidate s v id ≡ true) × (cond t (min (rank s v id) b) b ≡ rank s v id))
      step true e = ⊎_elim (λ h. inl h) (λ h. inr (e, h)) (smaller (rank s v id) b)
      step false e = inl refl

  scan-found : (n id b : ℕ) → (scan s v n id b ≡ b) ⊎ Found n id (scan s v n id b)
  unfolding scan
  scan-found zero id b = inl refl
  scan-found (suc n) id b =
      ⊎_elim (λ e. ⊎_elim (λ k. inl (e ∙ k)) (λ k. inr (id, omega arith, omega arith, k.0, e ∙ k.1)) (better-cases id b))
      (λ f. inr (f.0, omega (arith, f.1), omega (arith, f.2), f.3, f.4)) (scan-found n (suc id) (better s v id b))

  pub best-found : (best s v ≡ nothing) ⊎ ((j : ℕ) × (j < min (count s) 1020) × (candidate s v j ≡ true) × (best s v ≡ rank s v j))
  unfolding best
  best-found = ⊎_elim (λ e. inl e) (λ f. inr (f.0, omega (arith, f.2), f.3, f.4)) (scan-found (min (count s) 1020) 0 nothing)

  -- ---- the order of ranks is priority, then ID; a rank has both

  pub rank-order : (i j : ℕ) → i < id_span → j < id_span → rank s v i ≤ rank s v j → (priority s v i < priority s v j) ⊎ ((priority s v i ≡ priority s v j) × (i ≤ j))
  unfolding rank
  rank-order i j hi hj h = elim (dec_lt (priority s v i) (priority s v j)) [ yes l ↦ inl l | no l ↦ inr (omega arith, omega arith) ]

  pub rank-priority : (i : ℕ) → i < id_span → rank_priority (rank s v i) ≡ priority s v i
  unfolding rank
  rank-priority i h = omega arith

  pub rank-id : (i : ℕ) → i < id_span → rank_id (rank s v i) ≡ i
  unfolding rank
  rank-id i h = omega arith

  pub rank_below : (i : ℕ) → i < id_span → rank s v i < 256 * id_span
  unfolding rank
  rank_below i h = omega arith

  -- ---- the two together: the least ID among those of least priority, or nothing where there is no candidate

  pub best-order : (i : ℕ) → i < min (count s) 1020 → best s v ≡ rank s v i → (j : ℕ) → j < min (count s) 1020 → candidate s v j ≡ true
      → (priority s v i < priority s v j) ⊎ ((priority s v i ≡ priority s v j) × (i ≤ j))
  best-order i h e j l k = rank-order i j (omega arith) (omega arith) (rw e at (best-least j l k))

  pub best-nothing : best s v ≡ nothing → (j : ℕ) → j < min (count s) 1020 → candidate s v j ≡ false
  best-nothing e j l = step (candidate s v j) refl
    where
      step : (t : Bool) → candidate s v j ≡ t → candidate s v j ≡ false
      step true k = absurd (omega (arith, best-least j l k, rank_below j (omega arith)))
      step false k = k

-- interrupt i is the best of those that exist: a candidate, and every candidate has a higher priority number, or the same and no lower ID
pub record IsBest (s : List ℕ) (v i : ℕ) : Type 0 where
  pub exists : i < min (count s) 1020
  pub ready : candidate s v i ≡ true
  pub found : best s v ≡ rank s v i
  pub least : (j : ℕ) → j < min (count s) 1020 → candidate s v j ≡ true → (priority s v i < priority s v j) ⊎ ((priority s v i ≡ priority s v j) × (i ≤ j))

-- no interrupt that exists is a candidate
pub record NoneReady (s : List ℕ) (v : ℕ) : Type 0 where
  pub none : (j : ℕ) → j < min (count s) 1020 → candidate s v j ≡ false
  pub found : best s v ≡ nothing

pub the-best : (s : List ℕ) (v : ℕ) → NoneReady s v ⊎ ((i : ℕ) × IsBest s v i)
the-best s v =
    ⊎_elim (λ e. inl (record { none = best-nothing s v e; found = e }))
    (λ f. inr (f.0, record { exists = f.1; ready = f.2; found = f.3; least = best-order s v f.0 f.1 f.3 })) (best-found s v)
