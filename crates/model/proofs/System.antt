-- A guest's access to a system register, and a set of group 6, leave a sound, initialised device sound.
use Prim.Native.Nat.{ℕ, zero, suc, ◌+◌, ◌*◌, ◌/◌, ◌%◌, ◌^◌, ◌≤◌, ◌<◌, min}
use mathlib.Core.Path.{◌≡◌, refl}
use mathlib.Core.Bool.{Bool, true, false, cond, ◌&&◌}
use mathlib.Core.Logic.{⊎_elim}
use mathlib.Core.List.{List}
use native.Mathlib.Omega.{arith}
use native.Mathlib.Decide.{dec_lt}
use borrow.Author.Tests.{lt-ltb, ltb-true}
use lib.ListN.{get_or, set}
use Rattle.model.specs.Values.{icc_ctlr_bits, pmr_bits, id_span}
use Rattle.model.specs.Words.{bit, within, with_bit, all_below}
use Rattle.model.specs.Layout.{word, count, vcpus, block, pmr_field, pmr_at, ctlr_field, ctlr_at, bpr_field, apr_field, igrpen_field, bpr_at, apr_at, igrpen_at, latch_field, active_field}
use Rattle.model.specs.Interrupts.{is_private, is_spi, exists, set_flag}
use Rattle.model.specs.Sound.{fits, block_bits}
use Rattle.model.specs.Interface.{group_index, plain_write, rank, nothing, rank_id, best, running_level, gives, offered, level_of, set_level, taken, acknowledged, eoi_mode, dropped, ended, deactivated, sgi_id, reaches, sgi_sent, id_of, system_read_next, system_write}
use Rattle.model.specs.Registers.{seen_by}
use Rattle.model.specs.Attributes.{system_item, item_write}
use Rattle.model.specs.Calls.{system_read_state, system_write_state}
use Rattle.model.specs.declared.By.{By}
use Rattle.model.specs.declared.By.TheVariants.{Guest, Attribute}
use Rattle.model.specs.declared.View.TheVariants.{Frame}
use Rattle.model.specs.declared.InterruptGroup.{InterruptGroup}
use Rattle.model.specs.declared.Plain.{Plain}
use Rattle.model.specs.declared.Plain.TheVariants.{Pmr, Bpr, Apr, Ctlr, Sre, Igrpen}
use Rattle.model.specs.declared.Readable.{Readable}
use Rattle.model.specs.declared.Readable.TheVariants.{Iar, Hppir, Rpr}
use Rattle.model.specs.declared.Writable.{Writable}
use Rattle.model.specs.declared.Writable.TheVariants.{Eoir, Dir, Sgi1r, Sgi0r}
use Rattle.model.specs.declared.SystemRegister.{SystemRegister}
use Rattle.model.specs.declared.SystemRegister.TheVariants.{Both, Read, Write, Unnamed}
use Rattle.model.proofs.Tests.{both, either, below_at}
use Rattle.model.proofs.Bits.{gather-lt}
use Rattle.model.proofs.Within.{masked-fits}
use Rattle.model.proofs.Soundness.{Sound, Ready, ready-is-sound}
use Rattle.model.proofs.Best.{best-found, rank-id, rank_below}
use Rattle.model.proofs.Fields.{within-spi, group_below}
use Rattle.model.proofs.Stores.{Free}
use Rattle.model.proofs.Writes.{low_fits, Leaves, Present, own, shared, leaves-sound, leaves-ready, leaves-number, leaves-present, stores-block, stores-no-line, latched}

-- the bits of PMR
pmr-fits : (x : ℕ) → fits (x % 256 / 8 * 8) pmr_bits ≡ true
pmr-fits x = below_at (λ u. fits (u * 8) pmr_bits) 32 test (x % 256 / 8) (omega arith)
  where
    test : all_below (λ u. fits (u * 8) pmr_bits) 32 ≡ true
    test = unfold all_below fits within in refl

module _ (s : List ℕ) (h : Ready s) where
  -- ---- the words of a vCPU's interface

  pub stores-pmr : (by : By) (v x : ℕ) → v < vcpus s → Leaves s (pmr_at v) (plain_write by s v Pmr x)
  unfolding plain_write
  stores-pmr by v x l = stores-block s h v pmr_field _ l (omega arith) (omega arith) (pmr-fits x)

  pub stores-ctlr : (by : By) (v x : ℕ) → v < vcpus s → Leaves s (ctlr_at v) (plain_write by s v Ctlr x)
  unfolding plain_write
  stores-ctlr by v x l = stores-block s h v ctlr_field _ l (omega arith) (omega arith) (masked-fits icc_ctlr_bits x)

  -- n bits, at word j of the block for group 0 and at the next for group 1
  stores-grouped : (v j n g w : ℕ) → v < vcpus s → g < 2 → all_below (λ i. all_below (bit (get_or block_bits (j + i) 0)) n) 2 ≡ true → 18 ≤ j → Free (j + g) w
      → (w < 2 ^ n) × (n ≤ 32) → Leaves s (block v + (j + g)) (set s (block v + (j + g)) w)
  stores-grouped v j n g w l m e a b k =
      stores-block s h v (j + g) w l (omega arith) b (low_fits n w (get_or block_bits (j + g) 0) k (below_at (λ i. all_below (bit (get_or block_bits (j + i) 0)) n) 2 e g m))

  pub stores-bpr : (by : By) (v : ℕ) (g : InterruptGroup) (x : ℕ) → v < vcpus s → Leaves s (bpr_at v (group_index g)) (plain_write by s v (Bpr g) x)
  unfolding plain_write
  stores-bpr by v g x l =
      let m = group_below g in
      stores-grouped v (bpr_field 0) 3 (group_index g) _ l m (unfold all_below bit in refl) (omega arith) (omega arith) (omega arith)

  -- an AP word has any 32 bits
  stores-active-priorities : (v g w : ℕ) → v < vcpus s → g < 2 → w < 2 ^ 32 → Leaves s (apr_at v g) (set s (apr_at v g) w)
  stores-active-priorities v g w l m k = stores-grouped v (apr_field 0) 32 g w l m (unfold all_below bit in refl) (omega arith) (omega arith) (omega arith)

  pub stores-apr : (by : By) (v : ℕ) (g : InterruptGroup) (x : ℕ) → v < vcpus s → Leaves s (apr_at v (group_index g)) (plain_write by s v (Apr g) x)
  unfolding plain_write
  stores-apr by v g x l = stores-active-priorities v (group_index g) (x % 2 ^ 32) l (group_below g) (omega arith)

  pub stores-igrpen : (by : By) (v : ℕ) (g : InterruptGroup) (x : ℕ) → v < vcpus s → Leaves s (igrpen_at v (group_index g)) (plain_write by s v (Igrpen g) x)
  unfolding plain_write
  stores-igrpen by v g x l =
      let m = group_below g in
      stores-grouped v (igrpen_field 0) 1 (group_index g) _ l m (unfold all_below bit in refl) (omega arith) (omega arith) (omega arith)

  stores-level : (t : Bool) (v g level : ℕ) → v < vcpus s → g < 2 → Leaves s (apr_at v g) (set_level t v g level s)
  unfolding set_level with_bit
  stores-level t v g level l m = stores-active-priorities v g _ l m (gather-lt 32 _)

  -- ---- the interrupts that are there for a vCPU

  below-present : (v id : ℕ) → v < vcpus s → id < min (count s) 1020 → Present s v id
  below-present v id l m = elim (dec_lt id 32) [ yes k ↦ own l k | no k ↦ shared (within-spi s id (omega arith) m) ]

  exists-present : (v id : ℕ) → v < vcpus s → exists s id ≡ true → Present s v id
  unfolding exists is_private
  exists-present v id l e = ⊎_elim (λ a. own l (ltb-true id 32 a)) (λ a. shared a) (either (is_private id) (is_spi s id) e)

module _ (s : List ℕ) (h : Ready s) (v : ℕ) (l : v < vcpus s) where
  -- ---- writing a plain register

  plain-sound : (by : By) (p : Plain) (x : ℕ) → Sound (plain_write by s v p x)
  plain-sound by Pmr x = leaves-sound s h (stores-pmr s h by v x l)
  plain-sound by (Bpr g) x = leaves-sound s h (stores-bpr s h by v g x l)
  plain-sound by (Apr g) x = leaves-sound s h (stores-apr s h by v g x l)
  plain-sound by Ctlr x = leaves-sound s h (stores-ctlr s h by v x l)
  plain-sound by Sre x = unfold plain_write in (ready-is-sound s h)
  plain-sound by (Igrpen g) x = leaves-sound s h (stores-igrpen s h by v g x l)

  -- ---- acknowledge: made active, its latch cleared, a bit set in APgR

  taken-sound : (g b : ℕ) → g < 2 → Present s v (rank_id b) → Sound (taken s v g b)
  unfolding taken
  taken-sound g b m q =
      let a = stores-no-line s h active_field true v (rank_id b) (omega arith) q in
      let r = leaves-ready s h a in
      let c = stores-no-line _ r latch_field false v (rank_id b) (omega arith) (leaves-present s h v (rank_id b) a q) in
      let n = leaves-ready _ r c in
      leaves-sound _ n (stores-level _ n true v g (level_of s v g b) (rw (leaves-number _ r c, leaves-number s h a) l) m)

  -- the best is nothing, or an interrupt that is there
  best-sound : (g : ℕ) → g < 2 → Sound (acknowledged s v g (best s v))
  unfolding acknowledged
  best-sound g m =
      ⊎_elim (λ e. rw e (ready-is-sound s h)) (λ f.
      let d : f.0 < id_span = omega (arith, f.1) in
      rw (f.3, lt-ltb (rank s v f.0) (256 * id_span) (rank_below s v f.0 d)) (taken-sound g _ m (rw (rank-id s v f.0 d) (below-present s h v f.0 l f.1))))
      (best-found s v)

  offered-sound : (g : ℕ) → g < 2 → Sound (acknowledged s v g (offered s v g))
  unfolding offered acknowledged
  offered-sound g m = step (gives s v g (best s v))
    where
      step : (t : Bool) → Sound (acknowledged s v g (cond t (best s v) nothing))
      step true = best-sound g m
      step false = ready-is-sound s h

  -- ---- end of interrupt, deactivate

  dropped-sound : (g id level : ℕ) → g < 2 → exists s id ≡ true → Sound (dropped s v g id level)
  unfolding dropped
  dropped-sound g id level m e = step (eoi_mode s v)
    where
      lower : List ℕ
      lower = set_level false v g level s

      a : Leaves s (apr_at v g) lower
      a = stores-level s h false v g level l m

      step : (mode : Bool) → Sound (cond mode lower (set_flag active_field false v id lower))
      step true = leaves-sound s h a
      step false =
          let r = leaves-ready s h a in
          leaves-sound _ r (stores-no-line _ r active_field false v id (omega arith) (leaves-present s h v id a (exists-present s h v id l e)))

  ended-sound : (g id : ℕ) → g < 2 → Sound (ended s v g id)
  unfolding ended
  ended-sound g id m = step (exists s id && bit (word s (apr_at v g)) (running_level s v)) refl
    where
      step : (t : Bool) → (exists s id && bit (word s (apr_at v g)) (running_level s v)) ≡ t → Sound (cond t (dropped s v g id (running_level s v)) s)
      step true e = dropped-sound g id (running_level s v) m (both (exists s id) _ e).0
      step false e = ready-is-sound s h

  deactivated-sound : (id : ℕ) → Sound (deactivated s v id)
  unfolding deactivated
  deactivated-sound id = step (eoi_mode s v && exists s id) refl
    where
      step : (t : Bool) → (eoi_mode s v && exists s id) ≡ t → Sound (cond t (set_flag active_field false v id s) s)
      step true e = leaves-sound s h (stores-no-line s h active_field false v id (omega arith) (exists-present s h v id l (both (eoi_mode s v) (exists s id) e).1))
      step false e = ready-is-sound s h

  -- ---- SGIs: latched for one vCPU after the other

  sent-ready : (only0 : Bool) (x n : ℕ) → n ≤ vcpus s → Ready (sgi_sent n only0 v x s) × ((u : ℕ) → u < vcpus s → Present (sgi_sent n only0 v x s) u (sgi_id x))
  unfolding sgi_sent
  sent-ready only0 x zero k = (h, λ u m. own m (omega arith))
  sent-ready only0 x (suc n) k =
      let a = sent-ready only0 x n (omega arith) in
      let b = latched _ a.0 (reaches only0 s v x n) n (sgi_id x) (a.1 n k) in
      (b.0, λ u m. b.1 u (sgi_id x) (a.1 u m))

  sent-sound : (only0 : Bool) (x : ℕ) → Sound (sgi_sent (vcpus s) only0 v x s)
  sent-sound only0 x = ready-is-sound _ (sent-ready only0 x (vcpus s) (omega arith)).0

  -- ---- reading and writing any register

  readable-sound : (r : Readable) → Sound (system_read_next s v r)
  unfolding system_read_next
  readable-sound (Iar g) = offered-sound (group_index g) (group_below g)
  readable-sound (Hppir g) = ready-is-sound s h
  readable-sound Rpr = ready-is-sound s h

  writable-sound : (w : Writable) (x : ℕ) → Sound (system_write s v w x)
  unfolding system_write
  writable-sound (Eoir g) x = ended-sound (group_index g) (id_of x) (group_below g)
  writable-sound Dir x = deactivated-sound (id_of x)
  writable-sound Sgi1r x = sent-sound false x
  writable-sound Sgi0r x = sent-sound true x

  pub read-state-sound : (r : SystemRegister) → Sound (system_read_state r v s)
  unfolding system_read_state
  read-state-sound (Both p) = ready-is-sound s h
  read-state-sound (Read r) = readable-sound r
  read-state-sound (Write w) = ready-is-sound s h
  read-state-sound Unnamed = ready-is-sound s h

  pub write-state-sound : (r : SystemRegister) (x : ℕ) → Sound (system_write_state r v x s)
  unfolding system_write_state
  write-state-sound (Both p) x = plain-sound Guest p x
  write-state-sound (Read r) x = ready-is-sound s h
  write-state-sound (Write w) x = writable-sound w x
  write-state-sound Unnamed x = ready-is-sound s h

  -- ---- a set of group 6

  pub system-item-sound : (r : SystemRegister) (x : ℕ) → Sound (item_write s (system_item (Frame v) r) x)
  unfolding system_item item_write seen_by
  system-item-sound (Both p) x = plain-sound Attribute p x
  system-item-sound (Read r) x = ready-is-sound s h
  system-item-sound (Write w) x = ready-is-sound s h
  system-item-sound Unnamed x = ready-is-sound s h
