-- Every call keeps a sound state sound, and so does every list of calls.
use Prim.Native.Nat.{ℕ}
use mathlib.Core.Path.{◌≡◌, ◌∙◌}
use mathlib.Core.Bool.{true}
use mathlib.Core.List.{List, [], ◌∷◌}
use borrow.Author.Tests.{eqb-true, eq-eqb, ltb-true, not-true}
use lib.Dec.{eqb}
use lib.ListN.{length}
use Rattle.model.specs.Layout.{state_length, initialised, count, vcpus}
use Rattle.model.specs.Sound.{sound}
use Rattle.model.specs.Registers.{seen_by}
use Rattle.model.specs.Interface.{system}
use Rattle.model.specs.Attributes.{high, low, index_of, group_of, number_ok, affinity_known, item, item_write}
use Rattle.model.specs.Calls.{Call, make, add_vcpu, set_running, change_line, query_signal, read_distributor, write_distributor, read_frame, write_frame, read_system, write_system, get_attribute, set_attribute, save, restore, guest_checks, frame_checks, register_checks, set_checks, checks, set_state, next_core, call, after, describe, in_phase, read_phase}
use Rattle.model.specs.declared.Phase.{Phase}
use Rattle.model.specs.declared.Phase.TheVariants.{Initialised, Changing}
use Rattle.model.specs.declared.View.TheVariants as view
use Rattle.model.specs.declared.RegisterGroup.{RegisterGroup}
use Rattle.model.specs.declared.RegisterGroup.TheVariants.{Distributor, Redistributor, Interface, Lines}
use Rattle.model.specs.declared.AttributeGroup.{AttributeGroup}
use Rattle.model.specs.declared.AttributeGroup.TheVariants.{Registers, Count, Initialise, Unknown}
use Rattle.model.proofs.Tests.{both}
use Rattle.model.proofs.Soundness.{Sound, open-sound, Ready, ready, stopped-mark}
use Rattle.model.proofs.Fresh.{made-sound}
use Rattle.model.proofs.Refused.{Passed, tests-next, none_of, is-granted}
use Rattle.model.proofs.Writes.{line-sound}
use Rattle.model.proofs.Kept.{in-phase, not-marked, counted-sound, added-sound, running-sound, initialise-sound, make-sound, kept}
use Rattle.model.proofs.Mapped.{guest-write-sound, mapped-sound, lines-sound}
use Rattle.model.proofs.System.{read-state-sound, write-state-sound, system-item-sound}
use Rattle.model.proofs.Loaded.{loaded-sound}

-- ---- a set whose tests pass

-- groups 1, 5, 6, 7
item-sound : (s : List ℕ) → Ready s → (q : RegisterGroup) (a x : ℕ) → number_ok q a ≡ true → affinity_known q a s ≡ true → Sound (item_write s (item q a s) x)
unfolding affinity_known item seen_by
item-sound s h Distributor a x n k = mapped-sound s h view.Distributor (low a) x h.some
item-sound s h Redistributor a x n k = mapped-sound s h (view.Frame (index_of s (high a))) (low a) x (ltb-true (index_of s (high a)) (vcpus s) k)
item-sound s h Interface a x n k = system-item-sound s h (index_of s (high a)) (ltb-true (index_of s (high a)) (vcpus s) k) (system (low a)) x
item-sound s h Lines a x n k = lines-sound s h a x n k

set-sound : (g : AttributeGroup) (a x : ℕ) (s : List ℕ) → sound s ≡ true → Passed (set_checks g a x s) → Sound (set_state g a x s)
unfolding set_checks register_checks set_state
set-sound (Registers q) a x s h p = item-sound s (ready s h (stopped-mark s p.1.1.0)) q a x p.0 p.1.0
set-sound Count a x s h p =
    let o = open-sound s h in
    counted-sound s x o (not-marked s o (not-true _ (both (eqb (count s) 0) _ p.1.0).1)) p.0
set-sound Initialise a x s h p = initialise-sound s h p.1.0
set-sound Unknown a x s h p = open-sound s h

-- ---- any call whose tests pass

-- in every phase that a call may ask for the device is initialised
phase-mark : (p : Phase) (s : List ℕ) → in_phase p s ≡ true → initialised s ≡ 1
phase-mark p s e = eqb-true _ _ (in-phase p s e)

core-kept : (c : Call) (s : List ℕ) → sound s ≡ true → Passed (checks c s) → Sound (next_core c s)
unfolding describe guest_checks frame_checks seen_by
core-kept make s h p = made-sound
core-kept (add_vcpu a) s h p =
    let o = open-sound s h in
    added-sound s a o (record { start = not-marked s o (not-true _ p.0); valid = p.1.0; new = p.1.1.0; room = ltb-true _ _ p.1.1.1.0 })
core-kept (set_running v on) s h p = running-sound s v on (open-sound s h) (phase-mark Initialised s p.0) (ltb-true _ _ p.1.0)
core-kept (change_line v id level) s h p = line-sound s (ready s h (phase-mark Changing s p.0)) v id level p.1.0
core-kept (query_signal v) s h p = open-sound s h
core-kept (read_distributor v off size) s h p = open-sound s h
core-kept (write_distributor v off size x) s h p = let r = ready s h (phase-mark Changing s p.0) in guest-write-sound s r view.Distributor off size x r.some
core-kept (read_frame v f off size) s h p = open-sound s h
core-kept (write_frame v f off size x) s h p =
    guest-write-sound s (ready s h (phase-mark Changing s p.0)) (view.Frame f) off size x (ltb-true f (vcpus s) p.1.1.0)
core-kept (read_system v e) s h p = read-state-sound s (ready s h (phase-mark (read_phase (system e)) s p.0)) v (ltb-true v (vcpus s) p.1.0) (system e)
core-kept (write_system v e x) s h p = write-state-sound s (ready s h (phase-mark Changing s p.0)) v (ltb-true v (vcpus s) p.1.0) (system e) x
core-kept (get_attribute g a) s h p = open-sound s h
core-kept (set_attribute g a x) s h p = set-sound (group_of g) a x s h p
core-kept (save buf) s h p = open-sound s h
core-kept (restore bytes) s h p = loaded-sound s (record { is_sound = h; is_stopped = p.0 }) bytes

-- ---- the theorem

pub sound-kept : (c : Call) (s : List ℕ) → sound s ≡ true → sound (call c s).state ≡ true
sound-kept c s h = kept c s h (core-kept c s h)

pub sound-after : (cs : List Call) (s : List ℕ) → sound s ≡ true → sound (after cs s) ≡ true
unfolding after
sound-after [] s h = h
sound-after (c ∷ cs) s h = sound-after cs (call c s).state (sound-kept c s h)

-- a device that was made, in words of any content, is sound after any calls
pub made_after : (cs : List Call) (s : List ℕ) → length s ≡ state_length → sound (after (make ∷ cs) s) ≡ true
unfolding describe after
made_after cs s l =
    sound-after cs (call make s).state (make-sound s (is-granted make s (tests-next make s (eq-eqb (length s) state_length l) ∙ none_of (checks make s) tt)))
