-- A guest's write to a memory-mapped register, and a set of groups 1, 5 and 7, leave a sound, initialised device sound.
use Rattle.std.specs.Prelude.{Some, None}
use Prim.Native.Nat.{ℕ, ◌/◌, ◌%◌, ◌^◌, ◌<◌}
use mathlib.Core.Path.{◌≡◌, refl}
use mathlib.Core.Bool.{Bool, true, false, cond}
use mathlib.Core.List.{List}
use native.Mathlib.Omega.{arith}
use borrow.Author.Tests.{eqb-true, ltb-true}
use lib.Dec.{eqb, ltb}
use Rattle.model.specs.Layout.{vcpus}
use Rattle.model.specs.Registers.{Decoded, Access, whole, one, none, access, by_byte, banks, words_of, decode, rows, seen_by, write_priority, write_access, guest_write}
use Rattle.model.specs.Attributes.{high, low, index_of, number_ok, affinity_known, mapped_item, mapped, item, item_write}
use Rattle.model.specs.declared.By.TheVariants as by
use Rattle.model.specs.declared.View.{View}
use Rattle.model.specs.declared.View.TheVariants as view
use Rattle.model.specs.declared.Flags.TheVariants as flags
use Rattle.model.specs.declared.Register.{Register}
use Rattle.model.specs.declared.Register.TheVariants.{Fixed, Control, Typer, Iidr, Status, Bits, Priority, Config, Route, FrameTyper, FrameAffinity}
use Rattle.model.specs.declared.RegisterGroup.TheVariants.{Lines}
use Rattle.model.specs.declared.Item.TheVariants as items
use Rattle.model.proofs.Tests.{both}
use Rattle.model.proofs.Soundness.{Sound, Ready, ready-is-sound}
use Rattle.model.proofs.Decode.{decode-words}
use Rattle.model.proofs.Writes.{bits-sound, priority-sound, write-sound}

module _ (s : List ℕ) (h : Ready s) where
  -- ---- a guest's write

  -- one byte: IPRIORITYR alone takes it
  byte-sound : (x : View) (r : Register) (meant : ℕ → Bool) (k value : ℕ) → seen_by x < vcpus s → k < words_of x r → Sound (cond (by_byte r) (write_priority s x meant k value) s)
  unfolding by_byte words_of
  byte-sound x (Fixed c) meant k value l m = ready-is-sound s h
  byte-sound x Control meant k value l m = ready-is-sound s h
  byte-sound x Typer meant k value l m = ready-is-sound s h
  byte-sound x Iidr meant k value l m = ready-is-sound s h
  byte-sound x Status meant k value l m = ready-is-sound s h
  byte-sound x (Bits f) meant k value l m = ready-is-sound s h
  byte-sound x Priority meant k value l m = priority-sound s h x meant k value l m
  byte-sound x Config meant k value l m = ready-is-sound s h
  byte-sound x Route meant k value l m = ready-is-sound s h
  byte-sound x FrameTyper meant k value l m = ready-is-sound s h
  byte-sound x FrameAffinity meant k value l m = ready-is-sound s h

  access-sound : (a : Access) (x : View) (off : ℕ) (d : Decoded) (j value : ℕ) → seen_by x < vcpus s → decode (rows x) off ≡ d → Sound (write_access a s x d j value)
  unfolding write_access
  access-sound none x off d j value l e = ready-is-sound s h
  access-sound whole x off None j value l e = ready-is-sound s h
  access-sound whole x off (Some (r, k)) j value l e = write-sound s h by.Guest x off r k (value % 2 ^ 32) l e
  access-sound one x off None j value l e = ready-is-sound s h
  access-sound one x off (Some (r, k)) j value l e = byte-sound x r _ k _ l (decode-words x off r k e)

  pub guest-write-sound : (x : View) (off size value : ℕ) → seen_by x < vcpus s → Sound (guest_write s x off size value)
  unfolding guest_write
  guest-write-sound x off size value l = access-sound (access off size) x off (decode (rows x) off) (off % 4) value l refl

  -- ---- a set of group 1, 5 or 7

  word_sound : (x : View) (off : ℕ) (d : Decoded) (value : ℕ) → seen_by x < vcpus s → decode (rows x) off ≡ d → Sound (item_write s (mapped_item x d) value)
  unfolding mapped_item item_write
  word_sound x off (Some (r, k)) value l e = write-sound s h by.Attribute x off r k value l e
  word_sound x off None value l e = ready-is-sound s h

  pub mapped-sound : (x : View) (off value : ℕ) → seen_by x < vcpus s → Sound (item_write s (mapped x off) value)
  unfolding mapped item_write
  mapped-sound x off value l = step (eqb (off % 4) 0)
    where
      step : (b : Bool) → Sound (item_write s (cond b (mapped_item x (decode (rows x) off)) None) value)
      step true = word_sound x off (decode (rows x) off) value l refl
      step false = ready-is-sound s h

  -- group 7: a frame's PPIs, or a word of SPIs
  pub lines-sound : (a value : ℕ) → number_ok Lines a ≡ true → affinity_known Lines a s ≡ true → Sound (item_write s (item Lines a s) value)
  unfolding number_ok affinity_known item item_write
  lines-sound a value n k =
      let few = eqb-true (low a / 1024) 0 (both (eqb (low a / 1024) 0) (eqb (low a % 1024 % 32) 0) n).0 in
      step (ltb (low a) 32) few k
    where
      step : (b : Bool) → low a / 1024 ≡ 0 → cond b (ltb (index_of s (high a)) (vcpus s)) true ≡ true
          → Sound (item_write s (cond b (Some (items.Mapped (view.Frame (index_of s (high a))) (Bits flags.Lines) 0)) (Some (items.Mapped view.Distributor (Bits flags.Lines) (low a / 32)))) value)
      step true few l = bits-sound s h by.Attribute (view.Frame (index_of s (high a))) flags.Lines 0 value (unfold seen_by in (ltb-true (index_of s (high a)) (vcpus s) l)) (unfold banks in (omega arith))
      step false few l = bits-sound s h by.Attribute view.Distributor flags.Lines (low a / 32) value (unfold seen_by in h.some) (unfold banks in (omega arith))
