-- What a guest's access reads and writes, by its size and by what its offset decodes to.
use Rattle.std.specs.Prelude.{Some, None, Ok, Err}
use Prim.Native.Nat.{ℕ, ◌*◌, ◌%◌, ◌/◌, ◌^◌, ◌≤◌, ◌<◌}
use mathlib.Core.Path.{◌≡◌, refl, sym, ◌∙◌}
use mathlib.Core.Bool.{Bool, true, false, cond, ◌&&◌, true≢false}
use mathlib.Core.List.{List, [], ◌∷◌}
use native.Mathlib.Omega.{arith}
use borrow.Author.Tests.{ltb-true}
use lib.Dec.{eqb}
use mir.Syntax.{w64}
use mir.Val.{Fits}
use Rattle.model.specs.Layout.{most_vcpus, vcpus, running}
use Rattle.model.specs.Sound.{sound}
use Rattle.model.specs.Refusals.{Refusal, first_failing}
use Rattle.model.specs.Calls.{is_vcpu, vcpu_checks, guest_checks, frame_checks}
use Rattle.model.specs.declared.Phase.{Phase}
use Rattle.model.specs.Registers.{Decoded, decode, rows, banks, words_of, seen_by, read, write, write_priority, Access, whole, one, none, access, by_byte, read_access, write_access, guest_read, guest_write}
use Rattle.model.specs.declared.Errno.{Errno}
use Rattle.model.specs.declared.Errno.TheVariants.{Eperm, Efault, Einval}
use Rattle.model.specs.declared.By.TheVariants.{Guest}
use Rattle.model.specs.declared.View.{View}
use Rattle.model.specs.declared.View.TheVariants.{Frame}
use Rattle.model.specs.declared.Register.{Register}
use Rattle.model.specs.declared.Register.TheVariants.{Fixed, Control, Typer, Iidr, Status, Bits, Priority, Config, Route, FrameTyper, FrameAffinity}
use Rattle.model.proofs.Tests.{both}
use Rattle.model.proofs.Refused.{none_then, fails-then, twice, after}
use Rattle.model.proofs.Decode.{decode-words}
use Rattle.model.proofs.Soundness.{sound-vcpus}
use Rattle.state.proofs.Admitted.{admitted}
use Rattle.registers.specs.Words.{names}
use Rattle.registers.specs.declared.priorities.Bytes.TheVariants.{One}

-- ---- IPRIORITYR alone takes one byte

pub by_word : (r : Register) → (r ≡ Priority → ⊥) → false ≡ by_byte r
unfolding by_byte
by_word (Fixed c) h = refl
by_word Control h = refl
by_word Typer h = refl
by_word Iidr h = refl
by_word Status h = refl
by_word (Bits f) h = refl
by_word Priority h = absurd (h refl)
by_word Config h = refl
by_word Route h = refl
by_word FrameTyper h = refl
by_word FrameAffinity h = refl

is-priority : (x : View) (r : Register) (k : ℕ) → by_byte r ≡ true → k < words_of x r → k < 8 * banks x
unfolding by_byte words_of
is-priority x Priority k t l = l
is-priority x (Fixed c) k t l = absurd (true≢false (sym t))
is-priority x Control k t l = absurd (true≢false (sym t))
is-priority x Typer k t l = absurd (true≢false (sym t))
is-priority x Iidr k t l = absurd (true≢false (sym t))
is-priority x Status k t l = absurd (true≢false (sym t))
is-priority x (Bits f) k t l = absurd (true≢false (sym t))
is-priority x Config k t l = absurd (true≢false (sym t))
is-priority x Route k t l = absurd (true≢false (sym t))
is-priority x FrameTyper k t l = absurd (true≢false (sym t))
is-priority x FrameAffinity k t l = absurd (true≢false (sym t))

-- ---- the size

module _ (off size : ℕ) where
  access-whole : (eqb size 4 && eqb (off % 4) 0) ≡ true → access off size ≡ whole
  unfolding access
  access-whole t = rw t

  -- not the whole word
  access-less : (eqb size 4 && eqb (off % 4) 0) ≡ false → access off size ≡ cond (eqb size 1) one none
  unfolding access
  access-less n = rw n

-- ---- an offset of a view, and what it decodes to

module _ (s : List ℕ) (x : View) (off size : ℕ) (d : Decoded) (e : d ≡ decode (rows x) off) where
  pub reads-unlisted : d ≡ None → 0 ≡ guest_read s x off size
  unfolding guest_read
  reads-unlisted h = rw (← e, h) (nothing (access off size))
    where
      nothing : (a : Access) → 0 ≡ read_access a s x None (off % 4)
      nothing whole = unfold read_access in refl
      nothing one = unfold read_access in refl
      nothing none = unfold read_access in refl

  pub writes-unlisted : (value : ℕ) → d ≡ None → s ≡ guest_write s x off size value
  unfolding guest_write
  writes-unlisted value h = rw (← e, h) (nothing (access off size))
    where
      nothing : (a : Access) → s ≡ write_access a s x None (off % 4) value
      nothing whole = unfold write_access in refl
      nothing one = unfold write_access in refl
      nothing none = unfold write_access in refl

  module _ (r : Register) (k : ℕ) (h : d ≡ Some (r, k)) where
    pub listed-word : k < words_of x r
    listed-word = decode-words x off r k (sym e ∙ h)

    -- the whole word
    pub reads_whole : (w : ℕ) → (eqb size 4 && eqb (off % 4) 0) ≡ true → w ≡ read Guest s x r k → w ≡ guest_read s x off size
    unfolding guest_read read_access
    reads_whole w t q = rw (← e, h, access-whole off size t) q

    pub writes-whole : (value : ℕ) (t : List ℕ) → (eqb size 4 && eqb (off % 4) 0) ≡ true → t ≡ write Guest s x r k (value % 2 ^ 32) → t ≡ guest_write s x off size value
    unfolding guest_write write_access
    writes-whole value t u q = rw (← e, h, access-whole off size u) q

    -- less, where b tells whether the register takes one byte
    module _ (b : Bool) (g : b ≡ by_byte r) (n : (eqb size 4 && eqb (off % 4) 0) ≡ false) where
      pub byte_word : (eqb size 1 && b) ≡ true → k < 8 * banks x
      byte_word t = is-priority x r k (sym g ∙ (both (eqb size 1) b t).1) listed-word

      pub reads_byte : (w v : ℕ) → (eqb size 1 && b) ≡ true → w ≡ read Guest s x r k → v ≡ w / 2 ^ (8 * (off % 4)) % 256 → v ≡ guest_read s x off size
      unfolding guest_read read_access
      reads_byte w v t q p =
          let y = both (eqb size 1) b t in
          rw (← e, h, access-less off size n, y.0, ← g, y.1) (p ∙ rw q)

      pub writes_byte : (value : ℕ) (t : List ℕ) → (eqb size 1 && b) ≡ true → t ≡ write_priority s x (λ i. eqb i (off % 4)) k (value % 256 * 2 ^ (8 * (off % 4))) → t ≡ guest_write s x off size value
      unfolding guest_write write_access
      writes_byte value t u q =
          let y = both (eqb size 1) b u in
          rw (← e, h, access-less off size n, y.0, ← g, y.1) q

      pub reads-less : (eqb size 1 && b) ≡ false → 0 ≡ guest_read s x off size
      unfolding guest_read
      reads-less t = rw (← e, h, access-less off size n) (nothing (eqb size 1) t)
        where
          nothing : (u : Bool) → (u && b) ≡ false → 0 ≡ read_access (cond u one none) s x (Some (r, k)) (off % 4)
          nothing true f = unfold read_access in (rw (← g, f))
          nothing false f = unfold read_access in refl

      pub writes-less : (value : ℕ) → (eqb size 1 && b) ≡ false → s ≡ guest_write s x off size value
      unfolding guest_write
      writes-less value t = rw (← e, h, access-less off size n) (nothing (eqb size 1) t)
        where
          nothing : (u : Bool) → (u && b) ≡ false → s ≡ write_access (cond u one none) s x (Some (r, k)) (off % 4) value
          nothing true f = unfold write_access in (rw (← g, f))
          nothing false f = unfold write_access in refl

-- ---- one byte of IPRIORITYR

pub byte_put : (s t : List ℕ) (x : View) (k byte value w : ℕ) → t ≡ write_priority s x (names (One byte)) k w → w ≡ value % 256 % 256 * 2 ^ (8 * byte)
    → t ≡ write_priority s x (λ i. eqb i byte) k (value % 256 * 2 ^ (8 * byte))
unfolding names
byte_put s t x k byte value w e q = let r : value % 256 % 256 ≡ value % 256 = omega arith in rw (← r, ← q) e

-- ---- the frame that a call names

-- the tests of a call that names a vCPU come first
module _ (s : List ℕ) (a : Phase) (v f : ℕ) (q : Refusal) (p : q ≡ first_failing ((sound s, Efault) ∷ vcpu_checks a v s)) where
  pub front-frame : (e : Errno) → q ≡ Err e → Err e ≡ first_failing ((sound s, Efault) ∷ frame_checks a v f s)
  unfolding frame_checks
  front-frame e h = sym (fails-then ((sound s, Efault) ∷ vcpu_checks a v s) ((is_vcpu s f, Einval) ∷ (eqb (running s v) 1, Eperm) ∷ []) e (sym p ∙ h))

  pub rest-frame : (r : Refusal) → q ≡ Ok tt → r ≡ first_failing ((is_vcpu s f, Einval) ∷ (eqb (running s v) 1, Eperm) ∷ []) → r ≡ first_failing ((sound s, Efault) ∷ frame_checks a v f s)
  unfolding frame_checks
  rest-frame r n e = e ∙ sym (none_then ((sound s, Efault) ∷ vcpu_checks a v s) ((is_vcpu s f, Einval) ∷ (eqb (running s v) 1, Eperm) ∷ []) (sym p ∙ n))

-- where they hold
module _ (s : List ℕ) (a : Phase) (v : ℕ) (q : Refusal) (p : q ≡ first_failing ((sound s, Efault) ∷ vcpu_checks a v s)) (n : q ≡ Ok tt) where
  front-few : vcpus s ≤ most_vcpus
  front-few = sound-vcpus s (admitted s q (vcpu_checks a v s) p n).0

  -- an index below their number has a block
  pub front-index : (f : ℕ) → f < vcpus s → f < most_vcpus
  front-index f l = omega (arith, front-few)

  pub front_fits : Fits w64 (vcpus s)
  front_fits = record { fits = omega (arith, front-few) }

pub frame-inside : (s : List ℕ) (r : Refusal) (a : Phase) (v f : ℕ) (x : View) → r ≡ first_failing ((sound s, Efault) ∷ frame_checks a v f s) → r ≡ Ok tt → x ≡ Frame f → seen_by x < most_vcpus
unfolding frame_checks seen_by
frame-inside s r a v f x e n q =
    let p = admitted s r (frame_checks a v f s) e n in
    rw q (omega (arith, ltb-true f (vcpus s) p.1.1.1.0, sound-vcpus s p.0))

pub frame-read : (s : List ℕ) (x : View) (f off size w : ℕ) → w ≡ guest_read s x off size → x ≡ Frame f → w ≡ guest_read s (Frame f) off size
frame-read s x f off size w e q = rw (← q) e

pub frame-written : (s t : List ℕ) (x : View) (f off size value : ℕ) → t ≡ guest_write s x off size value → x ≡ Frame f → t ≡ guest_write s (Frame f) off size value
frame-written s t x f off size value e q = rw (← q) e

-- ---- an access to the distributor, tested as one to the vCPU's own frame

pub own-frame : (s : List ℕ) (a : Phase) (v : ℕ) (r : Refusal) → r ≡ first_failing ((sound s, Efault) ∷ frame_checks a v v s) → r ≡ first_failing ((sound s, Efault) ∷ guest_checks a v s)
unfolding frame_checks guest_checks
own-frame s a v r e = e ∙ after _ _ _ (after _ _ _ (twice (is_vcpu s v, Einval) ((eqb (running s v) 1, Eperm) ∷ [])))
