-- What a plain register gives to a read, and what it keeps of a write.
use Prim.Native.Nat.{ℕ, ◌+◌, ◌%◌, ◌^◌, ◌≤◌}
use mathlib.Core.Path.{◌≡◌, ap, ◌∙◌}
use mathlib.Core.Bool.{Bool, ◌&&◌}
use mathlib.Core.List.{List}
use native.Mathlib.Omega.{arith}
use mir.Syntax.{w32}
use mir.Val.{Fits}
use Rattle.model.specs.Values.{icc_ctlr_fixed, icc_ctlr_bits}
use Rattle.model.specs.Words.{bit, masked}
use Rattle.model.specs.Layout.{word, block, ctlr_field, ctlr_at}
use Rattle.model.proofs.Bits.{gather-same, bit-mod}

-- CTLR's bits leave room for its fixed ones
pub mode-fits : (s : List ℕ) (v at : ℕ) → at ≡ block v → word s (ctlr_at v) ≤ icc_ctlr_bits → Fits w32 (icc_ctlr_fixed + word s (at + ctlr_field))
mode-fits s v at e l = rw e (record { fits = omega arith })

-- a mask of 32 bits looks at the low 32 bits
pub masked_low : (m x r : ℕ) → r ≡ masked m (x % 2 ^ 32) → r ≡ masked m x
unfolding masked
masked_low m x r e = e ∙ gather-same 32 _ _ (λ i l. ap (λ (y : Bool). bit m i && y) (bit-mod 32 x i l))
