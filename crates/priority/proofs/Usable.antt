-- A sound, initialised device gives what the functions ask, at each of its vCPUs.
use Prim.Native.Nat.{ℕ}
use mathlib.Core.Path.{◌≡◌}
use mathlib.Core.Bool.{true}
use mathlib.Core.List.{List}
use native.Mathlib.Omega.{arith}
use borrow.Author.Tests.{eqb-true, ltb-true}
use Rattle.model.specs.Values.{icc_ctlr_bits, bpr_bits}
use Rattle.model.specs.Layout.{word, initialised, is_initialised, vcpus, ctlr_at, bpr_at, ctlr_field, bpr_field}
use Rattle.model.specs.Sound.{sound}
use Rattle.model.specs.Calls.{is_vcpu}
use Rattle.model.proofs.Within.{fits_le}
use Rattle.model.proofs.Soundness.{ready}
use Rattle.model.proofs.Masks.{block-word}
use Rattle.priority.specs.Asked.{Usable}

pub usable : (s : List ℕ) (v : ℕ) → sound s ≡ true → is_initialised s ≡ true → is_vcpu s v ≡ true → Usable s v
usable s v e i l =
    let h = ready s e (eqb-true (initialised s) 1 i) in
    let m = ltb-true v (vcpus s) l in
    record {
      size = h.size;
      index = omega (arith, h.few);
      most = h.counted.most;
      step = h.counted.step;
      mode = fits_le (word s (ctlr_at v)) icc_ctlr_bits (block-word s h v ctlr_field m (omega arith));
      point0 = fits_le (word s (bpr_at v 0)) bpr_bits (block-word s h v (bpr_field 0) m (omega arith));
      point1 = fits_le (word s (bpr_at v 1)) bpr_bits (block-word s h v (bpr_field 1) m (omega arith));
    }
