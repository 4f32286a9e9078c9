-- What the functions that read the CPU interface ask of a state and a vCPU.
use Rattle.std.specs.Prelude.{ℕ, ◌%◌, ◌≤◌, ◌<◌, ◌≡◌, List, length}
use Rattle.model.specs.Values.{icc_ctlr_bits, bpr_bits}
use Rattle.model.specs.Layout.{state_length, most_vcpus, word, count, ctlr_at, bpr_at}

-- a sound, initialised device has all of it at each of its vCPUs
pub record Usable (s : List ℕ) (v : ℕ) : Type 0 where
  pub size : length s ≡ state_length
  pub index : v < most_vcpus
  pub most : count s ≤ 1024
  pub step : count s % 32 ≡ 0
  pub mode : word s (ctlr_at v) ≤ icc_ctlr_bits
  pub point0 : word s (bpr_at v 0) ≤ bpr_bits
  pub point1 : word s (bpr_at v 1) ≤ bpr_bits
