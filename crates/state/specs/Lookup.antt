-- Lookup of the vCPU that has an affinity.
use Rattle.std.specs.Prelude.{ℕ, cond, List, Option, Some, None, eqb, ltb}
use Rattle.model.specs.Words.{lowest}
use Rattle.model.specs.Layout.{affinity, vcpus}
use Rattle.state.specs.declared.lookup.VcpuIndex.{VcpuIndex}

-- the first of n vCPUs that has the affinity a, if one has it
unfoldable pub first_with : List ℕ → ℕ → ℕ → Option VcpuIndex
first_with s a n = let v = lowest (λ u. eqb (affinity s u) a) n 0 in cond (ltb v n) (Some (record { 0 = v })) None

-- the vCPU of the state that has it
abbrev pub found : List ℕ → ℕ → Option VcpuIndex
found s a = first_with s a (vcpus s)
