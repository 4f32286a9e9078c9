-- What a read or a write of a system register answers and leaves.
use Rattle.std.specs.Prelude.{ℕ, List}
use Rattle.model.specs.Refusals.{Answer, first_failing}
use Rattle.model.specs.Calls.{read_checks, write_checks, system_value, system_read_state, system_write_state}
use Rattle.model.specs.declared.SystemRegister.{SystemRegister}
use Rattle.priority.specs.Settled.{Settled}

-- by the tests that come after those of every guest's access
abbrev pub Reads : SystemRegister → ℕ → List ℕ → Answer → List ℕ → Type 0
Reads r v s = Settled (first_failing (read_checks r v s)) (system_value r v s) (system_read_state r v s) s

abbrev pub Writes : SystemRegister → ℕ → ℕ → List ℕ → Answer → List ℕ → Type 0
Writes r v x s = Settled (first_failing (write_checks r)) 0 (system_write_state r v x s) s
