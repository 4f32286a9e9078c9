-- `state::checks::in_phase` meets its contract.
use Rattle.state.proofs.Admitted.{phase-set_up, phase-stopped}
use Rattle.state.proofs.checks.in_phase.Goals as goal

pub returns-in-Initialised : goal.returns-in-Initialised
returns-in-Initialised c = phase-set_up _ _ c.in-Initialised.is

pub returns-in-Stopped : goal.returns-in-Stopped
returns-in-Stopped c = search phase-stopped
