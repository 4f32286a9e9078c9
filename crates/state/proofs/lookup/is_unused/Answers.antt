-- `state::lookup::is_unused` meets its contract: the search finds no vCPU.
use Rattle.state.proofs.Lowest.{used_nowhere}
use Rattle.state.proofs.lookup.is_unused.Goals as goal

pub returns : goal.returns
returns c = used_nowhere _ _ _ _ _ c.first_with.ensures c.is_none.ensures
