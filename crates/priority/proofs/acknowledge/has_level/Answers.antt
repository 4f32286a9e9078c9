-- `priority::acknowledge::has_level` meets its contract.
use Rattle.priority.proofs.Offers.{no-level}
use Rattle.priority.proofs.acknowledge.has_level.Goals as goal

pub returns-then-level-eq32 : goal.returns-then-level-eq32
returns-then-level-eq32 c = search (no-level, c.fits-s)

pub returns : goal.returns
returns c = cc
