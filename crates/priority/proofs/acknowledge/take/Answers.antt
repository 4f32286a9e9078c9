-- `priority::acknowledge::take` meets its contract.
use Rattle.priority.proofs.acknowledge.take.Goals as goal

pub returns : goal.returns
returns c = cc
