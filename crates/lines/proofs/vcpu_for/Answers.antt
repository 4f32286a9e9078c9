-- `lines::vcpu_for` meets its contract.
use Rattle.lines.proofs.Changes.{own-seen, any_seen}
use Rattle.lines.proofs.vcpu_for.Goals as goal

pub returns-then-id-lt32 : goal.returns-then-id-lt32
returns-then-id-lt32 c = search own-seen

pub returns-else-id-lt32 : goal.returns-else-id-lt32
returns-else-id-lt32 c = search any_seen
