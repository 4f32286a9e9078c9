-- `access::check_guest` meets its contract.
use Rattle.access.proofs.Accesses.{own-frame}
use Rattle.access.proofs.check_guest.Goals as goal

pub returns : goal.returns
returns c = search own-frame
