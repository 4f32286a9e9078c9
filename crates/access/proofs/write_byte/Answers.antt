-- `access::write_byte` meets its contract.
use Rattle.registers.proofs.Requests.{asked}
use Rattle.access.proofs.Accesses.{byte_put}
use Rattle.access.proofs.write_byte.Goals as goal

pub write_priority-requires : goal.write_priority-requires
write_priority-requires c = search asked

pub returns : goal.returns
returns c = search byte_put
