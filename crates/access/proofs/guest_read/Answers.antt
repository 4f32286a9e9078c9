-- `access::guest_read` meets its contract.
use Rattle.access.proofs.Accesses.{listed-word, reads-unlisted, reads_whole, reads_byte, reads-less}
use Rattle.access.proofs.guest_read.Goals as goal

pub returns-in_default : goal.returns-in_default
returns-in_default c = search reads-unlisted

pub read_word-requires : goal.read_word-requires
read_word-requires c = search listed-word

pub returns-then-size-offset : goal.returns-then-size-offset
returns-then-size-offset c = search reads_whole

pub read_word-requires-then-size-by_byte : goal.read_word-requires-then-size-by_byte
read_word-requires-then-size-by_byte c = search listed-word

pub returns-then-size-by_byte : goal.returns-then-size-by_byte
returns-then-size-by_byte c = search reads_byte

pub returns : goal.returns
returns c = search reads-less
