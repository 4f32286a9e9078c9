-- `access::guest_write` meets its contract.
use Rattle.access.proofs.Accesses.{listed-word, byte_word, writes-unlisted, writes-whole, writes_byte, writes-less}
use borrow.Author.Rules.{rules}
use Rattle.access.proofs.guest_write.Goals as goal

pub returns-in_default : goal.returns-in_default
returns-in_default c = search writes-unlisted

pub write_word-requires : goal.write_word-requires
write_word-requires c = search listed-word

pub returns-then-size-offset : goal.returns-then-size-offset
returns-then-size-offset c = search writes-whole

pub write_byte-requires : goal.write_byte-requires
write_byte-requires c = search (byte_word, rules)

pub returns-then-size-by_byte : goal.returns-then-size-by_byte
returns-then-size-by_byte c = search writes_byte

pub returns-else-size-by_byte : goal.returns-else-size-by_byte
returns-else-size-by_byte c = search writes-less
