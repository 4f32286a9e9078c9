-- A block is read a byte at a time.
use Rattle.std.proofs.Common.{ℕ, ◌≡◌, ◌+◌, ◌<◌, ◌≤◌, List, length, get_or, drop, drop-cons, add-one}
use lib.ListN.{drop_of_length-le}
use Rattle.console.specs.Sessions.{Session, byte_read, block_read}

pub next_byte : (t : Session) (block : List ℕ) (i : ℕ) → i < length block → block_read t (drop i block) ≡ block_read (byte_read t (get_or block i 0)) (drop (i + 1) block)
unfolding block_read
next_byte t block i h = rw (add-one i, drop-cons block i 0 h)

pub no_byte : (t : Session) (block : List ℕ) (i : ℕ) → length block ≤ i → block_read t (drop i block) ≡ t
unfolding block_read
no_byte t block i h = rw (drop_of_length-le block h)

pub ruleset each_byte = (next_byte, no_byte)
