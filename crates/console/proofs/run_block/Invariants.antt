-- What is left of the block, read from here, gives what the whole block gives; each byte prints at most 24.
use Rattle.std.proofs.Common.{◌≡◌, ◌*◌, ◌≤◌, length, drop}
use Rattle.console.specs.Sessions.{session_at, block_read}
use Rattle.console.proofs.run_block.Given as goal

abbrev pub invariant-loop-b : goal.invariant-loop-b
invariant-loop-b l = record {
  within : l.b-index ≤ length l.block;
  kept_bound : l.kept ≤ 81;
  bound : l.at ≤ 24 * l.b-index;
  left : block_read (session_at l.state l.line l.kept l.out l.at) (drop l.b-index l.block) ≡ block_read (session_at l.initial.state l.initial.line l.n l.initial.out 0) l.block;
}
