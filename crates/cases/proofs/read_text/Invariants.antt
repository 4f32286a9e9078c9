-- No more is read than there is room for.
use Rattle.std.proofs.Common.{◌≤◌}
use Rattle.cases.proofs.read_text.Given as goal

abbrev pub invariant-loop : goal.invariant-loop
invariant-loop g l = l.done ≤ 1048576
