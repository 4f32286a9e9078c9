-- `record::number::read_on` meets its contract: what is left to read, after the groups up to i, gives the number that was to be read.
use Rattle.record.proofs.Groups.{Rest}
use Rattle.record.proofs.number.read_on.Given as goal

abbrev pub invariant-loop-i : goal.invariant-loop-i
invariant-loop-i l = Rest l.src l.initial.begun l.fn.from.at l.begun l.i
