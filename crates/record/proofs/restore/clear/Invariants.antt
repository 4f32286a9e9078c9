-- `record::restore::clear` meets its contract.
use Rattle.record.specs.Table.{parts}
use Rattle.record.specs.Walked.{Clears}
use Rattle.record.proofs.restore.clear.Given as goal

abbrev pub invariant-loop-k : goal.invariant-loop-k
invariant-loop-k l = Clears (parts l.shape.count l.shape.vcpus) 0 l.k l.initial.s l.s
