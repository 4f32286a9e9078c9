-- Before each turn the fields of the words so far were printed.
use Rattle.report.specs.Printed.{changed_fields}
use Rattle.report.proofs.Fields.{Printing}
use Rattle.std.specs.Slice.Iter.{iter_rest}
use Rattle.std.specs.Iterator.Adapters.{zip_first, zip_second}
use Rattle.report.proofs.say_changed.Given as goal

abbrev pub invariant-loop-at : goal.invariant-loop-at
invariant-loop-at g l =
    Printing (changed_fields 0 l.s l.before) (g.W.Write.contents l.initial.out) (g.W.Write.contents l.out) l.at-iterator.count (iter_rest (zip_first l.at-iterator.iter)) (iter_rest (zip_second l.at-iterator.iter))
