-- Before each turn some bytes were read and their answers written, at least one for each turn, and at most 81 of a line begun are kept.
use Rattle.std.proofs.Common.{◌≤◌, take}
use Rattle.session.specs.Inputs.{begins, Answered, Loses}
use Rattle.session.proofs.read_all.Given as goal

abbrev pub invariant-loop : goal.invariant-loop
invariant-loop g l = record {
  kept_bound : l.kept ≤ 81;
  answered : Answered (begins l.initial.state (take l.initial.kept l.initial.line)) (g.R.Read.remaining l.initial.from) (g.R.Read.remaining l.from) (g.W.Write.contents l.initial.to) (g.W.Write.contents l.to) l.state (take l.kept l.line);
  loses : Loses (g.R.Read.remaining l.initial.from) (g.R.Read.remaining l.from) l.counter;
}
