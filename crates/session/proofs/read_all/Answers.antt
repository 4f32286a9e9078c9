-- What was read before a turn, and what it reads.
use Rattle.std.proofs.Common.{arith, rules}
use Rattle.session.proofs.Inputs.{read_more, answered_none, answered_more, loses_none, loses_more, goes_on}
use Rattle.session.proofs.read_all.Goals as goal

pub loop-init : goal.loop-init
loop-init g c = record { kept_bound = omega arith; answered = answered_none _ _ _ _; loses = loses_none _ }

pub returns-in_err-read_some-clause-read_on : goal.returns-in_err-read_some-clause-read_on
returns-in_err-read_some-clause-read_on g c = read_more _ _ _ _ _ _ c.loop.invariant.answered.read_on c.in_err-read_some.ensures.read_on

pub loop-preserved : goal.loop-preserved
loop-preserved g c =
    record {
      kept_bound = omega arith;
      answered = answered_more _ _ _ _ _ _ _ _ _ _ _ _ c.loop.invariant.answered c.in_ok-read_some.ensures.answered;
      loses = loses_more _ _ _ _ _ c.loop.invariant.answered.taken c.loop.invariant.loses (goes_on _ _ _ (search rules) c.in_ok-read_some.ensures.turns);
    }

pub returns-then-not-branch-clause-read_on : goal.returns-then-not-branch-clause-read_on
returns-then-not-branch-clause-read_on g c = read_more _ _ _ _ _ _ c.loop.invariant.answered.read_on c.in_ok-read_some.ensures.read_on

pub returns-then-not-branch-clause-answered : goal.returns-then-not-branch-clause-answered
returns-then-not-branch-clause-answered g c = answered_more _ _ _ _ _ _ _ _ _ _ _ _ c.loop.invariant.answered c.in_ok-read_some.ensures.answered
