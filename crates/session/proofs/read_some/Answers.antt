-- Where nothing was read, the words and the line begun are as they were; or a block was read, and its answers written.
use Rattle.std.proofs.Common.{arith}
use Rattle.std.proofs.lemmas.Grind.{common_steps}
use Rattle.session.proofs.Inputs.{read_none, answered_block, answered_end}
use Rattle.session.proofs.read_some.Goals as goal

pub returns-in_err-n-clause-read_on : goal.returns-in_err-n-clause-read_on
returns-in_err-n-clause-read_on g c = read_none _ _

pub returns-then-n-eq0-clause-read_on : goal.returns-then-n-eq0-clause-read_on
returns-then-n-eq0-clause-read_on g c = read_none _ _

pub returns-then-n-eq0-clause-answered : goal.returns-then-n-eq0-clause-answered
returns-then-n-eq0-clause-answered g c = answered_end _ _ _ _ _ _ _ c.if-n-eq0.true c.in_ok-n.ensures.bytes.0

pub returns-clause-answered : goal.returns-clause-answered
returns-clause-answered g c =
    answered_block _ _ _ _ _ _ _ _ _ _ _ _ _ _ _ c.run_block-progress.ensures.printed_after c.in_ok-n.ensures.bytes.0 (grind (arith, common_steps))
    c.in_ok-write_all.ensures.bytes (grind (arith, common_steps))
