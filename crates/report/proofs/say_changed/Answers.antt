-- Nothing was printed, then each word, then all.
use Rattle.std.proofs.Common.{rules}
use Rattle.report.proofs.Fields.{printing-none, printing-more, printing-done}
use Rattle.report.proofs.say_changed.Goals as goal

pub loop-at-init : goal.loop-at-init
loop-at-init g c = printing-none _ _ _ _ _ _ (search rules) (search rules) (search rules)

pub loop-at-preserved : goal.loop-at-preserved
loop-at-preserved g c =
    printing-more _ _ _ _ _ _ _ _ _ _ _ _ _ c.loop-at.invariant c.in-Some.ensures.steps.0.0 c.in-Some.ensures.steps.0.1 c.in-Some.ensures.steps.1 c.in-Some.ensures.steps.2
    c.in_ok-say_word.ensures

pub returns : goal.returns
returns g c = printing-done _ _ _ _ _ _ c.loop-at.invariant (search rules)
