-- One digit more.
use Rattle.std.proofs.Common.{rules}
use Rattle.console.proofs.Hex.{spelling, last-digit, next-digit, no_more}
use Rattle.console.proofs.print.spell.Goals as goal

pub loop-at-init : goal.loop-at-init
loop-at-init c = record { within = search rules; long = search rules; left = search (spelling, rules) }

pub returns-then-rest-eq0-clause-spelled : goal.returns-then-rest-eq0-clause-spelled
returns-then-rest-eq0-clause-spelled c = search (last-digit, rules)

pub loop-at-preserved : goal.loop-at-preserved
loop-at-preserved c = record { within = search rules; long = search rules; left = search (next-digit, rules) }

pub returns-clause-spelled : goal.returns-clause-spelled
returns-clause-spelled c = no_more _ _ _ _ _ c.loop-at.invariant.left (search rules)
