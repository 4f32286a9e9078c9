-- `system::sgi::send` meets its contract: the first t vCPUs are done.
use mathlib.Core.Path.{◌≡◌}
use Rattle.model.specs.Interface.{sgi_sent}
use Rattle.system.proofs.sgi.send.Given as goal

abbrev pub invariant-loop-t : goal.invariant-loop-t
invariant-loop-t l = l.s ≡ sgi_sent l.t l.only0 l.v.index l.x l.initial.s
