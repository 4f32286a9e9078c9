-- `lines::latch_rise` meets its contract.
use Rattle.lines.proofs.Changes.{rise-latched, no-rise}
use Rattle.lines.proofs.latch_rise.Goals as goal

pub returns-then-rises : goal.returns-then-rises
returns-then-rises c = search rise-latched

pub returns-else-rises : goal.returns-else-rises
returns-else-rises c = search no-rise
