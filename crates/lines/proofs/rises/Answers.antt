-- `lines::rises` meets its contract.
use Rattle.lines.specs.Lines.{rises_in}
use Rattle.lines.proofs.rises.Goals as goal

pub returns : goal.returns
returns c = unfold rises_in in cc
