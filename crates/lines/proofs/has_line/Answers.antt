-- `lines::has_line` meets its contract.
use Rattle.lines.proofs.Changes.{ppi-line, spi-line}
use Rattle.lines.proofs.has_line.Goals as goal

pub returns-then-id : goal.returns-then-id
returns-then-id c = search ppi-line

pub returns : goal.returns
returns c = search spi-line
