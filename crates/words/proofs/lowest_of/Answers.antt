-- `words::lowest_of` meets its contract.
use mathlib.Core.Path.{sym}
use lib.Count.{trailing_le}
use Rattle.words.proofs.Over.{lowest-either}
use Rattle.words.proofs.lowest_of.Goals as goal

pub returns : goal.returns
returns c = (sym (lowest-either c.args.a c.args.b), trailing_le 32 _)
