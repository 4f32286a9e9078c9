-- `words::pending_word` meets its contract.
use Rattle.words.specs.Words.{pending_word}
use Rattle.words.proofs.Expressions.{gathers, itself, ors, ands, nots, halves}
use Rattle.words.proofs.pending_word.Goals as goal

pub returns : goal.returns
unfolding pending_word
returns c = gathers (ors (itself c.ranges.latch) (ands (nots (halves c.args.low c.args.high)) (itself c.ranges.line)))
