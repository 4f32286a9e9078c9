-- `words::pending_of` meets its contract.
use Rattle.words.specs.Words.{pending_in}
use Rattle.words.proofs.pending_of.Goals as goal

pub returns : goal.returns
unfolding pending_in
returns c = c.pending_word.ensures
