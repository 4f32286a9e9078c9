-- `words::edges_of` meets its contract: after i turns the flags below i are in place.
use borrow.Author.Rules.{rules}
use Rattle.words.proofs.Edges.{collect-none, collect-more, collect-done}
use Rattle.words.proofs.edges_of.Goals as goal

pub loop-i-init : goal.loop-i-init
loop-i-init c = (search rules, collect-none _)

pub loop-i-preserved : goal.loop-i-preserved
loop-i-preserved c = (search rules, search collect-more)

pub returns : goal.returns
returns c = search collect-done
