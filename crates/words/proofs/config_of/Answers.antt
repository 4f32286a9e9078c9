-- `words::config_of` meets its contract: after i turns the flags below i are in place.
use borrow.Author.Rules.{rules}
use Rattle.words.proofs.Edges.{spread_none, spread-more, spread-done}
use Rattle.words.proofs.config_of.Goals as goal

pub loop-i-init : goal.loop-i-init
loop-i-init c = (search rules, spread_none _)

pub loop-i-preserved : goal.loop-i-preserved
loop-i-preserved c = (search rules, search spread-more)

pub returns : goal.returns
returns c = search spread-done
