-- `lines::write_line` meets its contract.
use Rattle.lines.proofs.Changes.{seen-inside, line-inside, line-stored}
use borrow.Author.Rules.{rules}
use Rattle.lines.proofs.write_line.Goals as goal

pub at-seer-requires : goal.at-seer-requires
at-seer-requires c = search (seen-inside, rules)

pub latch_rise-requires : goal.latch_rise-requires
latch_rise-requires c = search (seen-inside, line-inside, rules)

pub put_flag-requires : goal.put_flag-requires
put_flag-requires c = search (seen-inside, line-inside, rules)

pub returns : goal.returns
returns c =
    let latched = rw c.at-seer.ensures at c.latch_rise.ensures in
    let stored = rw c.at-seer.ensures at c.put_flag.ensures in
    search line-stored
