-- The digits that are left come before those that are spelled.
use Rattle.std.proofs.Common.{◌≡◌, ◌≤◌, length, drop}
use Rattle.console.specs.Answers.{digits, number_line}
use Rattle.console.proofs.print.spell.Given as goal

abbrev pub invariant-loop-at : goal.invariant-loop-at
invariant-loop-at l = record {
  within : l.at ≤ 20;
  long : length l.text ≡ 21;
  left : digits l.at l.base l.rest (drop l.at l.text) ≡ number_line l.base l.n;
}
