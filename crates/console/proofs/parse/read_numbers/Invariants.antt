-- The numbers so far, and the fields that are left, give what all the fields give.
use Rattle.std.proofs.Common.{◌≡◌, [], length, drop, Some}
use Rattle.console.specs.Text.{fields, numbers}
use Rattle.console.proofs.parse.read_numbers.Given as goal

abbrev pub invariant-loop-field : goal.invariant-loop-field
invariant-loop-field l = numbers (Some l.numbers.items) (drop (length l.yielded) (fields l.text)) ≡ numbers (Some []) (fields l.text)
