-- The digits read so far, and what is left of the field, make the number of the whole field.
use Rattle.std.proofs.Common.{◌≡◌, ◌<◌, ◌≤◌, ◌^◌, length, drop}
use Rattle.console.specs.Text.{digits_after}
use Rattle.console.proofs.parse.read_number.Given as goal

abbrev pub invariant-loop-b : goal.invariant-loop-b
invariant-loop-b l = record {
  within : l.b-index ≤ length l.field;
  bound : l.n < 16 ^ l.b-index;
  left : digits_after l.n (drop l.b-index l.field) ≡ digits_after 0 l.field;
}
