-- A number of at most 15 digits, and one digit more, fit 64 bits.
use Rattle.std.proofs.Common.{rules, arith}
use Rattle.console.proofs.Hex.{each_digit, grows, times-fits, plus-fits}
use Rattle.console.proofs.parse.read_number.Goals as goal

pub overflow_mul-n : goal.overflow_mul-n
overflow_mul-n c = search times-fits

pub overflow_add-n : goal.overflow_add-n
overflow_add-n c = search (plus-fits, c.in_ok-n.ensures.upper_bound)

pub loop-b-preserved : goal.loop-b-preserved
loop-b-preserved c = record {
  within = search rules;
  bound = search (grows, c.in_ok-n.ensures.upper_bound);
  left = grind (arith, each_digit, c.in_ok-n.ensures.value, c.in_ok-n.ensures.upper_bound);
}
