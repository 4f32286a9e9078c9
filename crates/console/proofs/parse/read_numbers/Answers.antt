-- The field of each turn is the next of the fields, and at the end none is left.
use Rattle.std.proofs.Common.{◌==◌, Some, rules, arith}
use Rattle.std.proofs.lemmas.Iterator.Consumers.{YieldsList-turn, YieldsList-end}
use Rattle.std.proofs.lemmas.Iterator.Splits.{YieldsList-from_slice_split}
use Rattle.console.specs.Text.{space, further}
use Rattle.console.proofs.Spaces.{next_field, no_field, no_more_fields}
use Rattle.console.proofs.parse.read_numbers.Goals as goal

pub returns-in_err-read_number : goal.returns-in_err-read_number
unfolding further
returns-in_err-read_number c =
    let all = YieldsList-from_slice_split _ (λ b. b == space) c.args.text.now (cc) (cc) (cc) (λ x b q k. search rules) in
    let turn = YieldsList-turn all c.loop-field.yielded _ c.loop-field.yielded_by _ _ c.in-Some.field c.in-Some.is c.next.ensures.steps in
    let next = next_field c.args.text.now _ c.in-Some.field.now (Some c.loop-field.numbers.items) turn in
    grind (arith, no_more_fields)

pub loop-field-preserved : goal.loop-field-preserved
unfolding further
loop-field-preserved c =
    let all = YieldsList-from_slice_split _ (λ b. b == space) c.args.text.now (cc) (cc) (cc) (λ x b q k. search rules) in
    let turn = YieldsList-turn all c.loop-field.yielded _ c.loop-field.yielded_by _ _ c.in-Some.field c.in-Some.is c.next.ensures.steps in
    let next = next_field c.args.text.now _ c.in-Some.field.now (Some c.loop-field.numbers.items) turn in
    grind (arith, no_more_fields)

pub returns-in_err-ok : goal.returns-in_err-ok
unfolding further
returns-in_err-ok c =
    let all = YieldsList-from_slice_split _ (λ b. b == space) c.args.text.now (cc) (cc) (cc) (λ x b q k. search rules) in
    let turn = YieldsList-turn all c.loop-field.yielded _ c.loop-field.yielded_by _ _ c.in-Some.field c.in-Some.is c.next.ensures.steps in
    let next = next_field c.args.text.now _ c.in-Some.field.now (Some c.loop-field.numbers.items) turn in
    grind (arith, no_more_fields)

pub returns : goal.returns
returns c =
    let all = YieldsList-from_slice_split _ (λ b. b == space) c.args.text.now (cc) (cc) (cc) (λ x b q k. search rules) in
    let end = YieldsList-end all c.loop-field.yielded _ c.loop-field.yielded_by _ _ c.in-None.is c.next.ensures.steps in
    let none = no_field c.args.text.now _ (Some c.loop-field.numbers.items) end.1 in
    cc
