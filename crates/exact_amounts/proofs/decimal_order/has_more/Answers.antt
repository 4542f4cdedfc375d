use Rattle.std.proofs.Common.{◌∙◌, ◌-◌, length, ap, sym, arith, nat_lt}
use Rattle.std.specs.Str.Parse.{digits_value}
use Rattle.fast_float.proofs.Rows.{AllDigits-take, AllDigits-drop}
use Rattle.float_text.proofs.DigitLemmas.{some_left, none_left, dropped_past, whole_rest}
use Rattle.exact_amounts.proofs.decimal_order.has_more.Goals as goal

pub has_nonzero-requires : goal.has_nonzero-requires
has_nonzero-requires c = AllDigits-take _ _ (AllDigits-drop c.args.kept c.args.whole.now c.requires.digits.0)

pub has_nonzero-requires-else-kept-whole : goal.has_nonzero-requires-else-kept-whole
has_nonzero-requires-else-kept-whole c = AllDigits-take _ _ (AllDigits-drop _ c.args.fraction.now c.requires.digits.1)

pub returns-then-has_nonzero : goal.returns-then-has_nonzero
returns-then-has_nonzero c =
    some_left c.args.whole.now c.args.fraction.now c.args.kept c.has_nonzero.result c.if-kept-whole.true c.if-has_nonzero.true (c.has_nonzero.ensures ∙ ap (λ x. nat_lt 0 (digits_value 10 x)) (whole_rest c.args.whole.now c.args.kept))

pub returns-else-has_nonzero : goal.returns-else-has_nonzero
returns-else-has_nonzero c =
    none_left c.args.whole.now c.args.fraction.now c.args.kept c.has_nonzero.result c.has_nonzero-else-has_nonzero.result c.if-kept-whole.true c.if-has_nonzero.false
    (c.has_nonzero.ensures ∙ ap (λ x. nat_lt 0 (digits_value 10 x)) (whole_rest c.args.whole.now c.args.kept)) c.has_nonzero-else-has_nonzero.ensures

pub returns-else-kept-whole : goal.returns-else-kept-whole
returns-else-kept-whole c =
    c.has_nonzero-else-kept-whole.ensures
    ∙ ap (λ x. nat_lt 0 (digits_value 10 x)) (whole_rest c.args.fraction.now (c.args.kept - length c.args.whole.now) ∙ sym (dropped_past c.args.whole.now c.args.fraction.now c.args.kept (omega arith)))
