use Rattle.std.proofs.Common.{sym, ◌∙◌, arith, ◌*◌, ◌≤◌}
use Rattle.std.specs.Str.Parse.{digits_value}
use Rattle.script_words.proofs.NumberLemmas.{no_digits, no_digit_at, too_large, one_more_digit, value_more, grows}
use Rattle.script_words.proofs.numbers.natural.Goals as goal
use Rattle.script_words.proofs.numbers.natural.Goals.{then-not-is_ascii_digit-via-then-not-is_ascii_digit, then-not-is_ascii_digit-via-else-not-is_ascii_digit+then-value-ge-ROOM_FOR_A_DIGIT}

pub returns-then-not-is_ascii_digit : goal.returns-then-not-is_ascii_digit
returns-then-not-is_ascii_digit c =
    elim c.then-not-is_ascii_digit.branch [
      | then-not-is_ascii_digit-via-then-not-is_ascii_digit w ↦
          no_digits c.args.most c.args.word.now
          (no_digit_at c.args.word.now c.digits.byte-index c.digits-test.true (sym c.is_ascii_digit.ensures.value ∙ w.if-not-is_ascii_digit.true))
      | then-not-is_ascii_digit-via-else-not-is_ascii_digit+then-value-ge-ROOM_FOR_A_DIGIT w ↦
          let large : c.digits.value * 10 ≤ digits_value 10 c.args.word.now =
          grows c.args.word.now c.digits.byte-index c.digits.value c.digits-test.true c.digits.invariant.1 in
          too_large c.args.most c.args.word.now (omega (arith, large, c.requires, w.if-value-ge-ROOM_FOR_A_DIGIT.true))
    ]

pub digits-preserved : goal.digits-preserved
digits-preserved c =
    let digit = sym c.is_ascii_digit.ensures.value ∙ c.if-not-is_ascii_digit.false in (
      one_more_digit c.args.word.now c.digits.byte-index c.digits-test.true digit c.digits.invariant.0,
      value_more c.args.word.now c.digits.byte-index c.digits.value c.from.result c.digits-test.true digit c.from.ensures c.digits.invariant.1,
    )
