use Rattle.std.proofs.Common.{codes, decimal, rules, SFits}
use Rattle.std.specs.Int.{w128}
use Rattle.std.proofs.lemmas.Int.{to_z-of_z}
use Rattle.std.specs.Fmt.{signed_decimal}
use Rattle.script_text.specs.FloatTexts.{ends_in, greatest_of, least_of, sum_in, word_or_none}
use Rattle.line_texts.proofs.TextLemmas.{six_behind}
use Rattle.script_text.proofs.stats_texts.push_words.Goals as goal

pub returns-clause-text : goal.returns-clause-text
returns-clause-text c =
    let s = c.args.found in
    let none : SFits w128 s.no_numbers = search rules in
    rw (c.push_numbered-3.ensures.text, c.push_numbered-2.ensures.text, c.push_numbered.ensures.text, c.push_numbers.ensures.text, c.push_number.ensures.text, c.requires, to_z-of_z w128 s.no_numbers none)
    (six_behind (decimal c.args.position) (codes " least ") (word_or_none (least_of (ends_in s.of_numbers))) (codes " greatest ") (word_or_none (greatest_of (ends_in s.of_numbers)))
    (codes " sum ") (word_or_none (sum_in s.of_numbers)) (codes " zeros ") (decimal c.args.zeros) (codes " samples ") (decimal s.number) (codes " nans ") (signed_decimal s.no_numbers))
