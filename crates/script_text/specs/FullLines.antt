-- The texts of answers are lines, none of which is empty.
use Rattle.std.specs.Prelude.{◌≡◌, true, ⊤}
use Rattle.std.specs.List.{list_all}
use Rattle.bench_rules.specs.declared.answer.Answer.{Answer}
use Rattle.bench_rules.specs.declared.answer.Answer.TheVariants as answers
use Rattle.script_text.specs.Texts.{is_plain, IsFullLines}
use Rattle.float_codes.specs.declared.float_format.FloatFormat.{FloatFormat}
use Rattle.shown_floats.specs.Shows.{Shows}
use Rattle.shown_floats.specs.declared.float_answer.FloatAnswer.{FloatAnswer}
use Rattle.script_text.specs.AnswerTexts.{answer_text}
use Rattle.script_text.specs.FloatTexts.{float_answer_text}

-- the texts and names in an answer have no line feed
abbrev pub HasPlainTexts : Answer → Type 0
HasPlainTexts (answers.Line text) = is_plain text ≡ true
HasPlainTexts (answers.Stanzas stanzas) = list_all (λ s. is_plain s.1) stanzas ≡ true
HasPlainTexts (answers.Fields fields) = list_all (λ f. is_plain f.0) fields ≡ true
HasPlainTexts (answers.Lines lines) = list_all is_plain lines ≡ true
HasPlainTexts (answers.Header fields) = list_all (λ f. is_plain f.0) fields ≡ true
HasPlainTexts (answers.Extremes fields) = list_all (λ f. is_plain f.0) fields ≡ true
HasPlainTexts answer = ⊤

-- what is printed for an answer whose texts and names have no line feed are lines, none of which is empty
abbrev pub AnswersAreFullLines : Type 0
AnswersAreFullLines = (answer : Answer) → HasPlainTexts answer → IsFullLines (answer_text answer)

-- and so is what is printed for an answer about samples that are floats
abbrev pub FloatAnswersAreFullLines : Type 0
FloatAnswersAreFullLines = (f : FloatFormat) (answer : Answer) (shown : FloatAnswer) → Shows f answer shown → IsFullLines (float_answer_text shown)
