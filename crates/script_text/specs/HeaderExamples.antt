-- Worked texts of the headers of traces.
use Rattle.std.specs.Prelude.{◌≡◌, pos, negsuc, [], ◌∷◌, codes, Some, None, Ok, refl}
use Rattle.std.specs.Fmt.{digits}
use Rattle.bench_rules.specs.declared.answer.Answer.TheVariants as answers
use Rattle.bench_rules.specs.declared.refusal.Refusal.TheVariants.{ZeroDivisor}
use Rattle.script_text.specs.AnswerTexts.{answer_text}
use Rattle.refusal_texts.specs.RefusalTexts.{refused_line, refusal_text}
use Rattle.script_text.specs.Replies.{edit_reply}

pub text-table : answer_text (answers.Table ((9, pos 100 ∷ negsuc 0 ∷ []) ∷ (10, pos 200 ∷ pos 0 ∷ []) ∷ [])) ≡ codes "table 2\n9 100 -1\n10 200 0\n"
unfolding digits
text-table = refl

pub text-found : answer_text (answers.Found ((3, negsuc 4) ∷ [])) ≡ codes "found 1\ntrace 3 -5\n"
unfolding digits
text-found = refl

pub text-found_none : answer_text (answers.Found []) ≡ codes "found 0\n"
unfolding digits
text-found_none = refl

pub text-header : answer_text (answers.Header ((codes "offset", pos 100) ∷ (codes "sx", negsuc 1) ∷ [])) ≡ codes "header 2\nfield offset 100\nfield sx -2\n"
unfolding digits
text-header = refl

pub text-extremes : answer_text (answers.Extremes ((codes "offset", record { least = negsuc 4; greatest = pos 7; first = pos 7; last = pos 0 }) ∷ []))
    ≡ codes "extremes 1\nfield offset -5 7 7 0\n"
unfolding digits
text-extremes = refl

-- a line without the blanks at its end
pub text-lines : answer_text (answers.Lines (codes "C 1 " ∷ codes "  " ∷ [])) ≡ codes "lines 2\nline |C 1|\nline ||\n"
unfolding digits
text-lines = refl

pub text-zero_divisor : refused_line (refusal_text (ZeroDivisor 7)) ≡ codes "refused E13 zero divisor trace 7\n"
unfolding digits
text-zero_divisor = refl

-- ---- chosen traces

pub text-chosen : answer_text (answers.Chosen 12) ≡ codes "chosen 12\n"
unfolding digits
text-chosen = refl

-- an edit of chosen traces tells how many they were, and any other does not
pub text-edited_chosen : (edit_reply (Ok (Some 0))).text ≡ codes "ok 0\n"
unfolding digits
text-edited_chosen = refl

pub text-edited : (edit_reply (Ok None)).text ≡ codes "ok\n"
text-edited = refl
