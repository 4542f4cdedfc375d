-- What is printed for samples of many traces are lines, none of which is empty.
use Rattle.std.proofs.Common.{◌≡◌, ◌∙◌, ℕ, ℤ, ◌&&◌, true, List, [], ◌∷◌, ◌++◌, Option, Some, None, refl, sym, ap}
use Rattle.std.specs.Prelude.{codes, decimal}
use Rattle.std.specs.List.{list_all}
use Rattle.std.proofs.lemmas.Grind.{flat_map-append}
use Rattle.std.proofs.lemmas.List.Folds.{list_all-append}
use Rattle.float_codes.specs.declared.float_format.FloatFormat.{FloatFormat}
use Rattle.bench_rules.specs.declared.ask_fault.AskFault.{AskFault}
use Rattle.refusal_texts.specs.RefusalTexts.{ask_fault_text, refused_line}
use Rattle.script_text.specs.SectionTexts.{section_head, AreRowTexts, AreWords, IsRowText, IsWord}
use Rattle.line_texts.specs.Lines.{with_blanks, with_line_end, with_line_ends}
use Rattle.script_text.specs.Texts.{is_full_line, is_plain, IsFullLines}
use Rattle.script_text.proofs.FloatLineLemmas.{plain_rank}
use Rattle.script_text.proofs.FullLineLemmas.{full_decimal, no_word, one_line, plain_decimal, plain_signed, word, words_line, Plain}
use Rattle.script_text.proofs.PlainLemmas.{plain_ask_fault, refused_full}

-- full lines behind others
full_both : (a b : List ℕ) → IsFullLines a → IsFullLines b → IsFullLines (a ++ b)
full_both a b one other = record {
  lines = one.lines ++ other.lines;
  text_is = ap (λ s. s ++ b) one.text_is ∙ ap (λ s. with_line_ends one.lines ++ s) other.text_is ∙ sym (flat_map-append with_line_end one.lines other.lines);
  full = list_all-append is_full_line one.lines other.lines ∙ ap (λ t. t && list_all is_full_line other.lines) one.full ∙ other.full;
}

plain_word : (floats : Option FloatFormat) (x : ℤ) (w : List ℕ) → IsWord floats x w → is_plain w ≡ true
plain_word None x w is = ap is_plain is ∙ plain_signed x
plain_word (Some f) x w is = plain_rank f x w is

plain_words_of : (floats : Option FloatFormat) (xs : List ℤ) (ws : List (List ℕ)) → AreWords floats xs ws → Plain ws
plain_words_of floats [] [] are = no_word
plain_words_of floats [] (w ∷ ws) are = absurd are
plain_words_of floats (x ∷ xs) [] are = absurd are
plain_words_of floats (x ∷ xs) (w ∷ ws) are = word w (plain_word floats x w are.0) (plain_words_of floats xs ws are.1)

full_row : (floats : Option FloatFormat) (row : ℕ × List ℤ) (text : List ℕ) → IsRowText floats row text → IsFullLines text
full_row floats row text (words, are, is) = rw is (one_line (with_blanks (decimal row.0 ∷ words)) (words_line (decimal row.0) (full_decimal row.0) (plain_words_of floats row.1 words are)))

full_rows : (floats : Option FloatFormat) (rows : List (ℕ × List ℤ)) (text : List ℕ) → AreRowTexts floats rows text → IsFullLines text
full_rows floats [] text is = rw is (record { lines = []; text_is = refl; full = refl })
full_rows floats (row ∷ rows) text (first, rest, one, others, is) = rw is (full_both first rest (full_row floats row first one) (full_rows floats rows rest others))

full_head : (n : ℕ) → IsFullLines (section_head n)
full_head n = one_line (with_blanks (codes "samples" ∷ decimal n ∷ [])) (words_line (codes "samples") refl (word (decimal n) (plain_decimal n) no_word))

-- all rows
pub full_section : (floats : Option FloatFormat) (rows : List (ℕ × List ℤ)) (lines : List ℕ) (n : ℕ) → AreRowTexts floats rows lines → IsFullLines (section_head n ++ lines)
full_section floats rows lines n are = full_both (section_head n) lines (full_head n) (full_rows floats rows lines are)

-- some rows, and a refusal behind them
pub full_cut : (floats : Option FloatFormat) (rows : List (ℕ × List ℤ)) (lines : List ℕ) (n : ℕ) (fault : AskFault) → AreRowTexts floats rows lines
    → IsFullLines (section_head n ++ lines ++ refused_line (ask_fault_text fault))
full_cut floats rows lines n fault are =
    full_both (section_head n ++ lines) (refused_line (ask_fault_text fault)) (full_section floats rows lines n are) (refused_full (ask_fault_text fault) (plain_ask_fault fault))
