-- What is printed for samples of many traces.
use Rattle.std.specs.Prelude.{ℕ, ℤ, ◌≡◌, ⊤, List, [], ◌∷◌, ◌++◌, decimal, codes, Option, Some, None}
use Rattle.std.specs.Fmt.{signed_decimal}
use Rattle.float_codes.specs.declared.float_format.FloatFormat.{FloatFormat}
use Rattle.shown_floats.specs.Shows.{ShowsRank}
use Rattle.bench_rules.specs.declared.ask_fault.AskFault.{AskFault}
use Rattle.refusal_texts.specs.RefusalTexts.{ask_fault_text, refused_line}
use Rattle.line_texts.specs.Lines.{with_blanks, with_line_end}

-- the line that a section begins with: of how many traces it is
abbrev pub section_head : ℕ → List ℕ
section_head n = with_line_end (with_blanks (codes "samples" ∷ decimal n ∷ []))

-- the word of a sample: of whole numbers a decimal; of floats, whose format comes first, one that shows it
abbrev pub IsWord : Option FloatFormat → ℤ → List ℕ → Type 0
IsWord None x word = word ≡ signed_decimal x
IsWord (Some f) x word = ShowsRank f x word

-- the words of samples, one for each
abbrev pub AreWords : Option FloatFormat → List ℤ → List (List ℕ) → Type 0
AreWords floats [] [] = ⊤
AreWords floats [] (word ∷ words) = ⊥
AreWords floats (x ∷ xs) [] = ⊥
AreWords floats (x ∷ xs) (word ∷ words) = IsWord floats x word × AreWords floats xs words

-- the line of a trace: its position and the words of its samples
abbrev pub row_line : ℕ → List (List ℕ) → List ℕ
row_line p words = with_line_end (with_blanks (decimal p ∷ words))

-- the text is the line of a trace with these samples
abbrev pub IsRowText : Option FloatFormat → ℕ × List ℤ → List ℕ → Type 0
IsRowText floats row text = (words : List (List ℕ)) × AreWords floats row.1 words × (text ≡ row_line row.0 words)

-- the text is the lines of these rows
abbrev pub AreRowTexts : Option FloatFormat → List (ℕ × List ℤ) → List ℕ → Type 0
AreRowTexts floats [] text = text ≡ []
AreRowTexts floats (row ∷ rows) text =
    (first : List ℕ) × (rest : List ℕ) × IsRowText floats row first × AreRowTexts floats rows rest × (text ≡ first ++ rest)

-- what stands behind the rows: the line of the refusal of the trace whose row is lacking, if one is
abbrev pub section_end : Option AskFault → List ℕ
section_end None = []
section_end (Some fault) = refused_line (ask_fault_text fault)
