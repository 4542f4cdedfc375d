-- What is printed for the headers of traces.
use Rattle.std.specs.Prelude.{ℕ, ℤ, List, [], ◌∷◌, ◌++◌, map, decimal, codes}
use Rattle.std.specs.Fmt.{signed_decimal}
use Rattle.bench_rules.specs.declared.extremes.Extremes.{Extremes}
use Rattle.line_texts.specs.Lines.{with_blanks}

-- a trace's position and its numbers
abbrev pub table_row_text : ℕ × List ℤ → List ℕ
table_row_text r = with_blanks (decimal r.0 ∷ map signed_decimal r.1)

-- the position of a trace that was found and its number, behind this word
abbrev pub found_text : List ℕ → ℕ × ℤ → List ℕ
found_text word e = with_blanks (word ∷ decimal e.0 ∷ signed_decimal e.1 ∷ [])

-- a name and its number
abbrev pub number_text : List ℕ × ℤ → List ℕ
number_text f = codes "field " ++ f.0 ++ codes " " ++ signed_decimal f.1

-- the least, the greatest, the first and the last number
abbrev pub four_numbers : Extremes → List (List ℕ)
four_numbers e = signed_decimal e.least ∷ signed_decimal e.greatest ∷ signed_decimal e.first ∷ signed_decimal e.last ∷ []

-- a name and the extremes of its numbers
abbrev pub extremes_text : List ℕ × Extremes → List ℕ
extremes_text f = codes "field " ++ f.0 ++ codes " " ++ with_blanks (four_numbers f.1)
