-- The text of a row is its position, and then each number behind a blank.
use Rattle.std.proofs.Common.{◌≡◌, ◌∙◌, ℕ, ℤ, List, [], ◌∷◌, ◌++◌, map, drop, get_or, length, ◌<◌, ◌≤◌, ◌+◌, refl, ap, append_assoc}
use Rattle.std.specs.Prelude.{codes, decimal}
use Rattle.std.specs.Fmt.{signed_decimal}
use Rattle.std.proofs.lemmas.List.{at_drop_more, at_drop_all}
use Rattle.line_texts.specs.Lines.{with_blanks, with_line_end}
use Rattle.script_text.specs.HeaderTexts.{table_row_text}

-- each number behind a blank, and the end of the line
abbrev pub rest_of_row : List ℤ → List ℕ
rest_of_row [] = codes "\n"
rest_of_row (x ∷ xs) = (codes " " ++ signed_decimal x) ++ rest_of_row xs

joined : (first : List ℕ) (xs : List ℤ) → with_blanks (first ∷ map signed_decimal xs) ++ codes "\n" ≡ first ++ rest_of_row xs
joined first [] = refl
joined first (x ∷ xs) =
    append_assoc first (codes " " ++ with_blanks (signed_decimal x ∷ map signed_decimal xs)) (codes "\n")
    ∙ ap (λ (s : List ℕ). first ++ (codes " " ++ s)) (joined (signed_decimal x) xs)

pub row_is : (position : ℕ) (xs : List ℤ) → with_line_end (table_row_text (position, xs)) ≡ decimal position ++ rest_of_row xs
row_is position xs = joined (decimal position) xs

-- the numbers from one on are it and those behind it
pub next_number : (xs : List ℤ) (i : ℕ) (d : ℤ) → i < length xs → rest_of_row (drop i xs) ≡ (codes " " ++ signed_decimal (get_or xs i d)) ++ rest_of_row (drop (i + 1) xs)
next_number xs i d h = at_drop_more rest_of_row xs i d h

-- behind the last number the line ends
pub no_number : (xs : List ℤ) (i : ℕ) → length xs ≤ i → rest_of_row (drop i xs) ≡ codes "\n"
no_number xs i h = at_drop_all rest_of_row xs i h
