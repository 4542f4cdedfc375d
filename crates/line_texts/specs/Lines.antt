-- How lines are printed.
use Rattle.std.specs.Prelude.{ℕ, List, ◌++◌, length, flat_map, decimal, codes}
use Rattle.std.specs.List.{join_with_byte}
use Rattle.std.specs.Str.{byte}

-- words with a blank between each two
abbrev pub with_blanks : List (List ℕ) → List ℕ
with_blanks words = join_with_byte (byte " ") words

-- a line with its end
abbrev pub with_line_end : List ℕ → List ℕ
with_line_end line = line ++ codes "\n"

-- lines with their ends
abbrev pub with_line_ends : List (List ℕ) → List ℕ
with_line_ends lines = flat_map with_line_end lines

-- a word and a number, and then lines
abbrev pub counted_lines : List ℕ → ℕ → List (List ℕ) → List ℕ
counted_lines word n lines = with_line_end (word ++ codes " " ++ decimal n) ++ with_line_ends lines

-- a word and how many lines follow, and then these
abbrev pub list_lines : List ℕ → List (List ℕ) → List ℕ
list_lines word lines = counted_lines word (length lines) lines
