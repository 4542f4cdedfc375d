-- The lines of a script and the words of a line.
use Rattle.std.specs.Prelude.{ℕ, ◌-◌, ◌==◌, Bool, not, ◌||◌, List, [], ◌∷◌, length, take, drop, map, filter, nat_eq, nat_lt, codes, if◌then◌else◌}
use Rattle.std.specs.List.{onto_first, slice_split, starts_with, ends_with, prefix_len}
use Rattle.std.specs.Str.{byte}

-- a line feed
abbrev pub is_line_feed : ℕ → Bool
is_line_feed b = b == byte "\n"

-- the parts that end with a line feed; the last part may lack it
abbrev pub parts_by_line_feed : List ℕ → List (List ℕ)
parts_by_line_feed [] = []
parts_by_line_feed (b ∷ bs) = if is_line_feed b then [] ∷ parts_by_line_feed bs else onto_first b (parts_by_line_feed bs)

-- without one carriage return at the end
abbrev pub without_return : List ℕ → List ℕ
without_return line = if ends_with nat_eq line (codes "\r") then take (length line - 1) line else line

-- the lines of a script
abbrev pub script_lines : List ℕ → List (List ℕ)
script_lines script = map without_return (parts_by_line_feed script)

-- a blank or a tab
abbrev pub is_gap : ℕ → Bool
is_gap c = c == byte " " || c == byte "\t"

-- at least one character
abbrev pub is_word : List ℕ → Bool
is_word part = nat_lt 0 (length part)

-- the words of a line: what stands between blanks and tabs
abbrev pub words_of : List ℕ → List (List ℕ)
words_of line = filter is_word (slice_split is_gap line)

-- without the blanks and tabs in front
abbrev pub without_gap : List ℕ → List ℕ
without_gap line = drop (prefix_len is_gap line) line

-- what follows the first word
abbrev pub behind_word : List ℕ → List ℕ
behind_word line = let rest = without_gap line in drop (prefix_len (λ c. not (is_gap c)) rest) rest

-- without one blank or tab in front
abbrev pub without_one_gap : List ℕ → List ℕ
without_one_gap [] = []
without_one_gap (c ∷ cs) = if is_gap c then cs else c ∷ cs

-- what follows the blank or tab behind the first word, further blanks included
abbrev pub text_behind_word : List ℕ → List ℕ
text_behind_word line = without_one_gap (behind_word line)

-- a line whose first word is this is a note, and gives no answer
abbrev pub is_note : List ℕ → Bool
is_note word = starts_with nat_eq word (codes "#")
