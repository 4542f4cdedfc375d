-- Rough groups of cells by their positions.
use Rattle.std.specs.Prelude.{ℕ, pos, ◌+◌, ◌-◌, ◌*◌, ◌/◌, ◌%◌, ◌^◌, ◌<◌, ◌≤◌, ◌==◌, ◌+ℤ◌, Bool, true, cond, min, List, length, slice_get, slice_index, nat_lt, unsigned_abs}
use Rattle.std.specs.List.{sum_by}
use Rattle.std.specs.Option.{option_map_or}
use Rattle.key_counts.specs.declared.ratio.Ratio.{Ratio}
use Rattle.cell_positions.specs.declared.shared.PlacedCell.{PlacedCell}
use Rattle.survey_cells.specs.declared.groups.TheConstants.{SPREAD_X, SPREAD_Y}

-- a coordinate as a word
abbrev pub word_in : Ratio → ℕ
word_in r = unsigned_abs (r.num +ℤ pos (2 ^ 46)) * 2 ^ 15 + (r.den - 1)

-- the words of both coordinates, spread over all words of 64 bits, for so many groups
unfoldable pub spread_in : ℕ → PlacedCell → ℕ
spread_in groups c = (word_in c.x * (SPREAD_X + 2 * groups) % 2 ^ 64 + word_in c.y * (SPREAD_Y + 2 * groups) % 2 ^ 64) % 2 ^ 64

-- the group of a cell among so many
abbrev pub group_in : ℕ → PlacedCell → ℕ
group_in groups c = spread_in groups c / 2 ^ 32 * groups / 2 ^ 32

-- how many cells are in a group
abbrev pub in_group : ℕ → ℕ → List PlacedCell → ℕ
in_group groups g cs = sum_by (λ c. cond (group_in groups c == g) 1 0) cs

-- a group of two cells or more has a size of 2 or more, and one of one cell has one above 0
abbrev pub IsCountedBy : ℕ → List PlacedCell → List ℕ → Type 0
IsCountedBy groups cs sizes = (g : ℕ) → g < length sizes → min 2 (in_group groups g cs) ≤ slice_index sizes g

-- the group of a cell has not this cell alone, or its size is not known
abbrev pub is_crowded : ℕ → List ℕ → PlacedCell → Bool
is_crowded groups sizes c = option_map_or (λ s. nat_lt 1 s) (slice_get sizes (group_in groups c)) true
