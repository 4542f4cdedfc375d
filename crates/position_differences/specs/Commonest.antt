-- The commonest of differences.
use Rattle.std.specs.Prelude.{◌≡◌, ℕ, List, [], ◌∷◌, Option, Some, None, option_map, nat_lt, if◌then◌else◌}
use Rattle.std.specs.Option.{option_map_or}
use Rattle.key_counts.specs.Counts.{count_of}
use Rattle.key_counts.specs.Rising.{occurrences, times_in}
use Rattle.position_differences.specs.declared.difference.Difference.{Difference}
use Rattle.position_differences.specs.Differences.{difference_cmp}

-- of two differences with how often they occur the one that occurs more often, and the first where both do equally often
abbrev pub oftener : Difference × ℕ → Difference × ℕ → Difference × ℕ
oftener e f = if nat_lt e.1 f.1 then f else e

-- of several the one that occurs most often, and the first of those
abbrev pub oftenest : List (Difference × ℕ) → Option (Difference × ℕ)
oftenest [] = None
oftenest (e ∷ es) = Some (option_map_or (oftener e) (oftenest es) e)

-- the difference that occurs most often in a list, of several the least; nothing of an empty list
abbrev pub commonest : List Difference → Option Difference
commonest ds = option_map (λ e. e.0) (oftenest (occurrences difference_cmp ds))

-- each difference was counted as often as it occurs in the list
abbrev pub AreCounted : List (Difference × ℕ) → List Difference → Type 0
AreCounted es ds = (q : Difference) → count_of difference_cmp es q ≡ times_in difference_cmp ds q
