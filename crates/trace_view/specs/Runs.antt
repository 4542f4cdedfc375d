-- The bytes of a trace with runs over them.
use Rattle.std.specs.Prelude.{ℕ, ◌+◌, ◌<◌, ◌≤◌, ◌||◌, nat_le, Bool, List, [], ◌∷◌, ◌++◌, length, drop, slice_range}
use Rattle.std.specs.List.{list_all}
use Rattle.std.specs.Coded.{×_prop, le_prop}
use Rattle.trace_view.specs.declared.run.Run.{Run}

-- where a run ends
abbrev pub end_of : Run → ℕ
end_of r = r.at + length r.bytes.items

-- the runs rise, share no place, are not empty, and lie between the first place and the length
abbrev pub FitFrom : ℕ → List Run → ℕ → Type 0
FitFrom from [] len = from ≤ len
FitFrom from (r ∷ rs) len = (from ≤ r.at) × ((0 < length r.bytes.items) × FitFrom (end_of r) rs len)

-- the runs rise, share no place, are not empty, and lie inside a trace of this length
abbrev pub Fit : List Run → ℕ → Type 0
Fit rs len = FitFrom 0 rs len

-- the bytes behind the first `from`, with the runs in place of those that they cover
abbrev pub bytes_with_runs_from : ℕ → List ℕ → List Run → List ℕ
bytes_with_runs_from from base [] = drop from base
bytes_with_runs_from from base (r ∷ rs) = slice_range base from r.at ++ (r.bytes.items ++ bytes_with_runs_from (end_of r) base rs)

-- the trace's bytes: the base with the runs in place of those that they cover
abbrev pub bytes_with_runs : List ℕ → List Run → List ℕ
bytes_with_runs base rs = bytes_with_runs_from 0 base rs

-- whether the run leaves the bytes from..to alone
abbrev pub is_apart : ℕ → ℕ → Run → Bool
is_apart from to r = nat_le to r.at || nat_le (end_of r) from

-- whether no run touches the bytes from..to
abbrev pub is_plain : List Run → ℕ → ℕ → Bool
is_plain rs from to = list_all (is_apart from to) rs

pub FitFrom-prop : (from : ℕ) (rs : List Run) (len : ℕ) → IsProp (FitFrom from rs len)
FitFrom-prop from [] len = le_prop
FitFrom-prop from (r ∷ rs) len = ×_prop le_prop (×_prop le_prop (FitFrom-prop (end_of r) rs len))
