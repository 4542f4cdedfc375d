-- How often differences were counted, of which those that came lately stand aside.
use Rattle.std.specs.Prelude.{ℕ, ◌+◌, cond, List}
use Rattle.std.specs.List.{sum_by}
use Rattle.std.specs.Ordering.{is_eq}
use Rattle.key_counts.specs.Counts.{count_of}
use Rattle.position_differences.specs.declared.difference.Difference.{Difference}
use Rattle.position_differences.specs.Differences.{difference_cmp}

-- how often a difference was counted at the places of those that came lately
abbrev pub counted_in : List (Difference × ℕ) → Difference → ℕ
counted_in lately q = sum_by (λ e. cond (is_eq (difference_cmp e.0 q)) e.1 0) lately

-- .. and among all
abbrev pub held_in : List (Difference × ℕ) → List (Difference × ℕ) → Difference → ℕ
held_in lately es q = counted_in lately q + count_of difference_cmp es q
