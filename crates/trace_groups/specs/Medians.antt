-- The lower median of amounts.
use Rattle.std.specs.Prelude.{ℕ, ◌-◌, ◌/◌, ◌&&◌, nat_le, nat_lt, Bool, List, length, Option, count_by, find}

-- the number stands at place k of the rising order, from 0: at most k numbers are less than it, and more than k are not greater
abbrev pub stands_at : ℕ → List ℕ → ℕ → Bool
stands_at k ns m = nat_le (count_by (λ n. nat_lt n m) ns) k && nat_lt k (count_by (λ n. nat_le n m) ns)

-- of n numbers in rising order the one at place (n - 1) / 2, from 0; nothing of no numbers
abbrev pub lower_median : List ℕ → Option ℕ
lower_median ns = find (stands_at ((length ns - 1) / 2) ns) ns
