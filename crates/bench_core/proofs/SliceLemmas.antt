-- The numbers of the slices that are kept after one was asked, whatever its rows are.
use Rattle.std.proofs.Common.{◌≡◌, ◌∙◌, ℕ, List, ◌∷◌, ap, take}
use Rattle.std.specs.Prelude.{filter, not, ◌==◌}
use Rattle.bench_rules.specs.KeptSlices.{KeptSlices, IsAsked, kept_numbers}
use Rattle.bench_rules.specs.declared.row.Row.{Row}
use Rattle.time_slice.proofs.CacheLemmas.{numbers_after_asked}

-- there is room for as many
pub asked_room : (old new : KeptSlices) (k : ℕ) (answer : List Row) → IsAsked old new k answer → new.capacity ≡ old.capacity
asked_room old new k answer asked = ap (λ (l : KeptSlices). l.capacity) asked.kept

-- its number comes first
pub asked_numbers : (old new : KeptSlices) (k : ℕ) (answer : List Row) → IsAsked old new k answer
    → kept_numbers new.entries ≡ take old.capacity (k ∷ filter (λ j. not (j == k)) (kept_numbers old.entries))
asked_numbers old new k answer asked =
    ap (λ (l : KeptSlices). kept_numbers l.entries) asked.kept ∙ numbers_after_asked old.capacity k asked.rows old.entries
