-- The differences that were counted, and how often, are those that occur.
use Rattle.std.specs.Prelude.{◌≡◌, ℕ, ◌<◌, List, All}
use Rattle.std.proofs.Common.{ap}
use Rattle.std.specs.Cmp.{IsTotalOrder, then_total, on_total}
use Rattle.std.proofs.lemmas.Map.Lookups.{CmpEqualImpliesEq, exact_pairs}
use Rattle.key_counts.specs.RatioOrder.{ratio_cmp, ratio_total, exact_ratios}
use Rattle.std.specs.List.Sorted.{IsStrictlySortedBy}
use Rattle.std.specs.Map.{keys_of, values_of}
use Rattle.key_counts.specs.Rising.{occurrences}
use Rattle.position_differences.specs.Commonest.{AreCounted}
use Rattle.key_counts.specs.declared.ratio.Ratio.{Ratio}
use Rattle.key_counts.proofs.ShownLemmas.{one_shown, Shows-occurrences}
use Rattle.position_differences.specs.declared.difference.Difference.{Difference}
use Rattle.position_differences.specs.Differences.{difference_cmp}

pub difference_total : IsTotalOrder difference_cmp
difference_total = then_total (on_total (λ (d : Difference). d.x) ratio_total) (on_total (λ (d : Difference). d.y) ratio_total)

with_parts : Ratio × Ratio → Difference
with_parts p = record { x = p.0; y = p.1 }

pub exact_differences : CmpEqualImpliesEq difference_cmp
unfolding with_parts
exact_differences a b e = ap with_parts (exact_pairs ratio_cmp ratio_cmp exact_ratios exact_ratios (a.x, a.y) (b.x, b.y) e)

-- what was counted is what occurs
pub shown_occur : (ds : List Difference) (es : List (Difference × ℕ)) → IsStrictlySortedBy difference_cmp (keys_of es) → All (λ n. 0 < n) (values_of es) → AreCounted es ds → es ≡ occurrences difference_cmp ds
shown_occur ds es up above counted =
    one_shown difference_cmp difference_total exact_differences _ _ _ (record { sorted = up; positive = above; counts = counted }) (Shows-occurrences difference_cmp difference_total ds)
