-- The range of one number over a list of traces.
use Rattle.std.specs.Prelude.{◌≡◌, false, List, [], ◌∷◌, map, All, Contains, Option, Some, None}
use Rattle.std.specs.Ordering.{is_gt, ord_min, ord_max}
use Rattle.trace_record.specs.Facts.{Facts}
use Rattle.key_counts.specs.Coordinates.{whole}
use Rattle.key_counts.specs.RatioOrder.{ratio_cmp}
use Rattle.key_counts.specs.declared.ratio.Ratio.{Ratio}
use Rattle.range_stats.specs.declared.quantity.Quantity.{Quantity}
use Rattle.range_stats.specs.declared.quantity.Quantity.TheVariants.{Inline, Crossline, Offset, X, Y}

-- the value that a range is of
abbrev pub value_under : Quantity → Facts → Ratio
value_under Inline f = whole f.inline
value_under Crossline f = whole f.crossline
value_under Offset f = whole f.offset
value_under X f = f.x
value_under Y f = f.y

-- the list has l and g, and nothing below l or above g
pub record Spans (vs : List Ratio) (l g : Ratio) : Type 0 where
  pub least_occurs : Contains vs l
  pub greatest_occurs : Contains vs g
  pub none_below : All (λ v. is_gt (ratio_cmp l v) ≡ false) vs
  pub none_above : All (λ v. is_gt (ratio_cmp v g) ≡ false) vs

-- the least and the greatest of the values, and none without values
abbrev pub IsRangeOf : List Ratio → Option (Ratio × Ratio) → Type 0
IsRangeOf vs None = vs ≡ []
IsRangeOf vs (Some r) = Spans vs r.0 r.1

-- some trace has the least, some the greatest, and no trace has a value below or above; none without traces
abbrev pub IsRange : Quantity → List Facts → Option (Ratio × Ratio) → Type 0
IsRange w fs r = IsRangeOf (map (λ f. value_under w f) fs) r

-- a range that takes in one more value
abbrev pub range_with : Ratio → Option (Ratio × Ratio) → Ratio × Ratio
range_with v None = (v, v)
range_with v (Some r) = (ord_min ratio_cmp v r.0, ord_max ratio_cmp v r.1)

-- the least and the greatest of the values
abbrev pub range_over : List Ratio → Option (Ratio × Ratio)
range_over [] = None
range_over (v ∷ vs) = Some (range_with v (range_over vs))

-- the range of the traces
abbrev pub range_of : Quantity → List Facts → Option (Ratio × Ratio)
range_of w fs = range_over (map (λ f. value_under w f) fs)
