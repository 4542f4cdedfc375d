-- The keys of a trace that ranges and totals count, alone and beside another trace.
use Rattle.std.specs.Prelude.{◌≡◌, ℤ, ◌-◌, Option, Some, None, option_map, false, if◌then◌else◌, refl}
use Rattle.std.specs.Option.{option_map_or}
use Rattle.std.proofs.Common.{ap, sym, ◌∙◌}
use Rattle.std.specs.Ordering.{int_cmp, int_eq}
use Rattle.std.specs.Cmp.{int_cmp_total}
use Rattle.key_counts.specs.Numbers.{times_of, beside_of}
use Rattle.key_counts.specs.Packed.{ratio_in, packed_cmp}
use Rattle.key_counts.specs.RatioOrder.{ratio_cmp, ratio_total}
use Rattle.key_counts.specs.declared.packed_ratio.PackedRatio.{PackedRatio}
use Rattle.key_counts.specs.declared.ratio.Ratio.{Ratio}
use Rattle.key_counts.proofs.RaisedLemmas.{times-beside}
use Rattle.trace_record.specs.Facts.{Facts}
use Rattle.trace_record.specs.Keys.{Key, cell, inline, crossline, offset, coordinate_x, coordinate_y, least, greatest, triple}
use Rattle.trace_record.specs.Tally.{times}
use Rattle.trace_record.specs.declared.amplitudes.Amplitudes.{Amplitudes}
use Rattle.range_stats.specs.RangeKeys.{keys_of_ranges}
use Rattle.range_stats.specs.TotalKeys.{keys_of_totals}
use Rattle.range_stats.specs.OfKeys.{times_among, times_among_ends}
use Rattle.range_stats.specs.declared.keys.Keys.{Keys}
use Rattle.range_stats.specs.declared.ends.Ends.{Ends}
use Rattle.range_stats.proofs.EndKeyLemmas.{times-least, times-greatest}

-- a packed coordinate is counted as the coordinate in it
times_packed : (p : PackedRatio) (v q : Ratio) → ratio_in p ≡ v → times_of ratio_in ratio_cmp (Some p) q ≡ times_of (λ k. k) ratio_cmp (Some v) q
times_packed p v q e = ap (λ r. times_of (λ k. k) ratio_cmp (Some r) q) e

-- all keys of a trace
pub times-all : (ks : Keys) (f : Facts) (x y : PackedRatio) → ks.inline ≡ Some f.inline → ks.crossline ≡ Some f.crossline → ks.offset ≡ Some f.offset
    → ks.x ≡ Some x → ratio_in x ≡ f.x → ks.y ≡ Some y → ratio_in y ≡ f.y → (k : Key) → times_among ks k ≡ times keys_of_ranges f k
times-all ks f x y ei ec eo ex fx ey fy = elim [
  | cell i c ↦ refl
  | inline i ↦ ap (λ o. times_of (λ k. k) int_cmp o i) ei
  | crossline c ↦ ap (λ o. times_of (λ k. k) int_cmp o c) ec
  | offset q ↦ ap (λ o. times_of (λ k. k) int_cmp o q) eo
  | coordinate_x v ↦ ap (λ o. times_of ratio_in ratio_cmp o v) ex ∙ times_packed x f.x v fx
  | coordinate_y v ↦ ap (λ o. times_of ratio_in ratio_cmp o v) ey ∙ times_packed y f.y v fy
  | least v ↦ refl
  | greatest v ↦ refl
  | triple i c o ↦ refl
]

-- those that others are not among
pub among-beside : (ks own others : Keys) → ks.inline ≡ beside_of int_cmp own.inline others.inline → ks.crossline ≡ beside_of int_cmp own.crossline others.crossline → ks.offset ≡ beside_of int_cmp own.offset others.offset
    → ks.x ≡ beside_of packed_cmp own.x others.x → ks.y ≡ beside_of packed_cmp own.y others.y → (k : Key) → times_among ks k ≡ times_among own k - times_among others k
among-beside ks own others ei ec eo ex ey = elim [
  | cell i c ↦ refl
  | inline i ↦ ap (λ o. times_of (λ k. k) int_cmp o i) ei ∙ times-beside int_cmp int_cmp_total (λ k. k) own.inline others.inline i
  | crossline c ↦ ap (λ o. times_of (λ k. k) int_cmp o c) ec ∙ times-beside int_cmp int_cmp_total (λ k. k) own.crossline others.crossline c
  | offset q ↦ ap (λ o. times_of (λ k. k) int_cmp o q) eo ∙ times-beside int_cmp int_cmp_total (λ k. k) own.offset others.offset q
  | coordinate_x v ↦ ap (λ o. times_of ratio_in ratio_cmp o v) ex ∙ times-beside ratio_cmp ratio_total ratio_in own.x others.x v
  | coordinate_y v ↦ ap (λ o. times_of ratio_in ratio_cmp o v) ey ∙ times-beside ratio_cmp ratio_total ratio_in own.y others.y v
  | least v ↦ refl
  | greatest v ↦ refl
  | triple i c o ↦ refl
]

-- an end of a trace, where its samples have values
times_end : (end : Amplitudes → ℤ) (o : Option Amplitudes) (q : ℤ) → times_of (λ k. k) int_cmp (option_map end o) q ≡ (if option_map_or (λ a. int_eq (end a) q) o false then 1 else 0)
times_end end None q = refl
times_end end (Some a) q = refl

-- both ends of a trace whose amplitudes are known
pub times-ends : (es : Ends) (f : Facts) (o : Option Amplitudes) → f.amplitudes ≡ o → es.least ≡ option_map (λ a. a.least) o → es.greatest ≡ option_map (λ a. a.greatest) o
    → (k : Key) → times_among_ends es k ≡ times keys_of_totals f k
times-ends es f o is el eg = elim [
  | cell i c ↦ refl
  | inline i ↦ refl
  | crossline c ↦ refl
  | offset q ↦ refl
  | coordinate_x v ↦ refl
  | coordinate_y v ↦ refl
  | least v ↦ ap (λ e. times_of (λ k. k) int_cmp e v) el ∙ times_end (λ a. a.least) o v ∙ sym (times-least f o v is)
  | greatest v ↦ ap (λ e. times_of (λ k. k) int_cmp e v) eg ∙ times_end (λ a. a.greatest) o v ∙ sym (times-greatest f o v is)
  | triple i c q ↦ refl
]

pub ends-beside : (es own others : Ends) → es.least ≡ beside_of int_cmp own.least others.least → es.greatest ≡ beside_of int_cmp own.greatest others.greatest
    → (k : Key) → times_among_ends es k ≡ times_among_ends own k - times_among_ends others k
ends-beside es own others el eg = elim [
  | cell i c ↦ refl
  | inline i ↦ refl
  | crossline c ↦ refl
  | offset o ↦ refl
  | coordinate_x v ↦ refl
  | coordinate_y v ↦ refl
  | least v ↦ ap (λ o. times_of (λ k. k) int_cmp o v) el ∙ times-beside int_cmp int_cmp_total (λ k. k) own.least others.least v
  | greatest v ↦ ap (λ o. times_of (λ k. k) int_cmp o v) eg ∙ times-beside int_cmp int_cmp_total (λ k. k) own.greatest others.greatest v
  | triple i c o ↦ refl
]
