-- The tally of records whose numbers were counted all at once.
use Rattle.std.specs.Prelude.{◌≡◌, ℤ, false, List, [], ◌∷◌, ◌++◌, length, map, filter_map, count_by, refl}
use Rattle.std.specs.Option.{option_map_or}
use Rattle.std.proofs.Common.{sym, ap, ap₂, ◌∙◌}
use Rattle.std.proofs.lemmas.List.{length-map, map-append}
use Rattle.std.proofs.lemmas.List.Elements.{filter_map-append}
use Rattle.std.specs.Ordering.{int_cmp, int_eq}
use Rattle.trace_record.specs.Facts.{facts_of}
use Rattle.range_stats.specs.RangeKeys.{ranges_has, keys_of_ranges}
use Rattle.key_counts.specs.Counts.{count_of}
use Rattle.key_counts.specs.Packed.{ratio_in}
use Rattle.key_counts.specs.declared.packed_ratio.PackedRatio.{PackedRatio}
use Rattle.key_counts.specs.declared.ratio.Ratio.{Ratio}
use Rattle.trace_record.specs.Keys.{cell, inline, crossline, offset, coordinate_x, coordinate_y, least, greatest, triple}
use Rattle.key_counts.specs.RatioOrder.{ratio_cmp}
use Rattle.key_counts.specs.Rising.{times_in}
use Rattle.trace_record.specs.Tally.{Same, tally_of}
use Rattle.trace_record.specs.declared.amplitudes.Amplitudes.{Amplitudes}
use Rattle.trace_record.specs.declared.record.Record.{Record}
use Rattle.range_stats.proofs.EndKeyLemmas.{counted_ends, amplitudes-facts}
use Rattle.trace_record.proofs.LoadLemmas.{sum_by-zero, int_sum-zero, map-facts}
use Rattle.key_counts.proofs.ShownLemmas.{times_in-map}
use Rattle.range_stats.specs.EndsCounted.{AreEndsCounted}
use Rattle.range_stats.specs.OfRanges.{tally_of_ranges}
use Rattle.range_stats.specs.OfTotals.{tally_of_totals}
use Rattle.range_stats.specs.TotalKeys.{keys_of_totals}
use Rattle.range_stats.specs.declared.ranges.Ranges.{Ranges}
use Rattle.range_stats.specs.declared.totals.Totals.{Totals}

-- ranges that counted the records' numbers show the records' tally
pub Same-loaded_ranges : (v : Ranges) (rs : List Record) → v.records ≡ length rs
    → ((q : ℤ) → count_of int_cmp v.inlines q ≡ times_in int_cmp (map (λ r. r.inline) rs) q)
    → ((q : ℤ) → count_of int_cmp v.crosslines q ≡ times_in int_cmp (map (λ r. r.crossline) rs) q)
    → ((q : ℤ) → count_of int_cmp v.offsets q ≡ times_in int_cmp (map (λ r. r.offset) rs) q)
    → ((q : Ratio) → count_of ratio_cmp v.coordinates_x q ≡ times_in ratio_cmp (map (λ r. r.x) rs) q)
    → ((q : Ratio) → count_of ratio_cmp v.coordinates_y q ≡ times_in ratio_cmp (map (λ r. r.y) rs) q)
    → Same (tally_of_ranges v) (tally_of keys_of_ranges (map facts_of rs))
Same-loaded_ranges v rs n inlines crosslines offsets xs ys = record {
  records = n ∙ sym (length-map rs facts_of);
  number = sym (sum_by-zero (map facts_of rs));
  sum = sym (int_sum-zero (map facts_of rs));
  count = elim [
    | cell i x ↦ sym (sum_by-zero (map facts_of rs))
    | inline i ↦
        inlines i
        ∙ ap (λ ks. times_in int_cmp ks i) (map-facts (λ r. r.inline) (λ f. f.inline) (λ r. refl) rs)
        ∙ times_in-map int_cmp (λ f. f.inline) (λ f k. ranges_has f (inline k)) (λ f k. refl) (map facts_of rs) i
    | crossline x ↦
        crosslines x
        ∙ ap (λ ks. times_in int_cmp ks x) (map-facts (λ r. r.crossline) (λ f. f.crossline) (λ r. refl) rs)
        ∙ times_in-map int_cmp (λ f. f.crossline) (λ f k. ranges_has f (crossline k)) (λ f k. refl) (map facts_of rs) x
    | offset o ↦
        offsets o
        ∙ ap (λ ks. times_in int_cmp ks o) (map-facts (λ r. r.offset) (λ f. f.offset) (λ r. refl) rs)
        ∙ times_in-map int_cmp (λ f. f.offset) (λ f k. ranges_has f (offset k)) (λ f k. refl) (map facts_of rs) o
    | coordinate_x r ↦
        xs r
        ∙ ap (λ ks. times_in ratio_cmp ks r) (map-facts (λ r. r.x) (λ f. f.x) (λ r. refl) rs)
        ∙ times_in-map ratio_cmp (λ f. f.x) (λ f k. ranges_has f (coordinate_x k)) (λ f k. refl) (map facts_of rs) r
    | coordinate_y r ↦
        ys r
        ∙ ap (λ ks. times_in ratio_cmp ks r) (map-facts (λ r. r.y) (λ f. f.y) (λ r. refl) rs)
        ∙ times_in-map ratio_cmp (λ f. f.y) (λ f k. ranges_has f (coordinate_y k)) (λ f k. refl) (map facts_of rs) r
    | least v ↦ sym (sum_by-zero (map facts_of rs))
    | greatest v ↦ sym (sum_by-zero (map facts_of rs))
    | triple i x o ↦ sym (sum_by-zero (map facts_of rs))
  ];
}

-- an end of the records whose samples have values occurs as often as traces have it
times_in-valued : (end : Amplitudes → ℤ) (rs : List Record) (v : ℤ)
    → times_in int_cmp (map end (filter_map (λ r. r.amplitudes) rs)) v ≡ count_by (λ f. option_map_or (λ a. int_eq (end a) v) f.amplitudes false) (map facts_of rs)
times_in-valued end rs v = ap (λ (xs : List Amplitudes). times_in int_cmp (map end xs) v) (amplitudes-facts rs) ∙ sym (counted_ends end (map facts_of rs) v)

-- totals that counted the ends of the records whose samples have values, and these samples, show the records' tally
pub Same-loaded_totals : (t : Totals) (rs : List Record) → t.records ≡ length rs
    → t.number ≡ (tally_of keys_of_totals (map facts_of rs)).number
    → t.sum ≡ (tally_of keys_of_totals (map facts_of rs)).sum
    → AreEndsCounted (λ a. a.least) t.least_samples rs
    → AreEndsCounted (λ a. a.greatest) t.greatest_samples rs
    → Same (tally_of_totals t) (tally_of keys_of_totals (map facts_of rs))
Same-loaded_totals t rs n number sum least_of greatest_of = record {
  records = n ∙ sym (length-map rs facts_of);
  number = number;
  sum = sum;
  count = elim [
    | cell i x ↦ sym (sum_by-zero (map facts_of rs))
    | inline i ↦ sym (sum_by-zero (map facts_of rs))
    | crossline x ↦ sym (sum_by-zero (map facts_of rs))
    | offset o ↦ sym (sum_by-zero (map facts_of rs))
    | coordinate_x r ↦ sym (sum_by-zero (map facts_of rs))
    | coordinate_y r ↦ sym (sum_by-zero (map facts_of rs))
    | least v ↦ least_of v ∙ times_in-valued (λ a. a.least) rs v
    | greatest v ↦ greatest_of v ∙ times_in-valued (λ a. a.greatest) rs v
    | triple i x o ↦ sym (sum_by-zero (map facts_of rs))
  ];
}

-- the ends of one trace more
pub ends-behind : (end : Amplitudes → ℤ) (ys : List Record) (x : Record) (old new : List ℤ)
    → old ≡ map end (filter_map (λ r. r.amplitudes) ys) → new ≡ old ++ map end (filter_map (λ r. r.amplitudes) (x ∷ []))
    → new ≡ map end (filter_map (λ r. r.amplitudes) (ys ++ x ∷ []))
ends-behind end ys x old new h e =
    e ∙ ap (λ l. l ++ map end (filter_map (λ r. r.amplitudes) (x ∷ []))) h
    ∙ sym (map-append end (filter_map (λ r. r.amplitudes) ys) (filter_map (λ r. r.amplitudes) (x ∷ [])))
    ∙ sym (ap (map end) (filter_map-append (λ (r : Record). r.amplitudes) ys (x ∷ [])))

-- a coordinate of one trace more
pub coordinate-behind : (value : Record → Ratio) (ys : List Record) (x : Record) (old new : List PackedRatio) (k : PackedRatio)
    → map ratio_in old ≡ map value ys → new ≡ old ++ k ∷ [] → ratio_in k ≡ value x → map ratio_in new ≡ map value (ys ++ x ∷ [])
coordinate-behind value ys x old new k h e is =
    ap (map ratio_in) e ∙ map-append ratio_in old (k ∷ []) ∙ ap₂ (λ l r. l ++ r ∷ []) h is ∙ sym (map-append value ys (x ∷ []))
