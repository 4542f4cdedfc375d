-- A place in a trace where an edit is not refused.
use Rattle.std.proofs.Common.{◌≡◌, ℕ, ℤ, ◌+◌, ◌*◌, ◌<◌, ◌≤◌, ◌^◌, List, length, IsTrue, Option, Some, None, refl, sym, ap, subst, ◌∙◌, arith}
use Rattle.std.specs.Prelude.{nat_le, nat_lt}
use Rattle.std.specs.List.{list_all}
use Rattle.std.proofs.lemmas.Bool.{leb-true, ltb-false}
use Rattle.num_order.specs.Number.{fits as fits_kind}
use Rattle.sample_codes.specs.declared.value_format.ValueFormat.{ValueFormat}
use Rattle.sample_codes.specs.Formats.{sample_fits, values, width}
use Rattle.field_map.specs.declared.place.Place.{Place}
use Rattle.frame_cut.specs.declared.file_head.Head.{Head}
use Rattle.frame_cut.specs.Cuts.{IsTrace}
use Rattle.frame_cut.specs.Frames.{sample_count}
use Rattle.frame_cut.specs.Traces.{count_of, is_trace, trace_at}
use Rattle.frame_cut.specs.Volume.{Volume}
use Rattle.trace_view.specs.Values.{has_place, samples_at}
use Rattle.bench_rules.specs.declared.refusal.Refusal.TheVariants as refusals
use Rattle.bench_rules.specs.Refused.{patch_refusal, set_refusal, values_refusal}
use Rattle.bench_rules.proofs.AcceptedLemmas.{unless_so}
use Rattle.bench_rules.proofs.PatchLemmas.{samples_inside}
use Rattle.bench_rules.proofs.PlaceLemmas.{place_inside, sized, stands}
use Rattle.bench_rules.proofs.SetLemmas.{both, unless}
use Rattle.volume_answers.specs.Rooms.{HasRoom, HasSampleRoom}

-- a trace of the same length has room for the value
pub room : (v : Volume) (p : ℕ) (place : Place) (x : ℤ) (h : Head) (t : List ℕ) → IsTrue (is_trace v p) → IsTrace h t → length t ≡ length (trace_at v p) → set_refusal h t (Some place) x ≡ None → HasRoom v p place x
room v p place x h t there whole long none =
    let range = both (nat_le 1 p) (nat_le p (count_of v)) there in
    let has = unless (has_place h t place) refusals.NoPlace _ none in
    let fit = unless (fits_kind place.kind x) refusals.DoesNotFit _ has.1 in
    let s = stands h t place has.0 in
    record {
      first = leb-true 1 p range.0;
      last = leb-true p (count_of v) range.1;
      byte = omega (arith, s.first);
      size = sized place.kind.size s.size;
      fits = fit.0;
      inside = omega (arith, place_inside h t place whole has.0, long);
    }

-- and for the values of samples
pub sample_room : (v : Volume) (p k at : ℕ) (xs : List ℤ) (h : Head) (t : List ℕ) → IsTrue (is_trace v p) → h ≡ v.head → IsTrace h t → length t ≡ length (trace_at v p) → sample_count h t < 2 ^ 32
    → at ≡ samples_at h t + width h.format * k → patch_refusal h t k xs ≡ None → HasSampleRoom v p at xs
sample_room v p k at xs h t there head whole long small place none = by (values h.format) refl none
  where
    by : (o : Option ValueFormat) → values h.format ≡ o → values_refusal o h t k xs ≡ None → HasSampleRoom v p at xs
    by None reads none = absurd cc
    by (Some f) reads none =
        let range = both (nat_le 1 p) (nat_le p (count_of v)) there in
        let fit = unless (list_all (sample_fits f) xs) refusals.DoesNotFit _ none in
        let n : ℕ = sample_count h t in
        let within : k + length xs ≤ n = ltb-false n (k + length xs) (unless_so (nat_lt n (k + length xs)) (refusals.NoSample _ n) None fit.1).0 in
        let inside : at + width h.format * length xs ≤ length (trace_at v p) = omega (arith, samples_inside h t k xs whole within, place, long) in
        record {
          first = leb-true 1 p range.0;
          last = leb-true p (count_of v) range.1;
          format = f;
          reads = ap (λ (u : Head). values u.format) (sym head) ∙ reads;
          fit = fit.0;
          few = omega (arith, within, small);
          inside = subst (λ (u : Head). at + width u.format * length xs ≤ length (trace_at v p)) head inside;
        }
