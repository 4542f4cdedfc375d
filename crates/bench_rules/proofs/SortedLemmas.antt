-- Traces put in order: what is known where the edit is not refused, and the volume that it gives.
use Rattle.std.proofs.Common.{◌≡◌, ℕ, ℤ, ◌≤◌, Bool, List, map, Option, Some, None, refl, sym, subst}
use Rattle.field_map.specs.declared.place.Place.{Place}
use Rattle.frame_cut.specs.Cuts.{IsCut}
use Rattle.frame_cut.specs.Traces.{count_of}
use Rattle.frame_cut.specs.Volume.{Volume, bytes_of}
use Rattle.bench_rules.specs.declared.edit.Edit.TheVariants.{Sort}
use Rattle.bench_rules.specs.declared.field.Field.{Field}
use Rattle.bench_rules.specs.declared.refusal.Refusal.TheVariants as refusals
use Rattle.bench_rules.specs.ManyTraces.{each_of}
use Rattle.bench_rules.specs.Places.{place_in_trace}
use Rattle.bench_rules.specs.Refused.{first_refusal, sort_refusal}
use Rattle.bench_rules.specs.Sorted.{in_order, with_order, with_traces_as}
use Rattle.bench_rules.specs.State.{State}
use Rattle.bench_rules.specs.Steps.{IsAfter}
use Rattle.bench_rules.specs.Tables.{table_of}
use Rattle.bench_rules.proofs.FirstLemmas.{AreTraces, are_traces, by_traces}
use Rattle.bench_rules.proofs.SortLemmas.{ordered-permutes, cut_sorted}

-- where traces a to b are there, the fields and their places decide
pub sort_first : (s : State) (a b : ℕ) (names : List Field) (falls : List Bool) → 1 ≤ a → a ≤ b → b ≤ count_of s.volume
    → first_refusal s (Sort a b names falls) ≡ sort_refusal s.volume a b (each_of (place_in_trace s.fields) names)
sort_first s a b names falls low high last = by_traces s.volume a b (sort_refusal s.volume a b (each_of (place_in_trace s.fields) names)) low high last

-- what is known of a sort that is not refused
pub record SortAccepted (s : State) (a b : ℕ) (names : List Field) : Type 0 where
  pub low : 1 ≤ a
  pub high : a ≤ b
  pub last : b ≤ count_of s.volume
  pub places : List Place
  pub found : each_of (place_in_trace s.fields) names ≡ Some places
  pub rows : List (ℕ × List ℤ)
  pub table : table_of s.volume places a b ≡ Some rows

pub sort_accepted : (s : State) (a b : ℕ) (names : List Field) (falls : List Bool) → first_refusal s (Sort a b names falls) ≡ None → SortAccepted s a b names
sort_accepted s a b names falls e = by (each_of (place_in_trace s.fields) names) refl
  where
    there : AreTraces s.volume a b (sort_refusal s.volume a b (each_of (place_in_trace s.fields) names))
    there = are_traces s.volume a b (sort_refusal s.volume a b (each_of (place_in_trace s.fields) names)) e

    with_places : (places : List Place) (t : Option (List (ℕ × List ℤ))) → each_of (place_in_trace s.fields) names ≡ Some places → table_of s.volume places a b ≡ t → SortAccepted s a b names
    with_places places None f g = let no : Some refusals.NoPlace ≡ None = rw (f, g) at there.none in absurd cc
    with_places places (Some rows) f g = record { low = there.low; high = there.high; last = there.last; places = places; found = f; rows = rows; table = g }

    by : (o : Option (List Place)) → each_of (place_in_trace s.fields) names ≡ o → SortAccepted s a b names
    by None f = let no : Some refusals.NoField ≡ None = rw f at there.none in absurd cc
    by (Some places) f = with_places places (table_of s.volume places a b) f refl

-- the edit is done where the traces stand in that order
pub sort_done : (s : State) (a b : ℕ) (names : List Field) (falls : List Bool) (w : Volume) → IsCut (bytes_of s.volume) s.reading s.limits s.volume → (c : SortAccepted s a b names)
    → w ≡ with_order s.volume a b (map (λ row. row.0) (in_order falls c.rows)) → IsAfter s (Sort a b names falls) (record s { volume = w })
sort_done s a b names falls w cut c is =
    let order : List ℕ = map (λ row. row.0) (in_order falls c.rows) in
    let same = ordered-permutes s.volume c.places falls a b c.rows c.table in
    let sorted = cut_sorted s.volume a b order c.low c.high c.last same s.reading s.limits cut in
    record {
      volume = rw (c.found, c.table) (subst (λ (u : Volume). IsCut (with_traces_as s.volume a b order) s.reading s.limits u) (sym is) sorted);
      fields = refl;
      reading = refl;
      limits = refl;
      on_disk = refl;
    }
