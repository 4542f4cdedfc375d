-- What holds of edits of chosen traces.
use Rattle.std.specs.Prelude.{◌≡◌, ℕ, ℤ, ◌==◌, true, false, not, List, [], map, filter, reverse, Option, Some, None, Result, Ok}
use Rattle.std.specs.List.{list_any}
use Rattle.field_map.specs.declared.place.Place.{Place}
use Rattle.frame_cut.specs.Cuts.{IsCut}
use Rattle.frame_cut.specs.Traces.{count_of, trace_at}
use Rattle.frame_cut.specs.Volume.{Volume, bytes_of}
use Rattle.bench_rules.specs.declared.chosen.Chosen.{Chosen}
use Rattle.bench_rules.specs.declared.chosen_edit.ChosenEdit.{ChosenEdit}
use Rattle.bench_rules.specs.declared.chosen_edit.ChosenEdit.TheVariants as each
use Rattle.bench_rules.specs.declared.edit.Edit.{Edit}
use Rattle.bench_rules.specs.declared.edit.Edit.TheVariants.{Set, Patch, Delete, OfChosen}
use Rattle.bench_rules.specs.declared.field.Field.TheVariants as field
use Rattle.bench_rules.specs.declared.refusal.Refusal.{Refusal}
use Rattle.bench_rules.specs.After.{bytes_after}
use Rattle.bench_rules.specs.ChosenEdits.{count_told, has_fields, refusal_of_edit, sets_of}
use Rattle.bench_rules.specs.Conditions.{chosen, is_empty}
use Rattle.bench_rules.specs.FilledSamples.{range_values}
use Rattle.bench_rules.specs.ManyTraces.{positions}
use Rattle.bench_rules.specs.RangeRefusals.{range_refusal}
use Rattle.bench_rules.specs.Refused.{first_refusal}
use Rattle.bench_rules.specs.State.{State}
use Rattle.bench_rules.specs.Steps.{IsAfter, Steps}

-- one reply for each of these, that it was done
abbrev pub done_each : {X : Type 0} → List X → List (Result (Option ℕ) Refusal)
done_each xs = map (λ x. Ok None) xs

-- ---- no trace

-- an edit of no trace: where its range is there and its fields have places, what it refuses of no trace is its first refusal; the bytes
-- after it are those before; where the file is cut, the state after it is that before; and where there is a condition the number that it
-- tells is 0
pub record ChangesNothing (s : State) (c : Chosen) (edit : ChosenEdit) : Type 0 where
  pub refusal : range_refusal s.volume c.traces ≡ None → has_fields s.fields edit ≡ true → first_refusal s (OfChosen c edit) ≡ refusal_of_edit s.volume s.fields edit []
  pub bytes : bytes_after s (OfChosen c edit) ≡ bytes_of s.volume
  pub state : IsCut (bytes_of s.volume) s.reading s.limits s.volume → (new : State) → IsAfter s (OfChosen c edit) new → new ≡ s
  pub told : is_empty c.conditions ≡ false → count_told s.volume s.fields c ≡ Some 0

-- an edit changes nothing where no trace is chosen
abbrev pub NoneChosenChangesNothing : Type 0
NoneChosenChangesNothing = (s : State) (c : Chosen) (edit : ChosenEdit) → chosen s.volume s.fields c ≡ Some [] → ChangesNothing s c edit

-- ---- numbers of one field

-- each trace's number as a set of the place
abbrev pub sets_at : Place → List (ℕ × ℤ) → List Edit
sets_at place ns = map (λ n. Set n.0 (field.Place place) n.1) ns

-- an edit that gives chosen traces numbers is what the sets of these make, one after another, each of them done
abbrev pub ChosenNumbersAreTheirSets : Type 0
ChosenNumbersAreTheirSets = (s : State) (c : Chosen) (edit : ChosenEdit) (ps : List ℕ) (place : Place) (ns : List (ℕ × ℤ))
    → IsCut (bytes_of s.volume) s.reading s.limits s.volume → first_refusal s (OfChosen c edit) ≡ None
    → chosen s.volume s.fields c ≡ Some ps → sets_of s.volume s.fields edit ps ≡ Some (place, ns)
    → (new : State) × Steps s (sets_at place ns) (done_each ns) new × IsAfter s (OfChosen c edit) new

-- ---- traces taken out

-- the traces at the positions that are none of these, in their order
abbrev pub others : Volume → List ℕ → List (List ℕ)
others v ps = map (trace_at v) (filter (λ p. not (list_any (λ q. q == p) ps)) (positions 1 (count_of v)))

-- after a delete of chosen traces the volume that is read from the new bytes has the others, untouched, and all else as it was
abbrev pub ChosenDeleteLeavesTheOthers : Type 0
ChosenDeleteLeavesTheOthers = (s : State) (c : Chosen) (ps : List ℕ) (v : Volume)
    → IsCut (bytes_of s.volume) s.reading s.limits s.volume → first_refusal s (OfChosen c each.Delete) ≡ None → chosen s.volume s.fields c ≡ Some ps
    → IsCut (bytes_after s (OfChosen c each.Delete)) s.reading s.limits v
    → v ≡ record s.volume { traces = others s.volume ps }

-- the deletes of the traces at these positions, that of the last one first
abbrev pub deletes_of : List ℕ → List Edit
deletes_of ps = map (λ p. Delete p) (reverse ps)

-- a delete of chosen traces is what the deletes of each of them make, from the last to the first, each of them done
abbrev pub ChosenDeleteIsItsDeletes : Type 0
ChosenDeleteIsItsDeletes = (s : State) (c : Chosen) (ps : List ℕ)
    → IsCut (bytes_of s.volume) s.reading s.limits s.volume → first_refusal s (OfChosen c each.Delete) ≡ None → chosen s.volume s.fields c ≡ Some ps
    → (new : State) × Steps s (deletes_of ps) (done_each ps) new × IsAfter s (OfChosen c each.Delete) new

-- ---- one value in many samples

-- the value in the samples of each of these traces from the first to the last, as a patch of each
abbrev pub patches_of : (first last : ℕ) → ℤ → List ℕ → List Edit
patches_of first last x ps = map (λ p. Patch p first (range_values first last x)) ps

-- a fill of chosen traces is what the patches of each of them make, one after another, each of them done
abbrev pub FillIsItsPatches : Type 0
FillIsItsPatches = (s : State) (c : Chosen) (first last : ℕ) (x : ℤ) (ps : List ℕ)
    → IsCut (bytes_of s.volume) s.reading s.limits s.volume → first_refusal s (OfChosen c (each.Fill first last x)) ≡ None → chosen s.volume s.fields c ≡ Some ps
    → (new : State) × Steps s (patches_of first last x ps) (done_each ps) new × IsAfter s (OfChosen c (each.Fill first last x)) new
