-- An edit of no trace.
use Rattle.std.proofs.Common.{◌≡◌, ℕ, Bool, false, List, [], length, Option, Some, None, refl, ap, subst, ◌∙◌}
use Rattle.std.specs.Prelude.{option_map, if◌then◌else◌}
use Rattle.std.specs.Option.{option_map_or}
use Rattle.field_map.specs.declared.place.Place.{Place}
use Rattle.field_map.specs.Pairs.{Pairs}
use Rattle.frame_cut.specs.declared.limits.Limits.{Limits}
use Rattle.frame_cut.specs.declared.reading.Reading.{Reading}
use Rattle.frame_cut.specs.Cuts.{IsCut}
use Rattle.frame_cut.specs.Volume.{Volume, bytes_of}
use Rattle.frame_cut.proofs.OneCutLemmas.{at_most_one_cut}
use Rattle.bench_rules.specs.declared.chosen_edit.ChosenEdit.{ChosenEdit}
use Rattle.bench_rules.specs.declared.chosen_edit.ChosenEdit.TheVariants.{Nothing, Renumber, Compute, Delete, Swap, Fill}
use Rattle.bench_rules.specs.declared.edit.Edit.{Edit}
use Rattle.bench_rules.specs.declared.edit.Edit.TheVariants.{OfChosen}
use Rattle.bench_rules.specs.After.{bytes_after, fields_after}
use Rattle.bench_rules.specs.ChosenEdits.{bytes_after_each, bytes_with}
use Rattle.bench_rules.specs.Computed.{formula_of}
use Rattle.bench_rules.specs.Conditions.{chosen, is_empty}
use Rattle.bench_rules.specs.Places.{place_in_trace}
use Rattle.bench_rules.specs.State.{State}
use Rattle.bench_rules.specs.Steps.{IsAfter}
use Rattle.bench_rules.specs.SwappedFields.{two_places}
use Rattle.bench_rules.proofs.ChosenLemmas.{chosen_first}
use Rattle.chosen_laws.specs.EditLaws.{NoneChosenChangesNothing}
use Rattle.chosen_laws.proofs.StepLemmas.{bytes_of_chosen}

-- no value stands over a place
no_values : {X : Type 0} (v : Volume) (place : X → Place) (o : Option X) → bytes_with v (option_map (λ x. (place x, [])) o) ≡ bytes_of v
no_values v place None = refl
no_values v place (Some x) = refl

no_bytes : (v : Volume) (fields : Pairs) (edit : ChosenEdit) → bytes_after_each v fields edit [] ≡ bytes_of v
no_bytes v fields (Nothing names) = refl
no_bytes v fields (Renumber field first step) = no_values v (λ place. place) (place_in_trace fields field)
no_bytes v fields (Compute field source steps) = no_values v (λ f. f.place) (formula_of fields field source steps)
no_bytes v fields Delete = refl
no_bytes v fields (Swap first second) = by (two_places fields first second)
  where
    by : (o : Option (Place × Place)) → option_map_or (λ places. bytes_of v) o (bytes_of v) ≡ bytes_of v
    by None = refl
    by (Some places) = refl
no_bytes v fields (Fill first last x) = refl

told-by : (empty : Bool) (o : Option (List ℕ)) → empty ≡ false → o ≡ Some [] → (if empty then None else option_map (λ ps. length ps) o) ≡ Some 0
told-by empty o e f = rw (e, f) refl

-- a state with the bytes and the field map of before is that of before
unchanged : (s new : State) (edit : Edit) → IsCut (bytes_of s.volume) s.reading s.limits s.volume → bytes_after s edit ≡ bytes_of s.volume → fields_after s.fields edit ≡ s.fields → IsAfter s edit new → new ≡ s
unchanged s new edit cut bytes fields after =
    let again : IsCut (bytes_of s.volume) s.reading s.limits new.volume = subst (λ (file : List ℕ). IsCut file s.reading s.limits new.volume) bytes after.volume in
    let volume : new.volume ≡ s.volume = at_most_one_cut (bytes_of s.volume) s.reading s.limits new.volume s.volume again cut in
    ap (λ (v : Volume). let u : State = record new { volume = v } in u) volume
    ∙ ap (λ (fs : Pairs). let u : State = record new { volume = s.volume; fields = fs } in u) (after.fields ∙ fields)
    ∙ ap (λ (r : Reading). let u : State = record s { reading = r; limits = new.limits; on_disk = new.on_disk } in u) after.reading
    ∙ ap (λ (l : Limits). let u : State = record s { limits = l; on_disk = new.on_disk } in u) after.limits
    ∙ ap (λ (d : Bool). let u : State = record s { on_disk = d } in u) after.on_disk

pub none_chosen_changes_nothing : NoneChosenChangesNothing
none_chosen_changes_nothing s c edit e =
    let same : bytes_after s (OfChosen c edit) ≡ bytes_of s.volume = bytes_of_chosen s c edit [] e ∙ no_bytes s.volume s.fields edit in
    record {
      refusal = λ free has. chosen_first s c edit [] free has e;
      bytes = same;
      state = λ cut new after. unchanged s new (OfChosen c edit) cut same refl after;
      told = λ some. told-by (is_empty c.conditions) (chosen s.volume s.fields c) some e;
    }
