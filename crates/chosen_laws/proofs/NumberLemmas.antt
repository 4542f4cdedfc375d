-- Numbers for one field of chosen traces are what the sets of them make.
use Rattle.std.proofs.Common.{◌≡◌, ℕ, ℤ, ◌+◌, List, [], ◌∷◌, Option, Some, None, refl, sym, ap, subst, arith}
use Rattle.field_map.specs.declared.place.Place.{Place}
use Rattle.frame_cut.specs.Cuts.{IsCut}
use Rattle.frame_cut.specs.Traces.{count_of}
use Rattle.frame_cut.specs.Volume.{Volume, bytes_of}
use Rattle.bench_rules.specs.declared.chosen_edit.ChosenEdit.{ChosenEdit}
use Rattle.bench_rules.specs.declared.chosen_edit.ChosenEdit.TheVariants.{Nothing, Renumber, Compute, Delete, Swap, Fill}
use Rattle.bench_rules.specs.declared.edit.Edit.TheVariants.{Set}
use Rattle.bench_rules.specs.declared.field.Field.TheVariants as field
use Rattle.bench_rules.specs.ChosenEdits.{bytes_after_each, bytes_with, computed_each, counted_each, refusal_of_edit, sets_of}
use Rattle.bench_rules.specs.Computed.{Formula, compute_refusal, first_at, formula_of}
use Rattle.bench_rules.specs.Conditions.{AreRising}
use Rattle.bench_rules.specs.Places.{place_in_trace}
use Rattle.bench_rules.specs.Refused.{first_refusal_among}
use Rattle.bench_rules.specs.State.{State}
use Rattle.bench_rules.specs.Steps.{Steps}
use Rattle.bench_rules.specs.TraceEdits.{put_each}
use Rattle.bench_rules.proofs.ChosenLemmas.{chosen_accepted, computed_listed, counted_listed}
use Rattle.bench_rules.proofs.ListedLemmas.{AreListed, listed_cut, with_listed}
use Rattle.bench_rules.proofs.ManyValueLemmas.{IsAlike, IsRead, alike_first, one_value, with_one, with_traces}
use Rattle.bench_rules.proofs.SetLemmas.{not_refused}
use Rattle.chosen_laws.specs.EditLaws.{ChosenNumbersAreTheirSets, done_each, sets_at}
use Rattle.chosen_laws.proofs.StepLemmas.{accepted_traces, chosen_after, step_done}

-- ---- one set after another

steps_from : (s : State) (place : Place) (k : ℕ) (ns : List (ℕ × ℤ)) (ts : List (List ℕ)) → IsAlike s.volume.traces ts k → IsRead (with_traces s ts) → AreListed s.volume place k ns
    → Steps (with_traces s ts) (sets_at place ns) (done_each ns) (with_traces s (with_listed s.volume.head place ns ts))
steps_from s place k [] ts a cut ok = refl
steps_from s place k (n ∷ ns) ts a cut ok =
    let later : IsAlike s.volume.traces ts n.0 = record { count = a.count; starts = a.starts; ahead = λ q le. a.ahead q (omega (arith, ok.0, le)) } in
    let one = one_value s ts n.0 place n.1 later cut ok.1 in
    let old : State = with_traces s ts in
    let mid : State = with_traces s (with_one s.volume.head ts n.0 place n.1) in
    (mid, step_done old mid (Set n.0 (field.Place place) n.1) (not_refused old n.0 place n.1 one.accepted) one.after, steps_from s place (n.0 + 1) ns (with_one s.volume.head ts n.0 place n.1) one.alike one.read ok.2)

-- ---- the numbers

-- they are accepted, and stand in the bytes after the edit
record AreAccepted (s : State) (edit : ChosenEdit) (ps : List ℕ) (place : Place) (ns : List (ℕ × ℤ)) : Type 0 where
  pub listed : AreListed s.volume place 1 ns
  pub bytes : bytes_after_each s.volume s.fields edit ps ≡ put_each s.volume place ns (bytes_of s.volume)

some-same : {X : Type 0} {x y : X} → (let o : Option X = Some x in o) ≡ Some y → x ≡ y
some-same e = cc

same_sets : {place other : Place} {ns ms : List (ℕ × ℤ)} → (let o : Option (Place × List (ℕ × ℤ)) = Some (place, ns) in o) ≡ Some (other, ms) → (place ≡ other) × (ns ≡ ms)
same_sets e = (ap (λ (p : Place × List (ℕ × ℤ)). p.0) (some-same e), ap (λ (p : Place × List (ℕ × ℤ)). p.1) (some-same e))

moved : (v : Volume) {place other : Place} {ns ms : List (ℕ × ℤ)} → place ≡ other → ns ≡ ms → AreListed v place 1 ns → AreListed v other 1 ms
moved v {place} {other} {ns} {ms} e f listed = subst (AreListed v other 1) f (subst (λ (p : Place). AreListed v p 1 ns) e listed)

numbers_accepted : (s : State) (edit : ChosenEdit) (ps : List ℕ) (place : Place) (ns : List (ℕ × ℤ)) → AreRising 1 (count_of s.volume) ps → refusal_of_edit s.volume s.fields edit ps ≡ None
    → sets_of s.volume s.fields edit ps ≡ Some (place, ns) → AreAccepted s edit ps place ns
numbers_accepted s (Nothing names) ps place ns up none e = absurd cc
numbers_accepted s (Renumber field first step) ps place ns up none e = by (place_in_trace s.fields field) refl
  where
    by : (o : Option Place) → place_in_trace s.fields field ≡ o → AreAccepted s (Renumber field first step) ps place ns
    by None f = let no : (let o : Option (Place × List (ℕ × ℤ)) = None in o) ≡ Some (place, ns) = rw f at e in absurd cc
    by (Some other) f =
        let sets : (let o : Option (Place × List (ℕ × ℤ)) = Some (other, counted_each first step 0 ps) in o) ≡ Some (place, ns) = rw f at e in
        let same = same_sets sets in
        let free : first_refusal_among s.volume (Some other) (counted_each first step 0 ps) ≡ None = rw f at none in
        let listed : AreListed s.volume other 1 (counted_each first step 0 ps) = counted_listed s other first step 0 1 ps (omega arith) up free in
        record { listed = moved s.volume same.0 same.1 listed; bytes = ap (bytes_with s.volume) e }
numbers_accepted s (Compute field source steps) ps place ns up none e = by (formula_of s.fields field source steps) refl
  where
    by : (o : Option Formula) → formula_of s.fields field source steps ≡ o → AreAccepted s (Compute field source steps) ps place ns
    by None f = let no : (let o : Option (Place × List (ℕ × ℤ)) = None in o) ≡ Some (place, ns) = rw f at e in absurd cc
    by (Some formula) f =
        let sets : (let o : Option (Place × List (ℕ × ℤ)) = Some (formula.place, computed_each s.volume formula ps) in o) ≡ Some (place, ns) = rw f at e in
        let same = same_sets sets in
        let free : first_at (compute_refusal s.volume formula) ps ≡ None = rw f at none in
        let c = computed_listed s formula 1 ps (omega arith) up free in
        let listed : AreListed s.volume formula.place 1 (computed_each s.volume formula ps) = subst (AreListed s.volume formula.place 1) (sym c.numbers) c.listed in
        record { listed = moved s.volume same.0 same.1 listed; bytes = ap (bytes_with s.volume) e }
numbers_accepted s Delete ps place ns up none e = absurd cc
numbers_accepted s (Swap first second) ps place ns up none e = absurd cc
numbers_accepted s (Fill first last x) ps place ns up none e = absurd cc

pub chosen_numbers_are_their_sets : ChosenNumbersAreTheirSets
chosen_numbers_are_their_sets s c edit ps place ns cut first e sets =
    let a = chosen_accepted s c edit first in
    let same : a.traces ≡ ps = accepted_traces s c edit ps a e in
    let ok = numbers_accepted s edit ps place ns (subst (AreRising 1 (count_of s.volume)) same a.rising) (subst (λ (qs : List ℕ). refusal_of_edit s.volume s.fields edit qs ≡ None) same a.none) sets in
    let new : List (List ℕ) = with_listed s.volume.head place ns s.volume.traces in
    let made : IsCut (bytes_after_each s.volume s.fields edit ps) s.reading s.limits (with_traces s new).volume =
    subst (λ (file : List ℕ). IsCut file s.reading s.limits (with_traces s new).volume) (sym ok.bytes) (listed_cut s place 1 ns cut ok.listed) in
    (with_traces s new, steps_from s place 1 ns s.volume.traces (alike_first s.volume.traces 1) cut ok.listed, chosen_after s c edit ps (with_traces s new).volume e made)
