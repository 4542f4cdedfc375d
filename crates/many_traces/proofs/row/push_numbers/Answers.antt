use Rattle.std.proofs.Common.{◌≡◌, ◌∙◌, ◌++◌, ◌∷◌, [], ◌+◌, drop, ℤ, List, Option, ap, sym, arith, rules}
use Rattle.std.specs.Prelude.{option_map}
use Rattle.std.proofs.lemmas.Int.{to_z-of_z}
use Rattle.std.specs.Int.{w128}
use mir.Val.{SFits}
use Rattle.bench_rules.specs.ManyTraces.{each_of}
use Rattle.field_map.specs.declared.place.Place.{Place}
use Rattle.trace_view.specs.Shown.{bytes_of, head_of}
use Rattle.trace_view.specs.Values.{value_of}
use Rattle.bench_rules.specs.Tables.{row_of}
use Rattle.bench_rules.proofs.EachLemmas.{list_goes_on, list_stops, list_ends, something, nothing}
use Rattle.many_traces.proofs.row.push_numbers.Goals as goal

pub returns-in_default-clause-there : goal.returns-in_default-clause-there
returns-in_default-clause-there c =
    let f : Place → Option ℤ = λ place. value_of (head_of c.args.trace.now) (bytes_of c.args.trace.now) place in
    nothing (row_of (head_of c.args.trace.now) c.args.places.now (bytes_of c.args.trace.now))
    (list_stops f _ c.args.numbers.now.items c.loop-place.numbers.items c.args.places.now c.loop-place.place-index _ c.loop-place-test.true (sym c.value.ensures ∙ c.in_default.is) c.loop-place.invariant.row)

pub loop-place-preserved : goal.loop-place-preserved
loop-place-preserved c =
    let f : Place → Option ℤ = λ place. value_of (head_of c.args.trace.now) (bytes_of c.args.trace.now) place in
    let fits : SFits w128 c.in-Some.number = search rules in
    let pushed : c.push.new.self.items ≡ c.loop-place.numbers.items ++ c.in-Some.number ∷ [] = rw (sym (to_z-of_z w128 c.in-Some.number fits)) c.in-Ok.ensures.items in
    record {
      row = list_goes_on f _ c.loop-place.numbers.items c.args.places.now c.loop-place.place-index _ c.in-Some.number c.loop-place-test.true (sym c.value.ensures ∙ c.in-Some.is) c.loop-place.invariant.row
          ∙ ap (λ (xs : List ℤ). option_map (λ row. xs ++ row) (each_of f (drop (c.loop-place.place-index + 1) c.args.places.now))) (sym pushed);
      room = search rules;
      count = search rules;
      more = search rules;
    }

pub returns-clause-there : goal.returns-clause-there
returns-clause-there c =
    let f : Place → Option ℤ = λ place. value_of (head_of c.args.trace.now) (bytes_of c.args.trace.now) place in
    something c.args.numbers.now.items c.loop-place.numbers.items (row_of (head_of c.args.trace.now) c.args.places.now (bytes_of c.args.trace.now))
    (list_ends f _ c.loop-place.numbers.items c.args.places.now c.loop-place.place-index (omega (arith, c.loop-place-test.false)) c.loop-place.invariant.row)
