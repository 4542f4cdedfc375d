use Rattle.std.proofs.Common.{◌≡◌, ◌++◌, [], ◌∷◌, ◌∙◌, ◌≤◌, ◌^◌, ◌+◌, ◌+ℤ◌, ℤ, SFits, List, arith, rules, subst, sym}
use Rattle.std.specs.Int.{w128}
use Rattle.std.proofs.lemmas.Int.{to_z-of_z}
use Rattle.std.proofs.lemmas.List.{append_assoc}
use Rattle.trace_record.specs.declared.record.Record.{Record}
use Rattle.range_stats.proofs.CountedLemmas.{ends_counted-behind, ends_have_room}
use Rattle.range_stats.proofs.SumLemmas.{AreOfFront, one_trace_more, sum_fits, sum_of_bits, number_of, none_left}
use Rattle.range_stats.proofs.end_counts.raise_each.Goals as goal

pub raise_ends-requires-clause-least : goal.raise_ends-requires-clause-least
raise_ends-requires-clause-least c = ends_have_room (λ a. a.least) _ c.loop-trace.yielded _ c.args.records.now c.loop-trace.invariant.0 c.loop-trace.invariant.1 c.requires.few

pub raise_ends-requires-clause-greatest : goal.raise_ends-requires-clause-greatest
raise_ends-requires-clause-greatest c = ends_have_room (λ a. a.greatest) _ c.loop-trace.yielded _ c.args.records.now c.loop-trace.invariant.0 c.loop-trace.invariant.2 c.requires.few

pub overflow_add-sums : goal.overflow_add-sums
overflow_add-sums c =
    let few : number_of c.args.records.now ≤ 2 ^ 41 = c.requires.small.number in
    let h = one_trace_more _ _ c.in-Some.trace c.next.new.self _ (subst (λ (l : List Record). AreOfFront c.loop-trace.sums.number c.loop-trace.sums.sum l c.args.records.now) c.in-Some.ensures.steps c.loop-trace.invariant.3) in
    let number = h.number in
    let own = c.of-values.ensures.number in
    omega arith

pub overflow_add-sums-in-loop-trace : goal.overflow_add-sums-in-loop-trace
overflow_add-sums-in-loop-trace c =
    let few : number_of c.args.records.now ≤ 2 ^ 41 = c.requires.small.number in
    let h = one_trace_more _ _ c.in-Some.trace c.next.new.self _ (subst (λ (l : List Record). AreOfFront c.loop-trace.sums.number c.loop-trace.sums.sum l c.args.records.now) c.in-Some.ensures.steps c.loop-trace.invariant.3) in
    let sum : SFits w128 c.loop-trace.sums.sum = search rules in
    let own : SFits w128 c.of-values.result.sum = search rules in
    rw (to_z-of_z w128 c.loop-trace.sums.sum sum, to_z-of_z w128 c.of-values.result.sum own, c.of-values.ensures.sum) (sum_fits _ _ _ _ h few)

pub loop-trace-preserved : goal.loop-trace-preserved
loop-trace-preserved c =
    let few : number_of c.args.records.now ≤ 2 ^ 41 = c.requires.small.number in
    let h = one_trace_more _ _ c.in-Some.trace c.next.new.self _ (subst (λ (l : List Record). AreOfFront c.loop-trace.sums.number c.loop-trace.sums.sum l c.args.records.now) c.in-Some.ensures.steps c.loop-trace.invariant.3) in
    let v = c.of-values.result in
    let more : AreOfFront (c.loop-trace.sums.number + v.number) (c.loop-trace.sums.sum +ℤ v.sum) c.next.new.self c.args.records.now = rw (c.of-values.ensures.number, c.of-values.ensures.sum) h in
    let sum : SFits w128 c.loop-trace.sums.sum = search rules in
    let own : SFits w128 v.sum = search rules in
    let parts = subst (λ (l : List Record). c.loop-trace.yielded ++ l ≡ c.args.records.now) c.in-Some.ensures.steps c.loop-trace.invariant.0 in (
      append_assoc c.loop-trace.yielded (c.in-Some.trace ∷ []) c.next.new.self ∙ parts,
      ends_counted-behind (λ a. a.least) _ _ c.loop-trace.yielded c.in-Some.trace c.loop-trace.invariant.1 c.in_ok-raise_ends.ensures.least,
      ends_counted-behind (λ a. a.greatest) _ _ c.loop-trace.yielded c.in-Some.trace c.loop-trace.invariant.2 c.in_ok-raise_ends.ensures.greatest,
      subst (λ (s : ℤ). AreOfFront (c.loop-trace.sums.number + v.number) s c.next.new.self c.args.records.now) (sym (sum_of_bits _ _ sum own (sum_fits _ _ _ _ more few))) more,
      grind arith,
    )

pub returns-clause-number : goal.returns-clause-number
returns-clause-number c = (none_left _ _ _ (subst (λ (l : List Record). AreOfFront c.loop-trace.sums.number c.loop-trace.sums.sum l c.args.records.now) c.in-None.ensures.steps.0 c.loop-trace.invariant.3)).0

pub returns-clause-sum : goal.returns-clause-sum
returns-clause-sum c = (none_left _ _ _ (subst (λ (l : List Record). AreOfFront c.loop-trace.sums.number c.loop-trace.sums.sum l c.args.records.now) c.in-None.ensures.steps.0 c.loop-trace.invariant.3)).1
