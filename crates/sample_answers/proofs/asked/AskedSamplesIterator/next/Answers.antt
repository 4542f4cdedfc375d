use Rattle.std.proofs.Common.{rules, arith, ◌≡◌, ◌∙◌, ◌+◌, ◌≤◌, ◌∷◌, [], ℕ, true, Some, None, SFits, ap, sym, subst}
use Rattle.std.specs.Prelude.{max}
use Rattle.std.specs.Int.{w128}
use Rattle.std.proofs.lemmas.Int.{to_z-of_z}
use Rattle.trace_view.specs.Shown.{bytes_of, head_of}
use Rattle.trace_view.specs.Values.{sample_of}
use Rattle.bench_rules.specs.Sections.{is_stepped}
use Rattle.sample_answers.specs.Asked.{samples_behind}
use Rattle.sample_answers.proofs.AskedLemmas.{next_left, next_stepped, none_left}
use Rattle.sample_answers.proofs.asked.AskedSamplesIterator.next.Goals as goal

pub returns-in_err-sample-clause-steps : goal.returns-in_err-sample-clause-steps
returns-in_err-sample-clause-steps c =
    let i = c.self.inside in
    let none : sample_of (head_of i.trace) (bytes_of i.trace) i.next ≡ None = sym c.sample_of_trace.ensures ∙ c.in_err-sample.was in
    let empty : c.args.self.now ≡ [] = sym c.self.view_is ∙ none_left (head_of i.trace) (bytes_of i.trace) i.range i.next none in
    let ends : c.from_residual.result ≡ None = search rules in
    rw ends (empty, empty)

pub invariant_of-self : goal.invariant_of-self
invariant_of-self c =
    let i = c.self.inside in
    let step : c.from-2.result ≡ max 1 i.range.step = omega (arith, c.from-2.ensures, c.max.ensures) in
    record {
      behind = omega (arith, c.self.invariant.behind);
      stepped = subst (λ (n : ℕ). is_stepped i.range (i.next + n) ≡ true) (sym step) (next_stepped i.range i.next c.self.invariant.behind c.self.invariant.stepped);
      plain = c.self.invariant.plain;
    }

pub returns-clause-steps : goal.returns-clause-steps
returns-clause-steps c =
    let i = c.self.inside in
    let fit : SFits w128 c.in_ok-sample.sample = search rules in
    let step : c.from-2.result ≡ max 1 i.range.step = omega (arith, c.from-2.ensures, c.max.ensures) in
    let within : i.next ≤ i.range.to = omega (arith, c.if-self-from.false, c.from.ensures) in
    let is : sample_of (head_of i.trace) (bytes_of i.trace) i.next ≡ Some c.in_ok-sample.sample = sym c.sample_of_trace.ensures ∙ c.in_ok-sample.was in
    rw (to_z-of_z w128 c.in_ok-sample.sample fit)
    (sym c.self.view_is
    ∙ next_left (head_of i.trace) (bytes_of i.trace) i.range i.next c.in_ok-sample.sample c.self.invariant.behind c.self.invariant.stepped within is
    ∙ ap (λ (n : ℕ). c.in_ok-sample.sample ∷ samples_behind (head_of i.trace) i.range (i.next + n) (bytes_of i.trace)) (sym step))

pub returns-clause-goes : goal.returns-clause-goes
returns-clause-goes c =
    let i = c.self.inside in
    let step : c.from-2.result ≡ max 1 i.range.step = omega (arith, c.from-2.ensures, c.max.ensures) in
    let within : i.next ≤ i.range.to = omega (arith, c.if-self-from.false, c.from.ensures) in
    let is : sample_of (head_of i.trace) (bytes_of i.trace) i.next ≡ Some c.in_ok-sample.sample = sym c.sample_of_trace.ensures ∙ c.in_ok-sample.was in
    let all : c.args.self.now ≡ c.in_ok-sample.sample ∷ samples_behind (head_of i.trace) i.range (i.next + c.from-2.result) (bytes_of i.trace) =
    sym c.self.view_is
    ∙ next_left (head_of i.trace) (bytes_of i.trace) i.range i.next c.in_ok-sample.sample c.self.invariant.behind c.self.invariant.stepped within is
    ∙ ap (λ (n : ℕ). c.in_ok-sample.sample ∷ samples_behind (head_of i.trace) i.range (i.next + n) (bytes_of i.trace)) (sym step) in
    rw all (search rules)
