use Rattle.std.proofs.Common.{◌≡◌, ◌∙◌, ◌++◌, ◌∷◌, [], ◌+◌, suc, List, map, take, get_or, ℕ, All, arith, ap, sym, subst}
use Rattle.std.proofs.Math.Seq.{take-suc}
use Rattle.std.proofs.lemmas.List.{map-append}
use Rattle.std.proofs.lemmas.List.Elements.{All-append, All-cons, All-nil}
use Rattle.bench_rules.specs.declared.problem_line.ProblemLine.{ProblemLine}
use Rattle.bench_rules.specs.declared.problem_line.ProblemLine.TheVariants.{Traces}
use Rattle.trace_groups.specs.declared.problem.TraceProblem.TheVariants.{Sequence}
use Rattle.shown_floats.specs.declared.float_answer.ShownProblem.{ShownProblem}
use Rattle.shown_floats.specs.Shows.{ShowsAny, rank_in}
use Rattle.shown_floats.proofs.problems.problems.Goals as goal

pub loop-line-preserved : goal.loop-line-preserved
loop-line-preserved c =
    let lines = c.args.lines.now in
    let i = c.loop-line.line-index in
    let none : ProblemLine = Traces Sequence 0 0 in
    let line : ProblemLine = get_or lines i none in
    let made : ShownProblem = record { line = line; word = c.word.result } in
    let items : c.push.new.self.items ≡ c.loop-line.shown.items ++ made ∷ [] = rw c.in_ok-told_back.ensures.ok at c.push.ensures.items in
    let more : i + 1 ≡ suc i = omega arith in
    let P = λ (p : ShownProblem). ShowsAny c.args.format (rank_in p.line) p.word in (
      (
        ap (map (λ (p : ShownProblem). p.line)) items
            ∙ map-append (λ (p : ShownProblem). p.line) c.loop-line.shown.items (made ∷ [])
            ∙ ap (λ (l : List ProblemLine). l ++ line ∷ []) c.loop-line.invariant.0.0
            ∙ sym (ap (λ (n : ℕ). take n lines) more ∙ take-suc lines i none c.loop-line-test.true),
        subst (All P) (sym items) (All-append P c.loop-line.shown.items (made ∷ []) c.loop-line.invariant.0.1 (All-cons P made [] c.word.ensures (All-nil P))),
      ),
      grind arith,
    )
