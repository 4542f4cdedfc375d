use Rattle.std.proofs.Common.{◌≡◌, ◌+◌, ◌∙◌, ◌++◌, List, [], ◌∷◌, sym, ap, subst, refl, arith, length, map, append_assoc, length-append}
use Rattle.std.proofs.lemmas.List.{append-nil}
use Rattle.trace_record.specs.Facts.{facts_of}
use Rattle.trace_record.specs.declared.record.Record.{Record}
use Rattle.trace_groups.specs.Groups.{marks_of}
use Rattle.trace_groups.specs.OfTally.{IsTallyOf}
use Rattle.trace_groups.proofs.MarkLemmas.{record_behind, grouped, one_more}
use Rattle.trace_groups.proofs.suspect_groups.group_by.Goals as goal

pub loop-trace-init : goal.loop-trace-init
loop-trace-init g c = (c.into_iter-trace-iterator.ensures.into_iter_gives ∙ c.iter-trace-items.ensures, refl, c.new-tally.ensures.within, c.new-tally.ensures.tally, grind arith)

pub overflow_add-position : goal.overflow_add-position
overflow_add-position g c =
    let h = c.loop-trace.invariant in
    let more = one_more c.loop-trace.yielded c.in-Some.trace c.next.new.self c.args.records.now (ap (λ (l : List Record). c.loop-trace.yielded ++ l) (sym c.in-Some.ensures.steps) ∙ h.0) in
    omega (arith, h.1, c.requires)

pub push_any-requires-clause-traces : goal.push_any-requires-clause-traces
push_any-requires-clause-traces g c =
    let h = c.loop-trace.invariant in
    let more = one_more c.loop-trace.yielded c.in-Some.trace c.next.new.self c.args.records.now (ap (λ (l : List Record). c.loop-trace.yielded ++ l) (sym c.in-Some.ensures.steps) ∙ h.0) in
    omega (arith, h.2.0, c.requires)

pub push_any-requires-clause-runs : goal.push_any-requires-clause-runs
push_any-requires-clause-runs g c =
    let h = c.loop-trace.invariant in
    let more = one_more c.loop-trace.yielded c.in-Some.trace c.next.new.self c.args.records.now (ap (λ (l : List Record). c.loop-trace.yielded ++ l) (sym c.in-Some.ensures.steps) ∙ h.0) in
    omega (arith, h.2.1, c.requires)

pub loop-trace-preserved : goal.loop-trace-preserved
loop-trace-preserved g c =
    let h = c.loop-trace.invariant in
    let ys = c.loop-trace.yielded in
    let x = c.in-Some.trace in
    let count : length (ys ++ x ∷ []) ≡ length ys + 1 = length-append ys (x ∷ []) in (
      append_assoc ys (x ∷ []) c.next.new.self ∙ ap (λ (l : List Record). ys ++ l) (sym c.in-Some.ensures.steps) ∙ h.0,
      ap (λ n. n + 1) h.1 ∙ sym count,
      (let more = c.in_ok-push_any.ensures.within (length ys) h.2 in (omega (arith, count, more.0), omega (arith, count, more.1))),
      record_behind (g.S.Suspicion.facts c.args.suspicion.now) ys x c.loop-trace.position h.1 c.facts_in.result c.facts_in.ensures c.loop-trace.tally c.push_any.new.self c.in_ok-push_any.ensures.tally h.3,
      grind arith,
    )

pub finish-requires : goal.finish-requires
finish-requires g c =
    let h = c.loop-trace.invariant in
    let whole = length-append c.loop-trace.yielded c.loop-trace.trace-iterator in
    let same = ap length h.0 in
    omega (arith, h.2.1, c.requires, whole, same)

pub returns-clause-group : goal.returns-clause-group
returns-clause-group g c =
    let h = c.loop-trace.invariant in
    let all : c.loop-trace.yielded ≡ c.args.records.now = sym (append-nil c.loop-trace.yielded) ∙ ap (λ (l : List Record). c.loop-trace.yielded ++ l) (sym c.in-None.ensures.steps.0) ∙ h.0 in
    grouped c.finish.result c.args.problem c.loop-trace.tally (marks_of (g.S.Suspicion.facts c.args.suspicion.now) (map facts_of c.args.records.now))
    (subst (λ l. IsTallyOf (marks_of (g.S.Suspicion.facts c.args.suspicion.now) (map facts_of l)) c.loop-trace.tally) all h.3)
    c.finish.ensures.group
