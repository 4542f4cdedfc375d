use Rattle.std.proofs.Common.{◌≡◌, ◌∙◌, ◌+◌, ap, arith, subst, List, [], ◌∷◌, ◌++◌}
use Rattle.std.proofs.lemmas.List.{append_assoc}
use Rattle.trace_record.specs.declared.record.Record.{Record}
use Rattle.fault_live.proofs.CountedLemmas.{counted_behind}
use Rattle.fault_live.proofs.faults.Faults.count_each.Goals as goal

pub loop-trace-preserved : goal.loop-trace-preserved
loop-trace-preserved c =
    let parts = subst (λ (l : List Record). c.loop-trace.yielded ++ l ≡ c.args.records.now) c.in-Some.ensures.steps c.loop-trace.invariant.0 in
    let h = c.raise.new.self in (
      append_assoc c.loop-trace.yielded (c.in-Some.trace ∷ []) c.next.new.self ∙ parts,
      counted_behind c.loop-trace.self c.loop-trace.yielded c.in-Some.trace c.loop-trace.invariant.1 c.key_alone.result c.key_alone.ensures
          (record { records = h.records + 1; triples = h.triples }) (ap (λ n. n + 1) c.in_ok-raise.ensures.records) c.in_ok-raise.ensures.ok,
      grind arith,
    )
