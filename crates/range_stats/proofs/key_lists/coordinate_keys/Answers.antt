use Rattle.std.proofs.Common.{◌≡◌, ◌∙◌, arith, subst, List, [], ◌∷◌, ◌++◌}
use Rattle.std.proofs.lemmas.List.{append_assoc}
use Rattle.trace_record.specs.declared.record.Record.{Record}
use Rattle.range_stats.proofs.LoadLemmas.{coordinate-behind}
use Rattle.range_stats.proofs.key_lists.coordinate_keys.Goals as goal

pub loop-trace-preserved : goal.loop-trace-preserved
loop-trace-preserved c =
    let parts = subst (λ (l : List Record). c.loop-trace.yielded ++ l ≡ c.args.records.now) c.in-Some.ensures.steps c.loop-trace.invariant.0 in (
      append_assoc c.loop-trace.yielded (c.in-Some.trace ∷ []) c.next.new.self ∙ parts,
      coordinate-behind (λ r. r.x) c.loop-trace.yielded c.in-Some.trace _ _ _ c.loop-trace.invariant.1 (rw c.in_ok-told_back.ensures.ok at c.push.ensures.items) c.packed_x.ensures,
      coordinate-behind (λ r. r.y) c.loop-trace.yielded c.in-Some.trace _ _ _ c.loop-trace.invariant.2 (rw c.in_ok-told_back-2.ensures.ok at c.push-in-loop-trace.ensures.items) c.packed_y.ensures,
      grind arith,
    )
