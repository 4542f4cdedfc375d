use Rattle.std.proofs.Common.{◌≡◌, ◌∙◌, arith, subst, rules, SFits, List, [], ◌∷◌, ◌++◌}
use Rattle.std.proofs.lemmas.Int.{to_z-of_z}
use Rattle.std.specs.Int.{w32}
use Rattle.std.proofs.lemmas.List.{append_assoc}
use Rattle.trace_record.specs.declared.record.Record.{Record}
use Rattle.range_stats.specs.declared.whole_counts.WholeQuantity.TheVariants.{Inline, Crossline, Offset}
use Rattle.range_stats.proofs.WholeLemmas.{counted-behind}
use Rattle.range_stats.proofs.whole_counts.raise_three.Goals as goal

pub loop-trace-preserved : goal.loop-trace-preserved
loop-trace-preserved c =
    let parts = subst (λ (l : List Record). c.loop-trace.yielded ++ l ≡ c.args.records.now) c.in-Some.ensures.steps c.loop-trace.invariant.0 in
    let inline : SFits w32 c.in-Some.trace.inline = search rules in
    let crossline : SFits w32 c.in-Some.trace.crossline = search rules in
    let offset : SFits w32 c.in-Some.trace.offset = search rules in (
      append_assoc c.loop-trace.yielded (c.in-Some.trace ∷ []) c.next.new.self ∙ parts,
      counted-behind Inline _ _ _ c.loop-trace.yielded c.in-Some.trace c.loop-trace.invariant.1 c.in_ok-raise.ensures.ok (to_z-of_z w32 _ inline),
      counted-behind Crossline _ _ _ c.loop-trace.yielded c.in-Some.trace c.loop-trace.invariant.2 c.in_ok-raise-2.ensures.ok (to_z-of_z w32 _ crossline),
      counted-behind Offset _ _ _ c.loop-trace.yielded c.in-Some.trace c.loop-trace.invariant.3 c.in_ok-raise-3.ensures.ok (to_z-of_z w32 _ offset),
      grind arith,
    )
