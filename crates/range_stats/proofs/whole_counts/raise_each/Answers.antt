use Rattle.std.proofs.Common.{◌≡◌, ◌∙◌, ◌+◌, arith, ℕ, ℤ, ap₂, rules, subst, sym, List, [], ◌∷◌, ◌++◌, if◌then◌else◌, SFits}
use Rattle.std.proofs.lemmas.Int.{to_z-of_z}
use Rattle.std.proofs.lemmas.List.{append_assoc}
use Rattle.std.specs.Int.{w32}
use Rattle.std.specs.Ordering.{is_eq, int_cmp}
use Rattle.trace_record.specs.declared.record.Record.{Record}
use Rattle.range_stats.specs.Whole.{whole_in}
use Rattle.range_stats.proofs.WholeLemmas.{times-behind}
use Rattle.range_stats.proofs.whole_counts.raise_each.Goals as goal

pub loop-trace-preserved : goal.loop-trace-preserved
loop-trace-preserved c =
    let parts = subst (λ (l : List Record). c.loop-trace.yielded ++ l ≡ c.args.records.now) c.in-Some.ensures.steps c.loop-trace.invariant.0 in
    let fits : SFits w32 c.of.result = search rules in (
      append_assoc c.loop-trace.yielded (c.in-Some.trace ∷ []) c.next.new.self ∙ parts,
      λ q.
          c.in_ok-raise.ensures.ok q
          ∙ ap₂ (λ (m : ℕ) (v : ℤ). m + (if is_eq (int_cmp v q) then 1 else 0)) (c.loop-trace.invariant.1 q) (to_z-of_z w32 c.of.result fits ∙ c.of.ensures)
          ∙ sym (times-behind (whole_in c.args.which) c.loop-trace.yielded c.in-Some.trace q),
      grind arith,
    )
