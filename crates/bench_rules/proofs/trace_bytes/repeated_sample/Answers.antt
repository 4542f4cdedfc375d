use Rattle.std.proofs.Common.{◌≡◌, ◌∙◌, ◌++◌, List, ℕ, arith, ap₂, sym}
use Rattle.bench_rules.proofs.ValueLemmas.{one_more_repeated}
use Rattle.bench_rules.proofs.trace_bytes.repeated_sample.Goals as goal

pub loop-done-preserved : goal.loop-done-preserved
loop-done-preserved c = (
  (rw c.in_ok-told.ensures.ok at c.extend_from_slice.ensures.items)
      ∙ ap₂ (λ (all : List ℕ) (more : List ℕ). all ++ more) c.loop-done.invariant.0 c.encode.ensures
      ∙ sym (one_more_repeated c.args.order c.args.format _ c.loop-done._done),
  grind arith,
)
