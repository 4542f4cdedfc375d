use Rattle.std.proofs.Common.{◌≡◌, ◌≤◌, ◌^◌, ℤ, List, All, length, true, arith, sym, subst}
use Rattle.num_order.specs.Number.{is_between}
use Rattle.trace_view.specs.Shown.{bytes_of, head_of}
use Rattle.bench_rules.proofs.FloatLemmas.{samples_are_ranks, few_samples}
use Rattle.bench_rules.proofs.samples.statistics_of_floats.Goals as goal

pub float_sum-requires-clause-few : goal.float_sum-requires-clause-few
float_sum-requires-clause-few c =
    let h = head_of c.args.trace.now in
    let t = bytes_of c.args.trace.now in
    subst (λ (l : List ℤ). length l ≤ 2 ^ 32) (sym c.samples.ensures) (few_samples h t (2 ^ 32) (omega (arith, c.sample_count-count.ensures)))

pub float_sum-requires-clause-ranks : goal.float_sum-requires-clause-ranks
float_sum-requires-clause-ranks c =
    let h = head_of c.args.trace.now in
    let t = bytes_of c.args.trace.now in
    subst (λ (l : List ℤ). All (λ r. is_between true 8 r ≡ true) l) (sym c.samples.ensures) (samples_are_ranks h t c.requires)
