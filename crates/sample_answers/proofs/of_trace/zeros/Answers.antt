use Rattle.std.proofs.Common.{◌≤◌, ◌^◌, ℤ, List, length, arith, sym, subst}
use Rattle.trace_view.specs.Shown.{bytes_of, head_of}
use Rattle.bench_rules.proofs.FloatLemmas.{few_samples}
use Rattle.sample_answers.proofs.of_trace.zeros.Goals as goal

pub zeros_among-requires : goal.zeros_among-requires
zeros_among-requires c =
    let h = head_of c.args.trace.now in
    let t = bytes_of c.args.trace.now in
    subst (λ (l : List ℤ). length l ≤ 2 ^ 32) (sym c.samples.ensures) (few_samples h t (2 ^ 32) (omega (arith, c.sample_count-count.ensures)))
