use Rattle.std.proofs.Common.{◌≡◌, ◌+◌, ◌<◌, ◌≤◌, ◌^◌, ℕ, length, arith, rules}
use Rattle.frame_cut.specs.Traces.{count_of}
use Rattle.bench_rules.proofs.ChosenLemmas.{rising-few}
use Rattle.chosen_traces.proofs.answers.told.Goals as goal

pub overflow_cast-result : goal.overflow_cast-result
overflow_cast-result c =
    let n : ℕ = count_of c.args.overlay.now.volume in
    let counted : c.count-count.result ≡ n = c.count-count.ensures in
    let small : c.count-count.result < 2 ^ 32 = search rules in
    let few : 1 + length c.args.traces.items ≤ n + 1 = rising-few 1 n c.args.traces.items (omega arith) c.requires in
    let long : c.len.result ≡ length c.args.traces.items = search rules in
    let less : c.len.result < 2 ^ 32 = omega (arith, counted, small, few, long) in
    search rules
