use Rattle.std.proofs.Common.{◌≡◌, ◌+◌, ◌<◌, ◌≤◌, ◌^◌, length, arith, rules}
use Rattle.frame_cut.specs.Traces.{count_of}
use Rattle.bench_rules.proofs.ChosenLemmas.{rising-few}
use Rattle.many_traces.proofs.tables.table_among.Goals as goal

pub listed-requires-clause-few : goal.listed-requires-clause-few
listed-requires-clause-few c =
    let n = count_of c.args.overlay.now.volume in
    let counted : c.count-count.result ≡ n = c.count-count.ensures in
    let small : c.count-count.result < 2 ^ 32 = search rules in
    let few : 1 + length c.args.traces.items ≤ n + 1 = rising-few 1 n c.args.traces.items (omega arith) c.requires in
    omega (arith, counted, small, few)
