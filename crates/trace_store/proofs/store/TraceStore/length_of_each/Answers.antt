use Rattle.std.proofs.Common.{rules, ◌+◌, ◌<◌, ◌^◌, arith}
use Rattle.trace_store.specs.Stores.{traces_of}
use Rattle.trace_store.proofs.GoneLemmas.{none-counted, one-counted, all-counted, rising-behind}
use Rattle.trace_store.proofs.store.TraceStore.length_of_each.Goals as goal

pub loop-p-init : goal.loop-p-init
loop-p-init g c = none-counted (traces_of c.args.self.now) c.args.traces.now

pub length_of-bytes-requires-clause-first : goal.length_of-bytes-requires-clause-first
length_of-bytes-requires-clause-first g c = (rising-behind 1 c.loop-p.p-index 0 c.args.traces.now c.requires.rising c.loop-p-test.true).0

pub overflow_add-bytes : goal.overflow_add-bytes
overflow_add-bytes g c =
    let next = one-counted (traces_of c.args.self.now) c.args.traces.now c.loop-p.p-index c.loop-p.bytes c.length_of-bytes.result c.loop-p.invariant c.requires.rising c.requires.last c.loop-p-test.true c.length_of-bytes.ensures in
    let low : c.loop-p.bytes + c.length_of-bytes.result < 2 ^ 64 = omega (arith, next.0, c.requires.small) in
    search rules

pub loop-p-preserved : goal.loop-p-preserved
loop-p-preserved g c = (one-counted (traces_of c.args.self.now) c.args.traces.now c.loop-p.p-index c.loop-p.bytes c.length_of-bytes.result c.loop-p.invariant c.requires.rising c.requires.last c.loop-p-test.true c.length_of-bytes.ensures).1

pub returns : goal.returns
returns g c = all-counted (traces_of c.args.self.now) c.args.traces.now c.loop-p.p-index c.loop-p.bytes c.loop-p.invariant c.requires.rising (omega (arith, c.loop-p-test.false))
