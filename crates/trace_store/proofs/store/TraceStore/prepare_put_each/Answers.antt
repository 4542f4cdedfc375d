use Rattle.std.proofs.Common.{◌≡◌, ◌-◌, ◌*◌, ◌/◌, length, arith}
use Rattle.std.proofs.Math.Nat.{mod-eq-sub-div-mul, div-mul-le_self}
use Rattle.trace_store.specs.Stores.{traces_of}
use Rattle.trace_store.proofs.AheadLemmas.{ready_each, then_each}
use Rattle.trace_store.proofs.LengthLemmas.{total-put_each}
use Rattle.trace_store.proofs.store.TraceStore.prepare_put_each.Goals as goal

pub returns-clause-ready : goal.returns-clause-ready
returns-clause-ready g c =
    let bytes = c.args.bytes.now in
    let parts : length bytes ≡ length bytes / c.args.size * c.args.size = omega (arith, c.requires.exact, mod-eq-sub-div-mul (length bytes) c.args.size, div-mul-le_self (length bytes) c.args.size) in
    ready_each c.args.self.now (c.args.a - 1) c.args.at c.args.size bytes c.in_ok-lists.lists c.requires.some c.in_ok-lists.ensures.count c.requires.last c.in_ok-lists.ensures.runs c.requires.exact c.requires.whole
    (total-put_each (traces_of c.args.self.now) (c.args.a - 1) c.args.at c.args.size bytes (length bytes / c.args.size) c.requires.some parts c.requires.inside)

pub returns-clause-traces : goal.returns-clause-traces
returns-clause-traces g c =
    then_each c.args.self.now (c.args.a - 1) c.args.at c.args.size c.args.bytes.now c.in_ok-lists.lists c.requires.some c.in_ok-lists.ensures.count c.requires.last c.in_ok-lists.ensures.runs c.requires.exact
