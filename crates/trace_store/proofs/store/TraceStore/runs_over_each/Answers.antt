use Rattle.std.proofs.Common.{◌≡◌, ◌+◌, ◌-◌, refl, arith}
use Rattle.trace_store.specs.Stores.{bases_of, traces_of}
use Rattle.trace_store.proofs.OverLemmas.{over-more, over-all}
use Rattle.trace_store.proofs.store.TraceStore.runs_over_each.Goals as goal

pub runs_with-requires-clause-inside : goal.runs_with-requires-clause-inside
runs_with-requires-clause-inside g c =
    let place : c.args.a + c.loop-k.k - 1 ≡ c.args.a - 1 + c.loop-k.k = omega (arith, c.requires.first) in
    rw place (c.requires.inside c.loop-k.k c.loop-k-test.true)

pub loop-k-preserved : goal.loop-k-preserved
loop-k-preserved g c =
    let place : c.args.a + c.loop-k.k - 1 ≡ c.args.a - 1 + c.loop-k.k = omega (arith, c.requires.first) in
    let pushed = rw c.in_ok-told_back.ensures.ok at c.push.ensures.items in
    record {
      memory = grind arith;
      runs = rw pushed
          (over-more (bases_of c.args.self.now) (traces_of c.args.self.now) (c.args.a - 1) c.args.places.now c.args.bytes.now c.loop-k.k (c.args.a + c.loop-k.k - 1) _ c.loop-k.lists.items c.in_ok-runs.runs c.loop-k.invariant.runs c.loop-k-test.true place refl c.in_ok-runs.ensures.runs);
    }

pub returns-clause-runs : goal.returns-clause-runs
returns-clause-runs g c =
    over-all (bases_of c.args.self.now) (traces_of c.args.self.now) (c.args.a - 1) c.args.places.now c.args.bytes.now c.loop-k.k c.loop-k.lists.items c.loop-k.invariant.runs (omega (arith, c.loop-k-test.false))
