use Rattle.std.proofs.Common.{◌≡◌, ◌+◌, ◌-◌, ◌≤◌, [], ◌∷◌, List, length, ap, arith, length-append}
use Rattle.std.specs.Prelude.{slice_index_or}
use Rattle.trace_view.specs.declared.run.Run.{Run}
use Rattle.trace_store.specs.Stores.{bases_of, traces_of}
use Rattle.trace_store.proofs.EachLemmas.{runs-more, runs-all}
use Rattle.trace_store.proofs.store.TraceStore.runs_for_each.Goals as goal

pub runs_with-requires-clause-inside : goal.runs_with-requires-clause-inside
runs_with-requires-clause-inside g c =
    let place : c.args.a + c.loop-k.k - 1 ≡ c.args.a - 1 + c.loop-k.k = omega (arith, c.requires.first) in
    let inside : c.args.at + c.args.size ≤ length (slice_index_or (traces_of c.args.self.now) (c.args.a - 1 + c.loop-k.k) []) = c.requires.inside c.loop-k.k c.loop-k-test.true in
    rw (place, c.part-part.ensures.length) inside

pub loop-k-preserved : goal.loop-k-preserved
loop-k-preserved g c =
    let place : c.args.a + c.loop-k.k - 1 ≡ c.args.a - 1 + c.loop-k.k = omega (arith, c.requires.first) in
    let pushed = rw c.in_ok-told_back.ensures.ok at c.push.ensures.items in
    record {
      memory = grind arith;
      count = omega (arith, ap (λ (xs : List (List Run)). length xs) pushed, length-append c.loop-k.lists.items (c.in_ok-runs.runs ∷ []), c.loop-k.invariant.count);
      runs = rw pushed
          (runs-more (bases_of c.args.self.now) (traces_of c.args.self.now) (c.args.a - 1) c.args.at c.args.size c.args.bytes.now c.loop-k.k (c.args.a + c.loop-k.k - 1) c.part-part.result.now c.loop-k.lists.items c.in_ok-runs.runs c.loop-k.invariant.runs place c.part-part.ensures.part c.in_ok-runs.ensures.runs);
    }

pub returns-clause-runs : goal.returns-clause-runs
returns-clause-runs g c =
    runs-all (bases_of c.args.self.now) (traces_of c.args.self.now) (c.args.a - 1) c.args.at c.args.size c.args.bytes.now c.loop-k.k c.loop-k.lists.items c.loop-k.invariant.runs
