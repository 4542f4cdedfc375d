use Rattle.std.specs.BTreeMap.{IsFromIterResult}
use Rattle.std.proofs.lemmas.Result.{IfOk-weaker}
use Rattle.key_counts.specs.Runs.{runs_of}
use Rattle.key_counts.proofs.RunLemmas.{Shows-sorted}
use Rattle.key_counts.proofs.runs.map_of_keys.Goals as goal

pub returns-clause-shows : goal.returns-clause-shows
returns-clause-shows g c =
    let sorted = c.sort_unstable.new.self.items in
    IfOk-weaker c.map_of_runs.result (IsFromIterResult g.K.Ord.cmp (runs_of g.K.Ord.cmp sorted)) _
    (λ m made. Shows-sorted g.K.Ord.cmp g.met.K.Ord.total c.args.keys.items sorted m c.sort_unstable.ensures.permutation c.sort_unstable.ensures.sorted made)
    (rw c.as_slice.ensures.value at c.map_of_runs.ensures.runs)
