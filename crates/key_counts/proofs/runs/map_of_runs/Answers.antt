use Rattle.std.proofs.Common.{refl}
use Rattle.std.specs.BTreeMap.{IsFromIterResult}
use Rattle.std.proofs.lemmas.Iterator.Adapters.{fact_from_collect}
use Rattle.std.proofs.lemmas.Iterator.Consumers.{YieldsList-from_first}
use Rattle.room.proofs.ToldLemmas.{told_is}
use Rattle.key_counts.specs.Runs.{runs_of}
use Rattle.key_counts.proofs.runs.map_of_runs.Goals as goal

pub returns-clause-runs : goal.returns-clause-runs
returns-clause-runs g c =
    told_is (IsFromIterResult g.K.Ord.cmp (runs_of g.K.Ord.cmp c.args.keys.now)) c.collect-made.result c.told.result c.told.ensures.ok
    (fact_from_collect (IsFromIterResult g.K.Ord.cmp) c.collect-made.result c.collect-made.ensures.ran
    (YieldsList-from_first (λ x. x) (λ s. runs_of g.K.Ord.cmp s.rest.now) (runs_of g.K.Ord.cmp c.args.keys.now) refl))
