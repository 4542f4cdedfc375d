use Rattle.std.proofs.Common.{◌≡◌, List, map, rules}
use Rattle.std.proofs.lemmas.Iterator.{items_from_collect, YieldsList-from_map}
use Rattle.std.proofs.lemmas.Iterator.Consumers.{YieldsList-from_first, YieldsList-at}
use Rattle.room.proofs.ToldLemmas.{told_is}
use Rattle.trace_record.specs.declared.record.Record.{Record}
use Rattle.range_stats.specs.Whole.{whole_in}
use Rattle.range_stats.proofs.whole_counts.keys_of.Goals as goal

pub returns-clause-keys : goal.returns-clause-keys
returns-clause-keys c =
    told_is (λ keys. keys.items ≡ map (whole_in c.args.which) c.args.records.now) c.collect-made.result c.told.result c.told.ensures.ok
    (items_from_collect _ c.collect-made.ensures.ran (YieldsList-from_map _ (λ (r : Record). whole_in c.args.which r)
    (YieldsList-at c.map.ensures.source (YieldsList-from_first (λ (r : Record). r) (λ (s : List Record). s) c.args.records.now c.iter.ensures))
    c.map.ensures.closure (λ x r q k. search rules)))
