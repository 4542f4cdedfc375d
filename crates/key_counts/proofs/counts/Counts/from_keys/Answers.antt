use Rattle.key_counts.proofs.EachMoreLemmas.{with_each_more-Shows}
use Rattle.key_counts.proofs.counts.Counts.from_keys.Goals as goal

pub returns-clause-each : goal.returns-clause-each
returns-clause-each g c exact = with_each_more-Shows g.K.Ord.cmp g.met.K.Ord.total exact c.in_ok-map.map.entries c.args.keys.items c.in_ok-map.ensures.shows
