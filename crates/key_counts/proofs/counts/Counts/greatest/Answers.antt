use Rattle.std.proofs.Common.{sym, ◌∙◌}
use Rattle.key_counts.proofs.EndLemmas.{last_is_greatest}
use Rattle.key_counts.proofs.counts.Counts.greatest.Goals as goal

pub returns-in-Some-clause-greatest : goal.returns-in-Some-clause-greatest
returns-in-Some-clause-greatest g c =
    last_is_greatest g.K.Ord.cmp g.met.K.Ord.total c.args.self.now c.in-Some.key.now c.in-Some.field-0-1.now c.next_back.new.self
    (sym c.pairs-pairs.ensures.rest ∙ c.in-Some.ensures.steps) c.pairs-pairs.ensures.rising c.pairs-pairs.ensures.positive
