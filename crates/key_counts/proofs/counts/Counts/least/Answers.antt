use Rattle.std.proofs.Common.{sym, ◌∙◌}
use Rattle.key_counts.proofs.EndLemmas.{first_is_least}
use Rattle.key_counts.proofs.counts.Counts.least.Goals as goal

pub returns-in-Some-clause-least : goal.returns-in-Some-clause-least
returns-in-Some-clause-least g c =
    first_is_least g.K.Ord.cmp g.met.K.Ord.total c.args.self.now c.in-Some.key.now c.in-Some.field-0-1.now c.next.new.self
    (sym c.pairs-pairs.ensures.rest ∙ c.in-Some.ensures.steps) c.pairs-pairs.ensures.rising c.pairs-pairs.ensures.positive
