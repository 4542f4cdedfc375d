use Rattle.many_traces.proofs.ExchangeLemmas.{starts-in-step}
use Rattle.many_traces.proofs.standing.Standing.new.Goals as goal

pub returns-clause-step : goal.returns-clause-step
returns-clause-step c =
    rw (rw c.in_ok-told.ensures.ok at c.with_capacity.ensures.items)
    (starts-in-step c.args.first c.args.count c.in_ok-counted.field-0.items c.in_ok-counted-2.field-0.items c.requires.first c.requires.last c.in_ok-counted.ensures.numbers c.in_ok-counted-2.ensures.numbers)
