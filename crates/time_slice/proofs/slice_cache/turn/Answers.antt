use Rattle.std.proofs.Common.{ap, sym, ◌∙◌}
use Rattle.time_slice.proofs.TurnLemmas.{turn_gone, turn_first}
use Rattle.time_slice.proofs.slice_cache.turn.Goals as goal

pub returns-then-is_among-clause-turned : goal.returns-then-is_among-clause-turned
returns-then-is_among-clause-turned c = λ es e is.
    ap (λ cache. cache.entries) c.pop_lru.ensures.entries
    ∙ turn_gone c.args.k c.args.many es c.args.cache.now.entries e c.in-Some.number.now c.in-Some.field-0-1.now is c.in-Some.ensures (sym c.if-is_among.ensures)

pub returns-else-is_among-clause-turned : goal.returns-else-is_among-clause-turned
returns-else-is_among-clause-turned c = λ es e is.
    ap (λ cache. cache.entries) c.promote.ensures.entries
    ∙ turn_first c.args.k c.args.many es c.args.cache.now.entries e c.in-Some.number.now c.in-Some.field-0-1.now is c.in-Some.ensures c.len-count.ensures.valid.0 (sym c.if-is_among.ensures)
