use Rattle.std.proofs.Common.{◌++◌, ◌∙◌, ap, arith}
use Rattle.field_map.specs.Pairs.{Pairs}
use Rattle.bench_rules.specs.Headers.{header_places, named_places}
use Rattle.header_answers.proofs.names.named_places.Goals as goal

pub loop-name-init : goal.loop-name-init
unfolding named_places
loop-name-init c = (ap (λ (names : Pairs). names ++ c.into_iter-name-iterator.result) c.in_ok-names.ensures.ok ∙ ap (λ (names : Pairs). header_places c.args.fields.now.pairs ++ names) (c.into_iter-name-iterator.ensures.into_iter_gives ∙ c.entries-name-items.ensures), grind arith)
