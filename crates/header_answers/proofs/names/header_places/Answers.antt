use Rattle.std.proofs.Common.{◌≡◌, ◌++◌, ◌∷◌, [], map, Some, ap, rules, arith}
use Rattle.std.specs.Prelude.{slice_get}
use Rattle.field_map.specs.Pairs.{Pairs}
use Rattle.field_map.specs.HeaderNames.{header_names}
use Rattle.bench_rules.specs.Headers.{header_places, meant}
use Rattle.header_answers.proofs.NameLemmas.{one_more}
use Rattle.header_answers.proofs.names.header_places.Goals as goal

pub loop-k-init : goal.loop-k-init
unfolding header_places
loop-k-init c = (ap (λ (names : Pairs). names ++ map (meant c.args.fields.now.pairs) header_names) c.new-names.ensures.items, grind arith)

pub loop-k-preserved : goal.loop-k-preserved
loop-k-preserved c =
    let there : slice_get header_names c.loop-k.k ≡ Some (c.in-Some.name.now, c.in-Some.standard) = search rules in
    let pushed : c.push.new.self.items ≡ c.loop-k.names.items ++ meant c.args.fields.now.pairs (c.in-Some.name.now, c.in-Some.standard) ∷ [] = search rules in
    (one_more (meant c.args.fields.now.pairs) c.loop-k.names.items c.push.new.self.items header_names (header_places c.args.fields.now.pairs) c.loop-k.k (c.in-Some.name.now, c.in-Some.standard) there pushed c.loop-k.invariant.0, grind arith)
