use Rattle.std.proofs.Common.{◌∙◌, sym}
use Rattle.field_map.proofs.RowLemmas.{place_of-here, place_of-behind}
use Rattle.field_map.proofs.known_names.place_in.Goals as goal

pub returns-then-eq : goal.returns-then-eq
returns-then-eq c =
    sym (place_of-here (λ n. n) c.args.table.now c.loop-known.known-index _ c.args.name.now c.loop-known-test.true (sym c.eq.ensures ∙ c.if-eq.true))
    ∙ c.loop-known.invariant

pub loop-known-preserved : goal.loop-known-preserved
loop-known-preserved c =
    sym (place_of-behind (λ n. n) c.args.table.now c.loop-known.known-index _ c.args.name.now c.loop-known-test.true (sym c.eq.ensures ∙ c.if-eq.false))
    ∙ c.loop-known.invariant
