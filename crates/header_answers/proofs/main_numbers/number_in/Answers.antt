use Rattle.std.proofs.Common.{◌≡◌, rules, SFits, sym, ◌∙◌}
use Rattle.std.specs.Int.{w16, w32, w128}
use Rattle.std.proofs.lemmas.Int.{to_z-of_z}
use Rattle.header_answers.proofs.MainLemmas.{number_is, part_is}
use Rattle.header_answers.proofs.main_numbers.number_in.Goals as goal

pub returns-then-size-eq2 : goal.returns-then-size-eq2
returns-then-size-eq2 c =
    let fits : SFits w128 c.from.result = search rules in
    let short : SFits w16 c.i16_at.result = search rules in
    let size : c.args.place.kind.size ≡ 2 = sym c.from-size.ensures ∙ c.if-size-eq2.true in
    to_z-of_z w128 _ fits ∙ c.from.ensures ∙ to_z-of_z w16 _ short
    ∙ number_is c.args.order c.args.place 2 _ c.i16_at.result c.if-place.true size (rw c.from-at.ensures at c.i16_at.ensures)

pub returns-then-size-eq4 : goal.returns-then-size-eq4
returns-then-size-eq4 c =
    let fits : SFits w128 c.from-then-size-eq4.result = search rules in
    let long : SFits w32 c.i32_at.result = search rules in
    let size : c.args.place.kind.size ≡ 4 = sym c.from-size.ensures ∙ c.if-size-eq4.true in
    to_z-of_z w128 _ fits ∙ c.from-then-size-eq4.ensures ∙ to_z-of_z w32 _ long
    ∙ number_is c.args.order c.args.place 4 _ c.i32_at.result c.if-place-2.true size (rw c.from-at.ensures at c.i32_at.ensures)

pub returns-else-place-2 : goal.returns-else-place-2
returns-else-place-2 c =
    let fits : SFits w128 c.read.result = search rules in
    to_z-of_z w128 _ fits
    ∙ part_is c.args.order c.args.place.kind c.args.main.now c.args.place.byte c.from-at.result c.from-size.result c.read.result c.from-at.ensures c.from-size.ensures c.read.ensures
