use Rattle.std.proofs.Common.{◌≡◌, rules, SFits, ◌∙◌}
use Rattle.std.specs.Int.{w32}
use Rattle.std.proofs.lemmas.Int.{to_z-of_z}
use Rattle.trace_view.specs.Shown.{bytes_of, head_of}
use Rattle.trace_record.proofs.HeaderLemmas.{value_is}
use Rattle.trace_record.proofs.header_fields.signed_at.Goals as goal

pub returns-else-place-eq2 : goal.returns-else-place-eq2
returns-else-place-eq2 c =
    let fits : SFits w32 c.i32_at.result = search rules in
    let four : c.args.place.kind.size ≡ 4 = search rules in
    to_z-of_z w32 _ fits
    ∙ value_is (head_of c.args.view.now) (bytes_of c.args.view.now) c.args.place 4 _ c.i32_at.result c.requires.signed four (c.from-else-place-eq2.ensures ∙ c.offset.ensures) c.i32_at.ensures
