use Rattle.std.proofs.Common.{rules, SFits, ◌∙◌}
use Rattle.std.specs.Int.{w16}
use Rattle.std.proofs.lemmas.Int.{to_z-of_z}
use Rattle.trace_view.specs.Shown.{bytes_of, head_of}
use Rattle.trace_record.proofs.HeaderLemmas.{value_is}
use Rattle.trace_record.proofs.header_fields.short_at.Goals as goal

pub returns : goal.returns
returns c =
    let fits : SFits w16 c.i16_at.result = search rules in
    to_z-of_z w16 _ fits
    ∙ value_is (head_of c.args.view.now) (bytes_of c.args.view.now) c.args.place 2 c.from.result c.i16_at.result c.requires.signed c.requires.size (c.from.ensures ∙ c.offset.ensures) c.i16_at.ensures
