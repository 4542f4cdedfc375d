use Rattle.std.proofs.Common.{◌∙◌, sym, ap}
use Rattle.std.specs.Option.{option_or}
use Rattle.field_map.specs.Pairs.{place_of}
use Rattle.field_map.specs.ToolNames.{unix_names}
use Rattle.field_map.specs.KnownNames.{segyio_place, named_place}
use Rattle.field_map.proofs.KnownNameLemmas.{standard_first}
use Rattle.field_map.proofs.known_names.named.Goals as goal

pub returns-in-Some : goal.returns-in-Some
unfolding named_place
returns-in-Some c =
    let tools = option_or (place_of unix_names c.args.name.now) (segyio_place c.args.name.now) in
    ap (λ o. option_or o tools) (sym c.in-Some.is ∙ c.place_in.ensures) ∙ sym (standard_first c.args.name.now tools)

pub returns-in-None : goal.returns-in-None
unfolding named_place
returns-in-None c =
    let tools = option_or (place_of unix_names c.args.name.now) (segyio_place c.args.name.now) in
    c.named_by_tools.ensures ∙ ap (λ o. option_or o tools) (sym c.in-None.is ∙ c.place_in.ensures) ∙ sym (standard_first c.args.name.now tools)
