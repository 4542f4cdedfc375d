use Rattle.std.proofs.Common.{◌∙◌, sym, ap}
use Rattle.std.specs.Option.{option_or}
use Rattle.field_map.specs.KnownNames.{segyio_place}
use Rattle.field_map.proofs.known_names.named_by_tools.Goals as goal

pub returns-in-None : goal.returns-in-None
returns-in-None c =
    c.place_in_any_case.ensures ∙ ap (λ o. option_or o (segyio_place c.args.name.now)) (sym c.in-None.is ∙ c.place_in.ensures)
