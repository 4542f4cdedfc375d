use Rattle.std.proofs.Common.{◌∙◌, refl, ap, bytes_eq}
use Rattle.std.specs.String.{string_bytes}
use Rattle.field_map.specs.Pairs.{shown}
use Rattle.field_map.proofs.ShownLemmas.{remove_entry-shown}
use Rattle.field_map.proofs.field_map.take_out.Goals as goal

pub returns : goal.returns
returns c = ap shown c.shift_remove-place.ensures.entries ∙ remove_entry-shown string_bytes (λ k. bytes_eq c.args.name.now (string_bytes k)) (bytes_eq c.args.name.now) (λ k. refl) c.args.map.now.entries
