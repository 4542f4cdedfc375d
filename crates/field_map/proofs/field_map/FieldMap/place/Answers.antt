use Rattle.std.proofs.Common.{◌∙◌, refl, ap, bytes_eq}
use Rattle.std.specs.String.{string_bytes}
use Rattle.field_map.specs.Pairs.{place_of}
use Rattle.field_map.proofs.ShownLemmas.{lookup-shown}
use Rattle.field_map.proofs.field_map.FieldMap.place.Goals as goal

pub returns : goal.returns
returns c = c.copied.ensures ∙ c.get.ensures.value ∙ lookup-shown string_bytes (λ k. bytes_eq c.args.name.now (string_bytes k)) (bytes_eq c.args.name.now) (λ k. refl) c.self.inside.map.entries ∙ ap (λ m. place_of m.pairs c.args.name.now) c.self.view_is
