use Rattle.std.proofs.Common.{◌≡◌, ◌∙◌, refl, ap, bytes_eq, is_some}
use Rattle.std.specs.Prelude.{Option, Some, None}
use Rattle.std.specs.Option.{option_copied}
use Rattle.std.specs.Borrow.{Bor}
use Rattle.std.specs.String.{string_bytes}
use Rattle.field_map.specs.Pairs.{is_bound}
use Rattle.field_map.proofs.ShownLemmas.{lookup-shown}
use Rattle.field_map.proofs.field_map.FieldMap.is_bound.Goals as goal

is_some-copied : {X : Type 0} (o : Option (Bor X)) → is_some o ≡ is_some (option_copied o)
is_some-copied None = refl
is_some-copied (Some x) = refl

pub returns : goal.returns
returns c = c.is_some.ensures ∙ is_some-copied c.get.result ∙ ap is_some (c.get.ensures.value ∙ lookup-shown string_bytes (λ k. bytes_eq c.args.name.now (string_bytes k)) (bytes_eq c.args.name.now) (λ k. refl) c.self.inside.map.entries) ∙ ap (λ m. is_bound m.pairs c.args.name.now) c.self.view_is
