use Rattle.std.proofs.Common.{◌≡◌, ◌∙◌, refl, ap, sym, true, false, None, bytes_eq}
use Rattle.std.specs.Option.{option_copied}
use Rattle.std.specs.String.{string_bytes}
use Rattle.field_map.specs.Pairs.{shown, place_of, is_bound}
use Rattle.field_map.proofs.ShownLemmas.{lookup-shown}
use Rattle.field_map.proofs.field_map.held_place.Goals as goal

pub unreachable-requires : goal.unreachable-requires
unreachable-requires c =
    let name = c.args.name.now in
    let es = c.args.map.now.entries in
    let none : place_of (shown es) name ≡ None = sym (c.get.ensures.value ∙ lookup-shown string_bytes (λ k. bytes_eq name (string_bytes k)) (bytes_eq name) (λ k. refl) es) ∙ ap option_copied c.in-None.is in
    let bound : is_bound (shown es) name ≡ true = c.requires in
    let bad : false ≡ true = rw none at bound in
    absurd cc

pub returns : goal.returns
returns c =
    let name = c.args.name.now in
    sym (c.get.ensures.value ∙ lookup-shown string_bytes (λ k. bytes_eq name (string_bytes k)) (bytes_eq name) (λ k. refl) c.args.map.now.entries) ∙ ap option_copied c.in-Some.is
