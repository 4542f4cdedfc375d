use Rattle.std.proofs.Common.{◌≡◌, ◌∙◌, refl, ap, sym, bytes_eq, true, false}
use Rattle.std.specs.Prelude.{None}
use Rattle.std.specs.Option.{option_copied_mut}
use Rattle.std.specs.String.{string_bytes}
use Rattle.std.specs.Map.{lookup}
use Rattle.field_map.specs.Pairs.{shown, is_bound}
use Rattle.field_map.proofs.ShownLemmas.{lookup-shown, set_value-shown}
use Rattle.field_map.proofs.field_map.set_place.Goals as goal

pub returns-in-Some : goal.returns-in-Some
returns-in-Some c =
    let es = c.args.map.now.entries in
    let there : is_bound (shown es) c.args.name.now ≡ true = c.requires in
    ap shown (c.get_mut.follows.holds c.args.place).0
    ∙ set_value-shown string_bytes (λ k. bytes_eq c.args.name.now (string_bytes k)) (bytes_eq c.args.name.now) (λ k. refl) c.args.place es
    ∙ rw there refl

pub returns-in_default : goal.returns-in_default
returns-in_default c =
    let es = c.args.map.now.entries in
    let none : lookup (bytes_eq c.args.name.now) (shown es) ≡ None =
    sym (c.get_mut.ensures.value ∙ lookup-shown string_bytes (λ k. bytes_eq c.args.name.now (string_bytes k)) (bytes_eq c.args.name.now) (λ k. refl) es) ∙ ap option_copied_mut c.in_default.is in
    let bound_now : is_bound (shown es) c.args.name.now ≡ true = c.requires in
    let bad : false ≡ true = rw none at bound_now in
    absurd cc
