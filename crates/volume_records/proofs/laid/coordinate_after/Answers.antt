use Rattle.std.proofs.Common.{◌≡◌, ◌∙◌, length, refl, sym, subst, ap, ap₂, true, ℕ, ℤ, w32, rules}
use Rattle.std.specs.Int.{w16}
use mir.Val.{SFits}
use Rattle.field_map.specs.Places.{offset_of}
use Rattle.key_counts.specs.Coordinates.{under_scalar}
use Rattle.trace_record.specs.Told.{are_apart}
use Rattle.trace_record.proofs.FactsLemmas.{kept}
use Rattle.volume_records.proofs.LaidLemmas.{number_apart}
use Rattle.volume_records.proofs.laid.coordinate_after.Goals as goal

pub returns-then-are_apart-clause-value : goal.returns-then-are_apart-clause-value
returns-then-are_apart-clause-value c = λ h t same inside is.
    let apart : are_apart c.args.at (length c.args.bytes.now) (offset_of c.args.place) c.args.place.kind.size ≡ true =
    subst (λ (n : ℕ). are_apart c.args.at (length c.args.bytes.now) n c.args.place.kind.size ≡ true) c.offset.ensures (sym c.are_apart.ensures ∙ c.if-are_apart.true) in
    is ∙ ap (λ (v : ℤ). under_scalar v c.args.scalar) (sym (number_apart h t c.args.bytes.now c.args.at c.args.place inside apart))

pub returns-clause-value : goal.returns-clause-value
returns-clause-value c = λ h t same inside _.
    let number : SFits w32 c.in_ok-number.number = search rules in
    let scalar : SFits w16 c.args.scalar = search rules in
    c.scaled.ensures.exact ∙ ap₂ under_scalar (kept w32 _ _ number (c.in_ok-number.ensures.number h t same inside)) (kept w16 c.args.scalar _ scalar refl)
