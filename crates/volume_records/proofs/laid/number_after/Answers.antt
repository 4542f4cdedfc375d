use Rattle.std.proofs.Common.{◌≡◌, ◌∙◌, length, sym, subst, true, ℕ, w32, rules}
use mir.Val.{SFits}
use Rattle.field_map.specs.Places.{offset_of}
use Rattle.trace_record.proofs.FactsLemmas.{kept}
use Rattle.trace_record.specs.Told.{are_apart}
use Rattle.volume_records.proofs.LaidLemmas.{number_apart}
use Rattle.volume_records.proofs.laid.number_after.Goals as goal

pub returns-then-are_apart-clause-number : goal.returns-then-are_apart-clause-number
returns-then-are_apart-clause-number c = λ h t same inside is.
    let apart : are_apart c.args.at (length c.args.bytes.now) (offset_of c.args.place) c.args.place.kind.size ≡ true =
    subst (λ (n : ℕ). are_apart c.args.at (length c.args.bytes.now) n c.args.place.kind.size ≡ true) c.offset.ensures (sym c.are_apart.ensures ∙ c.if-are_apart.true) in
    let known : SFits w32 c.args.known = search rules in
    kept w32 _ _ known (is ∙ sym (number_apart h t c.args.bytes.now c.args.at c.args.place inside apart))
