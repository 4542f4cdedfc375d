use Rattle.std.proofs.Common.{ℕ, rules, SFits, arith, ap, ◌-◌, ◌∙◌}
use Rattle.std.specs.Int.{w16}
use Rattle.std.proofs.lemmas.Int.{to_z-of_z}
use Rattle.trace_record.proofs.HeaderLemmas.{inside, number_is}
use Rattle.trace_record.proofs.main_header.short_in.Goals as goal

pub i16_at-requires : goal.i16_at-requires
i16_at-requires c =
    let where-it-is = inside c.args.place c.requires.place.inside in
    omega (arith, where-it-is.0, where-it-is.1, c.requires.place.size)

pub returns : goal.returns
returns c =
    let fits : SFits w16 c.i16_at.result = search rules in
    to_z-of_z w16 _ fits
    ∙ number_is c.args.order c.args.place 2 _ c.args.main.now c.i16_at.result c.requires.place.signed c.requires.place.size (ap (λ (n : ℕ). n - 1) c.from.ensures) c.i16_at.ensures
