use Rattle.std.proofs.Common.{◌≡◌, ℤ, pos, List, [], ◌∷◌, Some, map, SFits, rules, sym, ap, refl, ◌∙◌}
use Rattle.std.specs.Int.{w16}
use Rattle.std.proofs.lemmas.Int.{to_z-of_z}
use Rattle.std.specs.Prelude.{None, slice_get}
use Rattle.trace_record.specs.Facts.{facts_of}
use Rattle.trace_record.specs.declared.record.Record.{Record}
use Rattle.fault_live.specs.Faults.{first_units}
use Rattle.fault_live.proofs.report.units_of_first.Goals as goal

of_some : (rs : List Record) (r : Record) → slice_get rs 0 ≡ Some r → r.units ≡ first_units (map facts_of rs)
of_some [] r h = absurd cc
of_some (q ∷ qs) r h = cc

of_none : (rs : List Record) → slice_get rs 0 ≡ None → pos 0 ≡ first_units (map facts_of rs)
of_none [] h = refl
of_none (q ∷ qs) h = absurd cc

pub returns-in-Some : goal.returns-in-Some
returns-in-Some c =
    let fits : SFits w16 c.in-Some.trace.units = search rules in
    to_z-of_z w16 _ fits ∙ of_some c.args.records.now c.in-Some.trace (sym c.get.ensures ∙ c.in-Some.is)

pub returns-in-None : goal.returns-in-None
returns-in-None c = of_none c.args.records.now (sym c.get.ensures ∙ c.in-None.is)
