use Rattle.std.proofs.Common.{◌∙◌, sym, ap}
use Rattle.trace_record.specs.Facts.{facts_of}
use Rattle.std.specs.Prelude.{map}
use Rattle.trace_groups.specs.Groups.{group_of}
use Rattle.trace_groups.specs.Loud.{loud_beside}
use Rattle.trace_groups.specs.declared.problem.TraceProblem.TheVariants.{Loud as loud}
use Rattle.trace_groups.proofs.LoudLemmas.{none_loud}
use Rattle.trace_groups.proofs.loud.loud_group.Goals as goal

pub returns-in-None-clause-group : goal.returns-in-None-clause-group
returns-in-None-clause-group c =
    let none = none_loud c.args.floats (map facts_of c.args.records.now) (ap (loud_beside c.args.floats) (sym c.requires.amounts) ∙ sym c.in-None.ensures) in
    sym (ap (group_of loud) none)
