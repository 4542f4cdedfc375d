use Rattle.std.proofs.Common.{◌≡◌, ◌∙◌, subst, List}
use Rattle.std.specs.Prelude.{ℤ, option_map}
use Rattle.std.specs.Result.{IfOk}
use Rattle.trace_groups.specs.Groups.{group_of, group_in}
use Rattle.trace_groups.specs.Others.{other_marks}
use Rattle.trace_groups.specs.declared.problem.TraceProblem.TheVariants.{OtherScalar}
use Rattle.trace_groups.proofs.RecordLemmas.{scalars_in}
use Rattle.trace_groups.proofs.others.scalar_group.Goals as goal

pub returns-clause-group : goal.returns-clause-group
returns-clause-group c =
    subst (λ (l : List ℤ). IfOk c.other_group.result (λ group. option_map group_in group ≡ group_of OtherScalar (other_marks l)))
    (c.as_slice.ensures.value ∙ c.in_ok-scalars.ensures.scalars ∙ scalars_in c.args.records.now)
    c.other_group.ensures.group
