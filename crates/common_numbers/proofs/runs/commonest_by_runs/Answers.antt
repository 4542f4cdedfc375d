use Rattle.std.specs.Prelude.{ℤ, List, ◌++◌, length, FitsSigned}
use Rattle.std.proofs.Common.{rules, subst, sym, ap, ◌∙◌}
use Rattle.std.specs.Int.{w64}
use Rattle.std.proofs.lemmas.Int.{to_z-of_z}
use Rattle.std.specs.List.Sorted.{IsPermutation, IsSorted}
use Rattle.std.specs.Ordering.{int_cmp}
use Rattle.common_numbers.specs.Commonest.{IsCommonest}
use Rattle.common_numbers.proofs.CommonestLemmas.{commonest-sorted, commonest-empty}
use Rattle.common_numbers.proofs.runs.commonest_by_runs.Goals as goal

pub returns-in_default-clause-number : goal.returns-in_default-clause-number
returns-in_default-clause-number c =
    let copied = (rw c.in_ok-told.ensures.ok at c.extend_from_slice.ensures.items) ∙ ap (λ (l : List ℤ). l ++ c.args.numbers.now) c.new-rising.ensures.items in
    commonest-empty c.args.numbers.now c.sort_unstable.new.self.items
    (subst (λ (l : List ℤ). IsPermutation l c.sort_unstable.new.self.items) copied c.sort_unstable.ensures.permutation)
    (ap length (sym c.deref.ensures.value) ∙ c.in_default.ensures.cases)

pub longest_run-requires : goal.longest_run-requires
longest_run-requires c =
    subst (λ (l : List ℤ). IsSorted int_cmp l) (sym c.deref.ensures.value ∙ c.in-Some.ensures.cases.0) c.sort_unstable.ensures.sorted

pub returns-clause-number : goal.returns-clause-number
returns-clause-number c =
    let copied = (rw c.in_ok-told.ensures.ok at c.extend_from_slice.ensures.items) ∙ ap (λ (l : List ℤ). l ++ c.args.numbers.now) c.new-rising.ensures.items in
    let fits : FitsSigned w64 c.longest_run.result = search rules in
    rw (to_z-of_z w64 c.longest_run.result fits)
    (commonest-sorted c.args.numbers.now c.sort_unstable.new.self.items c.longest_run.result
    (subst (λ (l : List ℤ). IsPermutation l c.sort_unstable.new.self.items) copied c.sort_unstable.ensures.permutation)
    (subst (λ (l : List ℤ). IsCommonest l c.longest_run.result) (sym c.in-Some.ensures.cases.0 ∙ c.deref.ensures.value) c.longest_run.ensures))
