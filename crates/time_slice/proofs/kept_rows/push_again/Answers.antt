use Rattle.std.proofs.Common.{rules, ap, sym, ◌∙◌, ◌++◌, ◌≡◌, ℤ, List, Some, append-nil, to_z, of_z}
use Rattle.std.specs.Int.{w128}
use Rattle.std.proofs.lemmas.Int.{to_z-of_z}
use mir.Val.{SFits}
use Rattle.bench_rules.specs.declared.row.Row.{Row}
use Rattle.time_slice.specs.Shown.{pair_of, row_at}
use Rattle.time_slice.proofs.CacheLemmas.{row_at_place, no_row_at}
use Rattle.time_slice.proofs.kept_rows.push_again.Goals as goal

pub returns-in_ok-push_row-clause-rows : goal.returns-in_ok-push_row-clause-rows
returns-in_ok-push_row-clause-rows c =
    let value = (pair_of c.args.signed c.args.kept).1 in
    let again = row_at_place c.args.records.now c.args.kept.position c.saturating_sub-place.result value c.in-Some.cell c.saturating_sub-place.ensures (sym c.get.ensures.cell ∙ c.in-Some.is) in
    let fits : SFits w128 c.value.result = search rules in
    let read : to_z w128 (of_z w128 c.value.result) ≡ value = to_z-of_z w128 c.value.result fits ∙ c.value.ensures in
    c.in_ok-push_row.ensures.rows
    ∙ ap (λ (v : ℤ). c.args.rows.now.items ++ row_at c.args.kept.position c.in-Some.cell (Some v)) read
    ∙ ap (λ (rows : List Row). c.args.rows.now.items ++ rows) (sym again)

pub returns-in_default-clause-rows : goal.returns-in_default-clause-rows
returns-in_default-clause-rows c =
    let value = (pair_of c.args.signed c.args.kept).1 in
    let none = no_row_at c.args.records.now c.args.kept.position c.saturating_sub-place.result value c.saturating_sub-place.ensures (sym c.get.ensures.cell ∙ c.in_default.is) in
    sym (append-nil c.args.rows.now.items) ∙ ap (λ (rows : List Row). c.args.rows.now.items ++ rows) (sym none)
