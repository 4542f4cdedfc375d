use Rattle.std.proofs.Common.{◌≡◌, ◌+◌, ◌∙◌, sym, ap, subst, arith, length, option_map, Some, None, w32, rules}
use mir.Val.{SFits}
use Rattle.std.proofs.lemmas.Int.{to_z-of_z}
use Rattle.window_counts.proofs.RowsLemmas.{found_at, not_found, ranks_rise, rows_fit}
use Rattle.window_counts.specs.Places.{index_of, AreRows}
use Rattle.window_counts.proofs.rows.Rows.place_behind.Goals as goal

pub overflow_add-result : goal.overflow_add-result
overflow_add-result c =
    let fit = rows_fit _ _ _ c.args.self.now.fit in
    let is = ap length c.added.ensures in
    let short = c.in-Ok.ensures.bound in
    omega arith

pub returns-in-Ok : goal.returns-in-Ok
returns-in-Ok c =
    let w = c.args.self.now in
    let are = subst (AreRows w.lowest w.count) (sym c.added.ensures) w.fit in
    let inline : SFits w32 c.args.inline = search rules in
    let found = subst (λ k. index_of c.added.result.now k ≡ Some c.in-Ok.at) (to_z-of_z w32 c.args.inline inline) (found_at w.lowest w.count c.added.result.now _ c.in-Ok.at are c.in-Ok.ensures.bound c.in-Ok.ensures.ok) in
    sym (ap (λ more. option_map (λ i. w.count + i) (index_of more c.args.inline)) (sym c.added.ensures) ∙ ap (option_map (λ i. w.count + i)) found)

pub returns-in-Err : goal.returns-in-Err
returns-in-Err c =
    let w = c.args.self.now in
    let are = subst (AreRows w.lowest w.count) (sym c.added.ensures) w.fit in
    let inline : SFits w32 c.args.inline = search rules in
    let none = subst (λ k. index_of c.added.result.now k ≡ None) (to_z-of_z w32 c.args.inline inline) (not_found c.added.result.now _ c.in-Err.field-0 (c.in-Err.ensures.position (ranks_rise w.lowest w.count c.added.result.now _ are))) in
    sym (ap (λ more. option_map (λ i. w.count + i) (index_of more c.args.inline)) (sym c.added.ensures) ∙ ap (option_map (λ i. w.count + i)) none)
