use Rattle.std.proofs.Common.{◌≡◌, ◌<◌, ◌≤◌, ◌+◌, ◌++◌, ◌∙◌, ℕ, ℤ, List, length, map, drop, get_or, codes, decimal, sym, ap, refl, arith}
use Rattle.std.proofs.lemmas.List.{length-map}
use Rattle.std.proofs.lemmas.Option.{get_or_from_slice_get}
use Rattle.script_text.specs.HeaderTexts.{table_row_text}
use Rattle.line_texts.specs.Lines.{with_line_end, with_line_ends}
use Rattle.line_texts.proofs.OutLemmas.{by_fault, next_line, no_line, line_more, line_breaks, head_breaks, lines_break, lines_end}
use Rattle.script_text.proofs.table_texts.push_table.Goals as goal

pub returns-in_err-push : goal.returns-in_err-push
returns-in_err-push g c =
    let f = table_row_text in
    let xs = c.args.table.now in
    let head : List ℕ = with_line_end (codes "table" ++ codes " " ++ decimal (length (map f xs))) in
    let is_head : c.as_slice.result.now ≡ head =
    c.as_slice.ensures.bytes ∙ c.push_head.ensures ∙ ap (λ n. with_line_end (codes "table" ++ codes " " ++ decimal n)) (c.from.ensures ∙ c.count-count.ensures ∙ sym (length-map xs f)) in
    by_fault c.from_residual.result c.in_err-push.field-0.0 _ _ c.from_residual.ensures.1
    (head_breaks _ _ _ c.as_slice.result.now head (with_line_ends (map f xs)) is_head c.in_err-push.field-0.0.written c.in_err-push.ensures)

pub returns-in_err-push_row : goal.returns-in_err-push_row
returns-in_err-push_row g c =
    let f = table_row_text in
    let xs = c.args.table.now in
    let head : List ℕ = with_line_end (codes "table" ++ codes " " ++ decimal (length (map f xs))) in
    let is_head : c.as_slice.result.now ≡ head =
    c.as_slice.ensures.bytes ∙ c.push_head.ensures ∙ ap (λ n. with_line_end (codes "table" ++ codes " " ++ decimal n)) (c.from.ensures ∙ c.count-count.ensures ∙ sym (length-map xs f)) in
    let x : ℕ × List ℤ = (c.row-position.result.0, c.row-position.result.1.now) in
    let inside : c.loop-k.k < length xs = omega (arith, c.loop-k-test.true, c.count-count.ensures) in
    let is : x ≡ get_or xs c.loop-k.k x = sym (get_or_from_slice_get xs c.loop-k.k x x c.row-position.ensures) in
    by_fault c.from_residual-in_err-push_row.result c.in_err-push_row.field-0.0 _ _ c.from_residual-in_err-push_row.ensures.1
    (lines_break _ _ _ c.as_slice.result.now head (with_line_ends (map f xs)) is_head _ _ c.in_err-push_row.field-0.0.written c.in_ok-push.ensures
    (line_breaks _ _ _ _ _ (with_line_end (f x)) (with_line_end (f x)) _ (with_line_ends (map f (drop (c.loop-k.k + 1) xs))) (with_line_ends (map f xs))
    refl (next_line f xs c.loop-k.k x inside is) c.loop-k.invariant c.in_err-push_row.field-0.0.written c.in_err-push_row.ensures))

pub loop-k-preserved : goal.loop-k-preserved
loop-k-preserved g c =
    let f = table_row_text in
    let xs = c.args.table.now in
    let x : ℕ × List ℤ = (c.row-position.result.0, c.row-position.result.1.now) in
    let inside : c.loop-k.k < length xs = omega (arith, c.loop-k-test.true, c.count-count.ensures) in
    let is : x ≡ get_or xs c.loop-k.k x = sym (get_or_from_slice_get xs c.loop-k.k x x c.row-position.ensures) in
    line_more _ _ _ _ _ (with_line_end (f x)) (with_line_end (f x)) _ (with_line_ends (map f (drop (c.loop-k.k + 1) xs))) (with_line_ends (map f xs))
    refl (next_line f xs c.loop-k.k x inside is) c.loop-k.invariant _ c.in_ok-push_row.ensures

pub returns : goal.returns
returns g c =
    let f = table_row_text in
    let xs = c.args.table.now in
    let head : List ℕ = with_line_end (codes "table" ++ codes " " ++ decimal (length (map f xs))) in
    let is_head : c.as_slice.result.now ≡ head =
    c.as_slice.ensures.bytes ∙ c.push_head.ensures ∙ ap (λ n. with_line_end (codes "table" ++ codes " " ++ decimal n)) (c.from.ensures ∙ c.count-count.ensures ∙ sym (length-map xs f)) in
    let all : length xs ≤ c.loop-k.k = omega (arith, c.loop-k-test.false, c.count-count.ensures) in
    lines_end _ _ _ c.as_slice.result.now head (with_line_ends (map f xs)) is_head _ _ _ _ c.in_ok-push.ensures c.loop-k.invariant (no_line f xs c.loop-k.k all)
