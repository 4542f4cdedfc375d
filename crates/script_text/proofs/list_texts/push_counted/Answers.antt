use Rattle.std.proofs.Common.{◌≡◌, ◌+◌, ◌++◌, ◌∙◌, ℕ, List, map, drop, codes, decimal, ap, arith}
use Rattle.line_texts.specs.Lines.{with_line_end, with_line_ends}
use Rattle.line_texts.proofs.OutLemmas.{by_fault, not_yet, next_line, no_line, line_more, line_breaks, head_breaks, lines_break, lines_end}
use Rattle.script_text.proofs.list_texts.push_counted.Goals as goal

pub returns-in_err-push : goal.returns-in_err-push
returns-in_err-push g c =
    let f = g.T.Listed.text c.args.word.now in
    let xs = c.args.items.now in
    let head : List ℕ = with_line_end (c.args.list.now ++ codes " " ++ decimal c.args.count) in
    let is_head : c.as_slice.result.now ≡ head = c.as_slice.ensures.bytes ∙ c.push_head.ensures in
    by_fault c.from_residual.result c.in_err-push.field-0.0 _ _ c.from_residual.ensures.1
    (head_breaks _ _ _ c.as_slice.result.now head (with_line_ends (map f xs)) is_head c.in_err-push.field-0.0.written c.in_err-push.ensures)

pub loop-item-init : goal.loop-item-init
loop-item-init g c = not_yet _ _ _ (omega (arith, c.in_ok-push.ensures.counted))

pub returns-in_err-push-2 : goal.returns-in_err-push-2
returns-in_err-push-2 g c =
    let f = g.T.Listed.text c.args.word.now in
    let xs = c.args.items.now in
    let head : List ℕ = with_line_end (c.args.list.now ++ codes " " ++ decimal c.args.count) in
    let is_head : c.as_slice.result.now ≡ head = c.as_slice.ensures.bytes ∙ c.push_head.ensures in
    by_fault c.from_residual-in_err-push-2.result c.in_err-push-2.field-0.0 _ _ c.from_residual-in_err-push-2.ensures.1
    (lines_break _ _ _ c.as_slice.result.now head (with_line_ends (map f xs)) is_head _ _ c.in_err-push-2.field-0.0.written c.in_ok-push.ensures
    (line_breaks _ _ _ _ _ c.as_slice-in-loop-item.result.now (with_line_end (f c.item-item.result)) _ (with_line_ends (map f (drop (c.loop-item.item-index + 1) xs))) (with_line_ends (map f xs))
    (c.as_slice-in-loop-item.ensures.bytes ∙ c.push_byte.ensures ∙ ap (λ (s : List ℕ). with_line_end s) c.push_text.ensures.text) (next_line f xs c.loop-item.item-index c.item-item.result c.loop-item-test.true c.item-item.is) c.loop-item.invariant c.in_err-push-2.field-0.0.written c.in_err-push-2.ensures))

pub loop-item-preserved : goal.loop-item-preserved
loop-item-preserved g c =
    let f = g.T.Listed.text c.args.word.now in
    let xs = c.args.items.now in
    line_more _ _ _ _ _ c.as_slice-in-loop-item.result.now (with_line_end (f c.item-item.result)) _ (with_line_ends (map f (drop (c.loop-item.item-index + 1) xs))) (with_line_ends (map f xs))
    (c.as_slice-in-loop-item.ensures.bytes ∙ c.push_byte.ensures ∙ ap (λ (s : List ℕ). with_line_end s) c.push_text.ensures.text) (next_line f xs c.loop-item.item-index c.item-item.result c.loop-item-test.true c.item-item.is) c.loop-item.invariant _ c.in_ok-push-2.ensures

pub returns : goal.returns
returns g c =
    let f = g.T.Listed.text c.args.word.now in
    let xs = c.args.items.now in
    let head : List ℕ = with_line_end (c.args.list.now ++ codes " " ++ decimal c.args.count) in
    let is_head : c.as_slice.result.now ≡ head = c.as_slice.ensures.bytes ∙ c.push_head.ensures in
    lines_end _ _ _ c.as_slice.result.now head (with_line_ends (map f xs)) is_head _ _ _ _ c.in_ok-push.ensures c.loop-item.invariant (no_line f xs c.loop-item.item-index c.loop-item-test.false)
