use Rattle.std.proofs.Common.{◌≡◌, ◌+◌, ◌++◌, ℕ, ℤ, pos, List, drop, get_or, codes, decimal, ap, append-nil, rules, SFits}
use Rattle.std.specs.Int.{w128}
use Rattle.std.proofs.lemmas.Int.{to_z-of_z}
use Rattle.std.specs.Fmt.{signed_decimal}
use Rattle.script_text.specs.HeaderTexts.{table_row_text}
use Rattle.line_texts.specs.Lines.{with_line_end}
use Rattle.line_texts.proofs.OutLemmas.{begun, by_fault, ends, line_more, line_breaks}
use Rattle.script_text.proofs.TableTextLemmas.{rest_of_row, row_is, next_number, no_number}
use Rattle.script_text.proofs.table_texts.push_row.Goals as goal

pub loop-number-init : goal.loop-number-init
loop-number-init g c =
    let fit : SFits w128 c.from.result = search rules in
    let first : c.as_slice.result.now ≡ decimal c.args.position =
    rw (c.as_slice.ensures.bytes, c.put_number.ensures.text, to_z-of_z w128 c.from.result fit, c.from.ensures, c.new-piece.ensures) (append-nil (decimal c.args.position)) in
    rw (row_is c.args.position c.args.numbers.now) (begun _ _ _ _ (decimal c.args.position) (rest_of_row c.args.numbers.now) (rw first at c.in_ok-push.ensures))

pub returns-in_err-push-2 : goal.returns-in_err-push-2
returns-in_err-push-2 g c =
    let xs : List ℤ = c.args.numbers.now in
    let i : ℕ = c.loop-number.number-index in
    let x : ℤ = get_or xs i (pos 0) in
    let fit : SFits w128 x = search rules in
    let is_piece : c.as_slice-in-loop-number.result.now ≡ codes " " ++ signed_decimal x =
    rw (c.as_slice-in-loop-number.ensures.bytes, c.put_byte.ensures, c.put_number-in-loop-number.ensures.text, to_z-of_z w128 x fit, c.clear.ensures) (ap (λ (s : List ℕ). codes " " ++ s) (append-nil (signed_decimal x))) in
    by_fault c.from_residual-in_err-push-2.result c.in_err-push-2.field-0.0 _ _ c.from_residual-in_err-push-2.ensures.1
    (line_breaks _ _ _ _ _ c.as_slice-in-loop-number.result.now (codes " " ++ signed_decimal x) _ (rest_of_row (drop (i + 1) xs)) (with_line_end (table_row_text (c.args.position, xs)))
    is_piece (next_number xs i (pos 0) c.loop-number-test.true) c.loop-number.invariant c.in_err-push-2.field-0.0.written c.in_err-push-2.ensures)

pub loop-number-preserved : goal.loop-number-preserved
loop-number-preserved g c =
    let xs : List ℤ = c.args.numbers.now in
    let i : ℕ = c.loop-number.number-index in
    let x : ℤ = get_or xs i (pos 0) in
    let fit : SFits w128 x = search rules in
    let is_piece : c.as_slice-in-loop-number.result.now ≡ codes " " ++ signed_decimal x =
    rw (c.as_slice-in-loop-number.ensures.bytes, c.put_byte.ensures, c.put_number-in-loop-number.ensures.text, to_z-of_z w128 x fit, c.clear.ensures) (ap (λ (s : List ℕ). codes " " ++ s) (append-nil (signed_decimal x))) in
    line_more _ _ _ _ _ c.as_slice-in-loop-number.result.now (codes " " ++ signed_decimal x) _ (rest_of_row (drop (i + 1) xs)) (with_line_end (table_row_text (c.args.position, xs)))
    is_piece (next_number xs i (pos 0) c.loop-number-test.true) c.loop-number.invariant _ c.in_ok-push-2.ensures

pub returns : goal.returns
returns g c =
    let xs : List ℤ = c.args.numbers.now in
    ends c.push-2.result _ _ _ _ _ _ (codes "\n") (with_line_end (table_row_text (c.args.position, xs)))
    (rw (no_number xs c.loop-number.number-index c.loop-number-test.false) at c.loop-number.invariant) c.push-2.ensures
