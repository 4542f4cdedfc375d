use Rattle.std.proofs.Common.{◌≡◌, [], append-nil, decimal, rules, SFits}
use Rattle.std.specs.Int.{w128}
use Rattle.std.proofs.lemmas.Int.{to_z-of_z}
use Rattle.line_texts.proofs.OutLemmas.{by_fault}
use Rattle.script_text.proofs.SectionLemmas.{at_end, begun, breaks_at_first, breaks_further, goes_further, row_ends}
use Rattle.script_text.proofs.section_texts.push_section_row.Goals as goal

pub samples-init : goal.samples-init
samples-init g c =
    let fit : SFits w128 c.from.result = search rules in
    let first : c.as_slice.result.now ≡ decimal c.args.position =
    rw (c.as_slice.ensures.bytes, c.put_number.ensures.text, to_z-of_z w128 c.from.result fit, c.from.ensures, c.new-piece.ensures) (append-nil (decimal c.args.position)) in
    begun c.args.floats c.args.position c.args.samples _ _ _ _ (rw first at c.in_ok-push.ensures)

pub returns-in_err-push : goal.returns-in_err-push
returns-in_err-push g c =
    let fit : SFits w128 c.from.result = search rules in
    let first : c.as_slice.result.now ≡ decimal c.args.position =
    rw (c.as_slice.ensures.bytes, c.put_number.ensures.text, to_z-of_z w128 c.from.result fit, c.from.ensures, c.new-piece.ensures) (append-nil (decimal c.args.position)) in
    let broken = breaks_at_first c.args.floats c.args.position c.args.samples _ _ _ c.in_err-push.field-0.0.written (rw first at c.in_err-push.ensures) in
    (broken.0, broken.1, by_fault c.from_residual.result c.in_err-push.field-0.0 _ _ c.from_residual.ensures.1 broken.2)

pub samples-preserved : goal.samples-preserved
samples-preserved g c =
    let fit : SFits w128 c.in-Some.sample = search rules in
    let word = c.in_ok-push_sample.ensures in
    goes_further c.args.floats c.args.position c.args.samples _ _ _ _ _ c.in-Some.sample c.next.new.self word.0 (rw (to_z-of_z w128 c.in-Some.sample fit) at word.1) (rw c.in-Some.ensures.steps at c.samples.invariant) _ word.2

pub returns-in_err-push_sample : goal.returns-in_err-push_sample
returns-in_err-push_sample g c =
    let fit : SFits w128 c.in-Some.sample = search rules in
    let word = c.in_err-push_sample.ensures in
    let broken = breaks_further c.args.floats c.args.position c.args.samples _ _ _ _ _ c.in-Some.sample c.next.new.self word.0 (rw (to_z-of_z w128 c.in-Some.sample fit) at word.1) (rw c.in-Some.ensures.steps at c.samples.invariant) c.in_err-push_sample.field-0.0.written word.2 in
    (broken.0, broken.1, by_fault c.from_residual-in_err-push_sample.result c.in_err-push_sample.field-0.0 _ _ c.from_residual-in_err-push_sample.ensures.1 broken.2)

pub returns : goal.returns
returns g c =
    let none : c.samples.samples ≡ [] = at_end c.next.result c.samples.samples c.next.new.self c.next.ensures.steps (λ x e. absurd (c.in_default.not-Some x e)) in
    row_ends c.args.floats c.args.position c.args.samples _ _ _ _ _ _ _ c.push-2.result none c.samples.invariant c.push-2.ensures
