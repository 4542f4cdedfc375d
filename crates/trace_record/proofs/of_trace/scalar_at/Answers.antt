use Rattle.std.proofs.Common.{◌≡◌, rules, SFits, ap, ◌∙◌}
use Rattle.std.specs.Prelude.{length, take, drop, ◌-◌}
use Rattle.std.specs.Int.{w16}
use Rattle.std.proofs.lemmas.Int.{to_z-of_z}
use Rattle.num_order.specs.Number.{num}
use Rattle.frame_cut.specs.declared.file_head.Head.{Head}
use Rattle.trace_view.specs.Shown.{bytes_of, head_of}
use Rattle.trace_record.proofs.HeaderLemmas.{length-main, main_value}
use Rattle.trace_record.proofs.of_trace.scalar_at.Goals as goal

pub short_in-requires-clause-main : goal.short_in-requires-clause-main
short_in-requires-clause-main c =
    let v = c.args.view.now in
    ap length c.requires.main ∙ length-main (head_of v) (bytes_of v) v.whole

pub returns-then-place-eq0 : goal.returns-then-place-eq0
returns-then-place-eq0 c has =
    let v = c.args.view.now in
    let fits : SFits w16 c.short_in.result = search rules in
    let first : c.args.place.extension ≡ 0 = search rules in
    to_z-of_z w16 _ fits
    ∙ main_value (head_of v) (bytes_of v) c.args.main.now c.args.place c.short_in.result c.requires.main first c.requires.place.inside (c.short_in.ensures ∙ ap (λ (h : Head). num h.order c.args.place.kind (take c.args.place.kind.size (drop (c.args.place.byte - 1) c.args.main.now))) c.head.ensures)
