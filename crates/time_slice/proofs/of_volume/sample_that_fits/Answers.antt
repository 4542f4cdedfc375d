use Rattle.std.proofs.Common.{rules, arith, ap, sym, ◌∙◌, Some, ◌≡◌}
use Rattle.std.specs.Int.{w128}
use Rattle.std.proofs.lemmas.Int.{to_z-of_z}
use mir.Val.{SFits}
use Rattle.frame_cut.specs.declared.file_head.Head.{Head}
use Rattle.sample_codes.specs.Formats.{values, sample_value}
use Rattle.trace_view.specs.Shown.{head_of, bytes_of}
use Rattle.time_slice.proofs.PassLemmas.{sample_at}
use Rattle.time_slice.proofs.of_volume.sample_that_fits.Goals as goal

pub returns-in-Some-clause-sample : goal.returns-in-Some-clause-sample
returns-in-Some-clause-sample c =
    let fits : SFits w128 c.number_of.result = search rules in
    let h = head_of c.args.trace.now in
    let f = c.in_ok-format.format in
    let same : c.head-head.result.now ≡ h = c.head-head.ensures in
    let reads : values h.format ≡ Some f = ap (λ (g : Head). values g.format) (sym same) ∙ sym c.values.ensures.values ∙ c.in_ok-format.was in
    rw (to_z-of_z w128 c.number_of.result fits)
    (ap Some c.number_of.ensures.value
    ∙ ap (λ (g : Head). Some (sample_value g.order f c.in-Some.bytes.now)) same
    ∙ sample_at h f (bytes_of c.args.trace.now) c.args.k c.from.result c.from-width.result c.from-2.result c.in-Some.bytes.now reads
    (omega (arith, c.if-k-sample_count.false, c.sample_count.ensures))
    (c.from.ensures ∙ c.extension_count.ensures)
    (c.from-width.ensures ∙ c.width.ensures.width)
    c.from-2.ensures
    c.in-Some.ensures.bytes)
