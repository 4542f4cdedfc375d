use Rattle.std.proofs.Common.{ap, ◌∙◌, length}
use Rattle.frame_cut.specs.declared.file_head.Head.{Head}
use Rattle.trace_view.specs.Shown.{head_of}
use Rattle.trace_view.specs.Values.{samples_in}
use Rattle.sample_codes.specs.Formats.{is_float}
use Rattle.trace_record.specs.Statistics.{statistics_of}
use Rattle.trace_record.proofs.SampleLemmas.{samples_in-take}
use Rattle.trace_record.proofs.of_samples.read_statistics.Goals as goal

pub returns-clause-value : goal.returns-clause-value
returns-clause-value c =
    let h = head_of c.args.view.now in
    c.slice_statistics.ensures.value
    ∙ ap (λ (k : Head). statistics_of (is_float c.args.format) (samples_in k.order c.args.format c.args.number c.read.new.out)) c.head.ensures
    ∙ ap (λ bs. statistics_of (is_float c.args.format) (samples_in h.order c.args.format c.args.number bs)) c.read.ensures
    ∙ ap (statistics_of (is_float c.args.format)) (samples_in-take h.order c.args.format c.args.number (length c.args.bytes.now) _ c.requires.whole)
