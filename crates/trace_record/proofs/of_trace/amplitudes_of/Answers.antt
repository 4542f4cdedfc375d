use Rattle.std.proofs.Common.{◌≡◌, ℕ, sym, subst, ◌∙◌}
use Rattle.sample_codes.specs.Formats.{values}
use Rattle.frame_cut.specs.Frames.{sample_count}
use Rattle.trace_view.specs.Shown.{bytes_of, head_of}
use Rattle.trace_view.specs.Values.{sample_bytes, has_floats}
use Rattle.trace_record.specs.Packable.{none_have, some_have}
use Rattle.trace_record.specs.Statistics.{HasRange, amplitudes_in, statistics_with}
use Rattle.trace_record.specs.declared.amplitudes.Amplitudes.{Amplitudes}
use Rattle.trace_record.proofs.FactsLemmas.{counted}
use Rattle.trace_record.proofs.of_trace.amplitudes_of.Goals as goal

pub returns-in-Some-clause-range : goal.returns-in-Some-clause-range
returns-in-Some-clause-range c =
    let h = head_of c.args.view.now in
    let t = bytes_of c.args.view.now in
    let s = c.in-Some.statistics in
    let number : s.number ≡ sample_count h t = counted (has_floats h) h.order (values h.format) (sample_count h t) (sample_bytes h t) s (sym c.in-Some.is ∙ c.statistics_of.ensures.value) in
    some_have _ _
    (subst (λ (a : Amplitudes). HasRange (statistics_with a (sample_count h t))) (sym c.amplitudes.ensures)
    (subst (λ (n : ℕ). HasRange (statistics_with (amplitudes_in s) n)) number c.in-Some.ensures.range))

pub returns-in-None-clause-range : goal.returns-in-None-clause-range
returns-in-None-clause-range c = none_have _
