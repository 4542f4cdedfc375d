use Rattle.std.proofs.Common.{◌≡◌, ℕ, ◌+◌, ◌*◌, ap, ap₂, ◌∙◌}
use Rattle.sample_codes.specs.Formats.{value_width, is_float}
use Rattle.frame_cut.specs.Frames.{extensions_of}
use Rattle.trace_view.specs.Shown.{bytes_of, head_of}
use Rattle.trace_record.specs.Statistics.{statistics_of}
use Rattle.trace_record.proofs.SampleLemmas.{placed_samples}
use Rattle.trace_record.proofs.of_samples.gathered_statistics.Goals as goal

pub returns-clause-value : goal.returns-clause-value
returns-clause-value c =
    let h = head_of c.args.view.now in
    let t = bytes_of c.args.view.now in
    let front : 240 * (1 + c.from.result) ≡ 240 * (1 + extensions_of h t) = ap (λ (k : ℕ). 240 * (1 + k)) (c.from.ensures ∙ c.extension_count.ensures) in
    let wide : c.from-2.result ≡ value_width c.args.format = c.from-2.ensures ∙ c.width-width.ensures.width in
    c.read_statistics.ensures.value
    ∙ ap (statistics_of (is_float c.args.format)) (placed_samples h.order c.args.format c.args.number c.args.from _ (240 * (1 + extensions_of h t)) t (ap₂ (λ a b. a + b) front (ap₂ (λ a b. a * b) wide c.from-3.ensures)))
