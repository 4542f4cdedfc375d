use Rattle.std.proofs.Common.{◌≡◌, ◌≤◌, ◌*◌, ◌^◌, drop, ap, ◌∙◌, arith}
use Rattle.sample_codes.specs.Formats.{value_width, is_float}
use Rattle.trace_view.specs.Shown.{bytes_of, head_of}
use Rattle.trace_view.specs.Values.{samples_in, sample_bytes}
use Rattle.trace_record.specs.Statistics.{statistics_of}
use Rattle.trace_record.proofs.SampleLemmas.{joined_samples, few_samples}
use Rattle.trace_record.proofs.of_samples.block_statistics.Goals as goal

pub joined-statistics-requires-clause-few_first : goal.joined-statistics-requires-clause-few_first
joined-statistics-requires-clause-few_first c =
    let h = head_of c.args.view.now in
    let few : c.loop-from.from ≤ 2 ^ 32 = omega arith in
    few_samples (is_float c.args.format) h.order c.args.format c.loop-from.from _ (sample_bytes h (bytes_of c.args.view.now)) _ few c.loop-from.invariant.so_far

pub joined-statistics-requires-clause-few_second : goal.joined-statistics-requires-clause-few_second
joined-statistics-requires-clause-few_second c =
    let h = head_of c.args.view.now in
    let few : c.min-number.result ≤ 2 ^ 32 = omega arith in
    few_samples (is_float c.args.format) h.order c.args.format c.min-number.result _ (drop (value_width c.args.format * c.loop-from.from) (sample_bytes h (bytes_of c.args.view.now))) _ few c.gathered_statistics-block.ensures.value

pub loop-from-preserved : goal.loop-from-preserved
loop-from-preserved c =
    let h = head_of c.args.view.now in
    record {
      inside = omega arith;
      range = c.joined-statistics.ensures.range;
      so_far = c.joined-statistics.ensures.value
          ∙ joined_samples (is_float c.args.format) h.order c.args.format c.loop-from.from c.min-number.result (sample_bytes h (bytes_of c.args.view.now)) _ _ c.loop-from.invariant.so_far c.gathered_statistics-block.ensures.value;
    }

pub returns-clause-value : goal.returns-clause-value
returns-clause-value c =
    let h = head_of c.args.view.now in
    let all : c.loop-from.from ≡ c.sample_count-count.result = omega arith in
    c.loop-from.invariant.so_far ∙ ap (λ n. statistics_of (is_float c.args.format) (samples_in h.order c.args.format n (sample_bytes h (bytes_of c.args.view.now)))) (all ∙ c.sample_count-count.ensures)
