-- Samples of many traces. Samples are counted from 0, traces from 1.
use Rattle.std.specs.Prelude.{ℕ, ℤ, ◌+◌, ◌-◌, ◌%◌, ◌==◌, max, Bool, List, map, filter, filter_map, Ok}
use Rattle.std.specs.List.{range_with_len}
use Rattle.frame_cut.specs.declared.file_head.Head.{Head}
use Rattle.frame_cut.specs.Traces.{trace_at}
use Rattle.frame_cut.specs.Volume.{Volume}
use Rattle.trace_view.specs.Values.{sample_of}
use Rattle.bench_rules.specs.declared.answer.Answer.TheVariants as answers
use Rattle.bench_rules.specs.declared.sample_range.SampleRange.{SampleRange}
use Rattle.bench_rules.specs.declared.section.Section.{Section}
use Rattle.bench_rules.specs.Replies.{Reply, of_values}

-- of the numbers from the first on: k is that one, or lies a whole number of steps behind it; a step of 0 counts as 1
abbrev pub is_stepped : SampleRange → ℕ → Bool
is_stepped r k = (k - r.from) % max 1 r.step == 0

-- the numbers that are asked for: of those from the first to the last the first, and each that lies a whole number of steps behind it
abbrev pub numbers_asked : SampleRange → List ℕ
numbers_asked r = filter (is_stepped r) (range_with_len r.from (r.to + 1 - r.from))

-- the samples with these numbers, as far as a trace of these bytes has them
abbrev pub samples_in_range : Head → SampleRange → List ℕ → List ℤ
samples_in_range h r t = filter_map (sample_of h t) (numbers_asked r)

-- the samples that are asked of trace p
abbrev pub samples_asked : Volume → SampleRange → (p : ℕ) → List ℤ
samples_asked v r p = samples_in_range v.head r (trace_at v p)

-- a row for each of the traces: its position, and the samples that are asked of it
abbrev pub rows_of : Volume → Section → List (ℕ × List ℤ)
rows_of v s = map (λ p. (p, samples_asked v s.samples p)) s.traces

-- the section of these traces, where samples have values
abbrev pub section_answer_of_each : Volume → SampleRange → List ℕ → Reply
section_answer_of_each v range ps = of_values v.head (Ok (answers.Section (record { traces = ps; samples = range })))
