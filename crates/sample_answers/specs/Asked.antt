-- The samples that are asked of a trace, and those of them that are left.
use Rattle.std.specs.Prelude.{◌≡◌, ℕ, ℤ, ◌+◌, ◌-◌, ◌≤◌, true, IfSome, List, filter, filter_map}
use Rattle.std.specs.List.{range_with_len}
use Rattle.frame_cut.specs.declared.file_head.Head.{Head}
use Rattle.trace_view.specs.Shown.{bytes_of, head_of}
use Rattle.trace_view.specs.Values.{sample_of}
use Rattle.bench_rules.specs.declared.sample_range.SampleRange.{SampleRange}
use Rattle.bench_rules.specs.Sections.{is_stepped}
use Rattle.sample_answers.specs.Plain.{ArePlain}
use Rattle.sample_answers.specs.declared.asked.AskedSamples.TheInside.{Inside}

-- of the numbers from k up to the last those that are asked for
abbrev pub numbers_behind : SampleRange → (k : ℕ) → List ℕ
numbers_behind r k = filter (is_stepped r) (range_with_len k (r.to + 1 - k))

-- the samples with these numbers, as far as a trace of these bytes has them
abbrev pub samples_behind : Head → SampleRange → (k : ℕ) → List ℕ → List ℤ
samples_behind h r k t = filter_map (sample_of h t) (numbers_behind r k)

-- the samples from the next one on
abbrev pub left_in : Inside → List ℤ
left_in s = samples_behind (head_of s.trace) s.range s.next (bytes_of s.trace)

-- the next number lies some steps behind the first, or is the first; and what is read is the trace's
pub record IsAtOne (s : Inside) : Type 0 where
  pub behind : s.range.from ≤ s.next
  pub stepped : is_stepped s.range s.next ≡ true
  pub plain : IfSome s.plain (λ p. ArePlain p (head_of s.trace) (bytes_of s.trace))
