use Rattle.std.proofs.Common.{◌≡◌, ◌≤◌, ◌+◌, ◌^◌, length}
use Rattle.bench_rules.specs.SampleStatistics.{zeros_in}
use Rattle.sample_answers.proofs.of_trace.zeros_among.Given as goal

-- what was counted and what is left to be counted are all of them
abbrev pub invariant-samples : goal.invariant-samples
invariant-samples l = record {
  all : l.zeros + zeros_in l.floats l.samples ≡ zeros_in l.floats l.initial.samples;
  few : l.zeros + length l.samples ≤ 2 ^ 32;
}

abbrev pub decreases-samples : goal.decreases-samples
decreases-samples l = length l.samples
