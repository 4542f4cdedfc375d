use Rattle.std.proofs.Common.{◌≡◌, map, take, ◌≤◌}
use Rattle.edit_overlay.specs.CountedVolume.{IsSeen}
use Rattle.edit_overlay.specs.Reads.{HaveAgreed}
use Rattle.bench_rules.specs.SampleStatistics.{samples_at, trace_statistics}
use Rattle.sample_answers.proofs.among.numbers_among.Given as goal

-- what the samples of the first traces say, and a look at each
abbrev pub invariant-loop-p : goal.invariant-loop-p
invariant-loop-p l = record {
  found : HaveAgreed l.overlay.reads → l.found.items ≡ map (λ p. trace_statistics p (samples_at l.fn.overlay.volume p)) (take l.p-index l.traces);
  seen : IsSeen l.fn.overlay l.overlay l.p-index;
  memory : l.initial.room ≤ l.room;
}
