use Rattle.std.proofs.Common.{◌≡◌, length, take, map, ◌≤◌}
use Rattle.edit_overlay.specs.CountedVolume.{IsSeen}
use Rattle.edit_overlay.specs.Reads.{HaveAgreed}
use Rattle.bench_rules.specs.Problems.{delay_of}
use Rattle.problem_answers.proofs.delays.delays.Given as goal

-- the delays so far, and a look at each trace
abbrev pub invariant-loop-k : goal.invariant-loop-k
invariant-loop-k l = record {
  delays : HaveAgreed l.overlay.reads → l.delays.items ≡ map (delay_of l.fn.overlay.volume.head) (take l.k l.fn.overlay.volume.traces);
  count : length l.delays.items ≡ l.k;
  seen : IsSeen l.fn.overlay l.overlay l.k;
  memory : l.initial.room ≤ l.room;
}
