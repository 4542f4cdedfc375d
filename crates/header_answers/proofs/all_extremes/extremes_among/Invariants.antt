use Rattle.std.proofs.Common.{◌≡◌, length, map, take, ◌≤◌}
use Rattle.edit_overlay.specs.CountedVolume.{IsSeen}
use Rattle.edit_overlay.specs.Reads.{HaveAgreed}
use Rattle.bench_rules.specs.ChosenQueries.{numbers_of_each}
use Rattle.header_answers.specs.Seen.{seen_of}
use Rattle.header_answers.proofs.all_extremes.extremes_among.Given as goal

-- what was seen of the first traces, at a look each
abbrev pub invariant-loop-p : goal.invariant-loop-p
invariant-loop-p l = record {
  numbers : HaveAgreed l.overlay.reads → l.seen.items ≡ map (λ e. seen_of (numbers_of_each l.fn.overlay.volume e.1 (take l.p-index l.traces))) l.names.items;
  each : length l.seen.items ≡ length l.names.items;
  seen : IsSeen l.fn.overlay l.overlay l.p-index;
  memory : l.initial.room ≤ l.room;
}
