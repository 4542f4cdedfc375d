use Rattle.std.proofs.Common.{◌≡◌, length, map, ◌≤◌}
use Rattle.edit_overlay.specs.CountedVolume.{IsSeen}
use Rattle.edit_overlay.specs.Reads.{HaveAgreed}
use Rattle.header_answers.specs.Seen.{seen_of}
use Rattle.header_answers.proofs.SeenLemmas.{numbers_so_far}
use Rattle.header_answers.proofs.all_extremes.extremes.Given as goal

-- what was seen of the first traces, at a look each
abbrev pub invariant-loop-k : goal.invariant-loop-k
invariant-loop-k l = record {
  numbers : HaveAgreed l.overlay.reads → l.seen.items ≡ map (λ e. seen_of (numbers_so_far l.fn.overlay.volume l.a l.k e.1)) l.names.items;
  each : length l.seen.items ≡ length l.names.items;
  seen : IsSeen l.fn.overlay l.overlay l.k;
  memory : l.initial.room ≤ l.room;
}
