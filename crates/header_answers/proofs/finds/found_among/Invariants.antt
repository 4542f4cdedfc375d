use Rattle.std.proofs.Common.{◌≤◌}
use Rattle.edit_overlay.specs.CountedVolume.{IsSeen}
use Rattle.edit_overlay.specs.Reads.{HaveAgreed}
use Rattle.header_answers.proofs.FoundLemmas.{IsFoundAmong}
use Rattle.header_answers.proofs.finds.found_among.Given as goal

-- what was found so far, and a look at each trace
abbrev pub invariant-loop-p : goal.invariant-loop-p
invariant-loop-p l = record {
  found : HaveAgreed l.overlay.reads → IsFoundAmong l.fn.overlay.volume l.place l.low l.high l.traces l.p-index l.found.items;
  seen : IsSeen l.fn.overlay l.overlay l.p-index;
  memory : l.initial.room ≤ l.room;
}
