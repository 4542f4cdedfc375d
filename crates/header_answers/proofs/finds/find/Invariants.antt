use Rattle.std.proofs.Common.{◌≤◌}
use Rattle.edit_overlay.specs.CountedVolume.{IsSeen}
use Rattle.edit_overlay.specs.Reads.{HaveAgreed}
use Rattle.header_answers.proofs.FoundLemmas.{IsFound}
use Rattle.header_answers.proofs.finds.find.Given as goal

-- what was found so far, and a look at each trace
abbrev pub invariant-loop-k : goal.invariant-loop-k
invariant-loop-k l = record {
  found : HaveAgreed l.overlay.reads → IsFound l.fn.overlay.volume l.place l.low l.high l.a l.b l.k l.found.items;
  seen : IsSeen l.fn.overlay l.overlay l.k;
  memory : l.initial.room ≤ l.room;
}
