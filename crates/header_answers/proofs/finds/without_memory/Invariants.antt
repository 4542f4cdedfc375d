use Rattle.std.proofs.Common.{◌≡◌, ◌+◌, ◌-◌}
use Rattle.std.specs.List.{range_with_len}
use Rattle.edit_overlay.specs.CountedVolume.{IsSeen}
use Rattle.edit_overlay.specs.Reads.{HaveAgreed}
use Rattle.bench_rules.specs.ManyTraces.{each_of}
use Rattle.bench_rules.specs.Tables.{column_of}
use Rattle.bench_rules.specs.RangeFaults.{fault_of}
use Rattle.header_answers.proofs.FoundLemmas.{number_at}
use Rattle.header_answers.proofs.finds.without_memory.Given as goal

-- the traces that are left decide, and each is looked at once
abbrev pub invariant-loop-k : goal.invariant-loop-k
invariant-loop-k l = record {
  left : HaveAgreed l.overlay.reads →
      fault_of (column_of l.fn.overlay.volume l.place (l.p + 1) l.b) ≡ fault_of (each_of (number_at l.fn.overlay.volume l.place) (range_with_len (l.p + 1 + l.k) (l.b - l.p - l.k)));
  seen : IsSeen l.fn.overlay l.overlay l.k;
}
