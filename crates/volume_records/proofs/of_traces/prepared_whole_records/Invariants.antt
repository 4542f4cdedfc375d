use Rattle.std.proofs.Common.{◌≡◌, ◌+◌, ◌-◌, ◌<◌, ◌≤◌, ℕ, length, take, drop, get_or}
use Rattle.std.specs.Prelude.{map}
use Rattle.frame_cut.specs.Traces.{trace_at}
use Rattle.trace_record.specs.Facts.{facts_of}
use Rattle.edit_overlay.specs.CountedVolume.{IsSeen}
use Rattle.edit_overlay.specs.Reads.{HaveAgreed}
use Rattle.volume_records.specs.OfVolume.{records_of}
use Rattle.volume_records.proofs.of_traces.prepared_whole_records.Given as goal

-- the first records are made, at a look each
abbrev pub invariant-loop-k : goal.invariant-loop-k
invariant-loop-k l = record {
  made : HaveAgreed l.overlay.reads → map facts_of l.records ≡ take l.k (drop (l.fn.a - 1) (records_of l.fn.overlay.prepared l.fn.fields.pairs));
  few : (j : ℕ) → j < l.k → get_or (map (λ r. r.number) l.records) j 0 ≤ length (trace_at l.fn.overlay.prepared (l.fn.a + j));
  count : length l.records ≡ l.k;
  seen : IsSeen l.fn.overlay l.overlay l.k;
  memory : l.initial.room ≤ l.room;
}
