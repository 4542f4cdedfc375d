use Rattle.std.proofs.Common.{◌≡◌, ◌≤◌, ◌-◌, IsTrue, length, take, drop}
use Rattle.std.specs.Prelude.{map}
use Rattle.trace_record.specs.Facts.{facts_of}
use Rattle.trace_record.specs.Packed.{record_in}
use Rattle.trace_record.specs.Told.{tells_record}
use Rattle.edit_overlay.specs.CountedVolume.{IsSeen}
use Rattle.edit_overlay.specs.Reads.{HaveAgreed}
use Rattle.volume_records.specs.OfVolume.{headers_of}
use Rattle.volume_records.proofs.of_traces.prepared_records.Given as goal

-- the first records are made, at a look each, and at none where the record tells
abbrev pub invariant-loop-k : goal.invariant-loop-k
invariant-loop-k l = record {
  made : HaveAgreed l.overlay.reads → map facts_of l.records ≡ take l.k (drop (l.fn.a - 1) (headers_of l.fn.overlay.prepared l.fn.fields.pairs (map facts_of (map record_in l.fn.overlay.payloads))));
  numbers : map (λ r. r.number) l.records ≡ take l.k (drop (l.fn.a - 1) (map (λ r. r.number) (map record_in l.fn.overlay.payloads)));
  count : length l.records ≡ l.k;
  seen : IsSeen l.fn.overlay l.overlay l.k;
  told : IsTrue (tells_record l.fn.fields.pairs l.fn.at l.fn.size) → l.overlay ≡ l.fn.overlay;
  memory : l.initial.room ≤ l.room;
}
