use Rattle.std.proofs.Common.{◌≡◌, ◌≤◌, length, take}
use Rattle.std.specs.Prelude.{map}
use Rattle.trace_record.specs.Facts.{facts_of}
use Rattle.trace_record.specs.Packed.{record_in}
use Rattle.edit_overlay.specs.CountedVolume.{RisesAtMost}
use Rattle.volume_records.specs.OfVolume.{records_of}
use Rattle.volume_records.proofs.of_volume.push_records.Given as goal

-- the first traces have their records, at a look each
abbrev pub invariant-loop-k : goal.invariant-loop-k
invariant-loop-k l = record {
  count : length l.loading.payloads ≡ l._k;
  made : map facts_of (map record_in l.loading.payloads) ≡ take (length l.loading.payloads) (records_of l.fn.loading.volume l.fn.fields.pairs);
  volume : l.loading.volume ≡ l.fn.loading.volume;
  looks : RisesAtMost l.fn.loading.looks l.loading.looks (length l.loading.payloads);
  loaded : l.loading.loaded ≡ l.fn.loading.loaded;
  reads : l.loading.reads ≡ l.fn.loading.reads;
  memory : l.initial.room ≤ l.room;
}
