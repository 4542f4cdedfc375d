use Rattle.std.proofs.Common.{◌≡◌, ◌-◌, take, map}
use Rattle.trace_record.specs.Packed.{record_in}
use Rattle.live_reports.specs.Exchanged.{with_records}
use Rattle.volume_records.proofs.remaking.set_records.Given as goal

-- the first of the records stand beside their traces
abbrev pub invariant-loop-k : goal.invariant-loop-k
invariant-loop-k l = record {
  put : map record_in l.overlay.payloads ≡ with_records (map record_in l.fn.overlay.payloads) (l.fn.a - 1) (take l.k l.fn.records);
  volume : l.overlay.volume ≡ l.fn.overlay.volume;
  prepared : l.overlay.prepared ≡ l.fn.overlay.volume;
  looks : l.overlay.looks ≡ l.fn.overlay.looks;
  loaded : l.overlay.loaded ≡ l.fn.overlay.loaded;
  reads : l.overlay.reads ≡ l.fn.overlay.reads;
}
