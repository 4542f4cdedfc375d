use Rattle.std.proofs.Common.{◌≡◌, ◌++◌, ◌<◌, ◌≤◌, ℕ, [], length, take, drop, get_or, map}
use Rattle.frame_cut.specs.Traces.{count_of}
use Rattle.trace_record.specs.Facts.{facts_of}
use Rattle.trace_record.specs.Packed.{record_in}
use Rattle.edit_overlay.specs.CountedVolume.{RisesAtMost}
use Rattle.edit_overlay.specs.Reads.{Follow, HaveAgreed}
use Rattle.volume_records.specs.OfVolume.{numbers_of, records_of}
use Rattle.volume_records.proofs.remaking.renew.Given as goal

-- the records of the first traces are new, at a look each
abbrev pub invariant-loop-k : goal.invariant-loop-k
invariant-loop-k l = record {
  made : HaveAgreed l.overlay.reads → map facts_of (map record_in l.overlay.payloads) ≡ take l.k (records_of l.fn.overlay.volume l.fn.fields.pairs) ++ drop l.k (map facts_of (map record_in l.fn.overlay.payloads));
  within : (j : ℕ) → j < l.k → get_or (numbers_of l.overlay.payloads) j 0 ≤ length (get_or l.fn.overlay.volume.traces j []);
  each : length l.overlay.payloads ≡ count_of l.fn.overlay.volume;
  volume : l.overlay.volume ≡ l.fn.overlay.volume;
  prepared : l.overlay.prepared ≡ l.fn.overlay.volume;
  loaded : l.overlay.loaded ≡ l.fn.overlay.loaded;
  looks : RisesAtMost l.fn.overlay.looks l.overlay.looks l.k;
  reads : Follow l.fn.overlay.reads l.overlay.reads;
}
