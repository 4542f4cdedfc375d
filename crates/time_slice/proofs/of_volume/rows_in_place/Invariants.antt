use Rattle.std.proofs.Common.{◌≡◌, ◌+◌, ◌++◌, map, drop, All, IsTrue, ◌≤◌}
use Rattle.trace_record.specs.Packed.{record_in}
use Rattle.edit_overlay.specs.CountedVolume.{IsSeen}
use Rattle.edit_overlay.specs.Reads.{HaveAgreed}
use Rattle.time_slice.specs.Fitting.{value_fits}
use Rattle.bench_rules.specs.SlicesOfRecords.{with_sample_of}
use Rattle.bench_rules.specs.Slices.{rows_from}
use Rattle.time_slice.proofs.of_volume.rows_in_place.Given as goal

-- the rows of the first traces are written, and the other traces are left, with their records
abbrev pub invariant-loop-at : goal.invariant-loop-at
invariant-loop-at l =
    let v = l.fn.overlay.volume in
    let all = with_sample_of v.head l.fn.k (map record_in l.fn.overlay.payloads) v.traces in
    record {
      written : HaveAgreed l.overlay.reads → l.rows.items ++ rows_from (l.at + 1) (drop l.at all) ≡ rows_from 1 all;
      fits : All (λ r. IsTrue (value_fits v.head.format r.value)) l.rows.items;
      seen : IsSeen l.fn.overlay l.overlay l.at;
      memory : l.initial.room ≤ l.room;
    }
