use Rattle.std.proofs.Common.{subst, List, map, IsTrue}
use Rattle.std.proofs.lemmas.List.Sorted.{All-permutation}
use Rattle.std.specs.List.Sorted.{IsPermutation}
use Rattle.trace_record.specs.Packed.{record_in}
use Rattle.time_slice.specs.Fitting.{value_fits}
use Rattle.bench_rules.specs.SlicesOfRecords.{with_sample_of}
use Rattle.bench_rules.specs.declared.row.Row.{Row}
use Rattle.time_slice.proofs.OrderLemmas.{slice_from_sorted}
use Rattle.time_slice.proofs.of_volume.rows.Goals as goal

pub returns-clause-rows : goal.returns-clause-rows
returns-clause-rows c = λ sure.
    let v = c.args.overlay.now.volume in
    let sorted = c.sort_unstable.new.self.items in
    slice_from_sorted (with_sample_of v.head c.args.k (map record_in c.args.overlay.now.payloads) v.traces) sorted
    (subst (λ (rows : List Row). IsPermutation rows sorted) (c.in_ok-rows.ensures.rows sure) c.sort_unstable.ensures.permutation)
    c.sort_unstable.ensures.sorted

pub returns-clause-fits : goal.returns-clause-fits
returns-clause-fits c =
    All-permutation (λ r. IsTrue (value_fits c.args.overlay.now.volume.head.format r.value)) _ _ c.sort_unstable.ensures.permutation c.in_ok-rows.ensures.fits
