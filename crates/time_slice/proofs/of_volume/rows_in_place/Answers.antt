use Rattle.std.proofs.Common.{◌≡◌, ◌+◌, ◌-◌, ◌<◌, ◌++◌, ◌∙◌, ℕ, ℤ, List, [], Some, ap, subst, sym, arith, get_or, IfSome, IsTrue}
use Rattle.std.specs.Prelude.{slice_get}
use Rattle.frame_cut.specs.Traces.{count_of, trace_at}
use Rattle.frame_cut.specs.Volume.{Volume}
use Rattle.trace_view.specs.Values.{sample_of}
use Rattle.trace_record.specs.Facts.{facts_of}
use Rattle.trace_record.specs.Packed.{record_in}
use Rattle.trace_record.specs.declared.packed_record.PackedRecord.{PackedRecord}
use Rattle.edit_overlay.specs.CountedVolume.{CountedVolume, IsSeen}
use Rattle.edit_overlay.specs.Reads.{HaveAgreed}
use Rattle.time_slice.specs.Fitting.{value_fits}
use Rattle.time_slice.specs.Shown.{row_at}
use Rattle.time_slice.proofs.CacheLemmas.{row_of_cell}
use Rattle.bench_rules.specs.Slices.{row_of}
use Rattle.bench_rules.specs.declared.row.Row.{Row}
use Rattle.time_slice.proofs.PassLemmas.{row_is_written, all_written, fits_more}
use Rattle.bench_rules.proofs.SeenLemmas.{seen_more}
use Rattle.time_slice.proofs.of_volume.rows_in_place.Goals as goal

pub loop-at-preserved : goal.loop-at-preserved
loop-at-preserved c =
    let o : CountedVolume PackedRecord = c.args.overlay.now in
    let v : Volume = o.volume in
    let k = c.args.k in
    let i = c.loop-at.at in
    let now : CountedVolume PackedRecord = c.read_ahead.new.self in
    let told = c.loop-at.invariant in
    let seen : IsSeen o now i = subst (λ (x : CountedVolume PackedRecord). IsSeen o x i) (sym c.read_ahead.ensures) told.seen in
    let old : List Row = c.loop-at.rows.items in
    let new : List Row = c.push_row.new.rows.items in
    let sample = c.in_ok-sample.ensures in
    let s = c.in_ok-sample.sample in
    let packed : PackedRecord = c.payload-packed.result in
    let there : i < count_of v = omega (arith, c.loop-at-test.true, c.count-count.ensures) in
    let place : i + 1 - 1 ≡ i = omega arith in
    let here : slice_get o.payloads i ≡ Some packed =
    ap (λ (ps : List PackedRecord). slice_get ps i) (sym seen.payloads) ∙ (ap (λ (n : ℕ). slice_get now.payloads n) (sym place) ∙ c.payload-packed.ensures) in
    let grew : new ≡ old ++ row_of (i + 1) (facts_of (record_in packed)) s =
    c.in_ok-push_row.ensures.rows
    ∙ ap (λ (cell : ℤ × ℤ). old ++ row_at (i + 1) cell s) c.cell.ensures
    ∙ ap (λ (l : List Row). old ++ l) (row_of_cell (i + 1) (facts_of (record_in packed)) s) in
    record {
      written = λ sure. row_is_written v.head k i o.payloads v.traces packed s old new _ here there
          (sample.sample sure ∙ (ap (λ (u : Volume). sample_of u.head (trace_at u (i + 1)) k) seen.volume ∙ ap (λ (n : ℕ). sample_of v.head (get_or v.traces n []) k) place))
          grew (told.written (subst (λ (x : CountedVolume PackedRecord). HaveAgreed x.reads) c.read_ahead.ensures (sample.reads.agreed sure)));
      fits = fits_more v.head.format old new (i + 1) (facts_of (record_in packed)) s grew
          (subst (λ (u : Volume). IfSome s (λ x. IsTrue (value_fits u.head.format x))) seen.volume sample.fits) told.fits;
      seen = seen_more o now c.sample_in.new.overlay i seen sample.looked sample.reads;
      memory = grind arith;
    }

pub returns-clause-rows : goal.returns-clause-rows
returns-clause-rows c = λ sure.
    let o : CountedVolume PackedRecord = c.args.overlay.now in
    all_written o.volume.head c.args.k c.loop-at.at o.payloads o.volume.traces c.loop-at.rows.items _ (omega (arith, c.loop-at-test.false, c.count-count.ensures)) (c.loop-at.invariant.written sure)
