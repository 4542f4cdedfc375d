use Rattle.std.proofs.Common.{sym, ap, ◌∙◌, ◌≡◌, List, ℕ, map}
use Rattle.trace_record.specs.Facts.{facts_of}
use Rattle.trace_view.specs.Values.{sample_of}
use Rattle.trace_record.specs.declared.packed_record.PackedRecord.{PackedRecord}
use Rattle.trace_record.specs.declared.record.Record.{Record}
use Rattle.bench_rules.specs.KeptSlices.{kept_of, rows_again, after_slice}
use Rattle.trace_record.specs.Packed.{record_in}
use Rattle.bench_rules.specs.SlicesOfRecords.{with_sample_of}
use Rattle.bench_rules.specs.Slices.{slice_rows}
use Rattle.bench_rules.specs.declared.row.Row.{Row}
use Rattle.time_slice.proofs.CacheLemmas.{slice_again}
use Rattle.time_slice.proofs.KeptLemmas.{right_found, kept_of_some, asked_again, asked_first}
use Rattle.time_slice.proofs.slice_cache.SliceCache.slice.Goals as goal

pub returns-then-cached-clause-rows : goal.returns-then-cached-clause-rows
returns-then-cached-clause-rows c = λ sure.
    let v = c.args.overlay.now.volume in
    let rows : ℕ → List Row = λ k. slice_rows (with_sample_of v.head k (map record_in c.args.overlay.now.payloads) v.traces) in
    let kept = right_found (λ k. kept_of (rows k)) c.args.k c.args.self.now.entries (c.requires sure) (sym c.if-cached.ensures) in
    let again = slice_again (map facts_of (map record_in c.args.overlay.now.payloads)) (map (λ t. sample_of v.head t c.args.k) v.traces) in
    let same : c.new.result ≡ map record_in c.args.overlay.now.payloads = c.new.ensures ∙ ap (λ (ps : List PackedRecord). map record_in ps) c.payloads.ensures in
    c.in_ok-kept.ensures.rows (rows c.args.k) kept ∙ (ap (λ (l : List Record). rows_again (map facts_of l) (kept_of (rows c.args.k))) same ∙ again)

pub returns-then-cached-clause-ok : goal.returns-then-cached-clause-ok
returns-then-cached-clause-ok c = λ sure.
    let v = c.args.overlay.now.volume in
    let rows : ℕ → List Row = λ k. slice_rows (with_sample_of v.head k (map record_in c.args.overlay.now.payloads) v.traces) in
    let kept = right_found (λ k. kept_of (rows k)) c.args.k c.args.self.now.entries (c.requires sure) (sym c.if-cached.ensures) in
    let again = slice_again (map facts_of (map record_in c.args.overlay.now.payloads)) (map (λ t. sample_of v.head t c.args.k) v.traces) in
    let same : c.new.result ≡ map record_in c.args.overlay.now.payloads = c.new.ensures ∙ ap (λ (ps : List PackedRecord). map record_in ps) c.payloads.ensures in
    let answer : c.in_ok-kept.kept.items ≡ rows c.args.k =
    c.in_ok-kept.ensures.rows (rows c.args.k) kept ∙ (ap (λ (l : List Record). rows_again (map facts_of l) (kept_of (rows c.args.k))) same ∙ again) in
    c.in_ok-kept.ensures.ok (rows c.args.k) kept ∙ ap (after_slice c.args.self.now c.args.k) (sym answer)

pub returns-then-cached-clause-asked : goal.returns-then-cached-clause-asked
returns-then-cached-clause-asked c =
    let some = kept_of_some c.args.k c.args.self.now.entries (sym c.if-cached.ensures) in
    asked_again c.args.self.now c.answer_kept.new.self c.args.k c.in_ok-kept.kept.items some (c.in_ok-kept.ensures.ok some.rows some.is)

pub returns-clause-asked : goal.returns-clause-asked
returns-clause-asked c =
    asked_first c.args.self.now c.keep.new.self c.args.k c.in_ok-rows.rows.items (sym c.if-cached.ensures)
    (c.in_ok-keep.ensures.ok ∙ ap (after_slice c.args.self.now c.args.k) c.as_slice.ensures.value)
