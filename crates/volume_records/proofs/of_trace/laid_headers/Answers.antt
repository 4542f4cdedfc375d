use Rattle.std.proofs.Common.{◌∙◌, ap, ap₂, sym, List, ℕ, arith}
use Rattle.frame_cut.specs.Traces.{trace_at}
use Rattle.frame_cut.specs.declared.file_head.Head.{Head}
use Rattle.trace_record.specs.Facts.{facts_of, with_samples_of}
use Rattle.trace_record.specs.OfTrace.{record_of}
use Rattle.volume_records.proofs.SeenLemmas.{seen_at_most, seen_more, seen_none}
use Rattle.volume_records.proofs.of_trace.laid_headers.Goals as goal

pub returns-in-Some-clause-record : goal.returns-in-Some-clause-record
returns-in-Some-clause-record c = λ sure.
    let o = c.args.overlay.now in
    let fields = c.args.fields.now.pairs in
    let laid = c.requires.laid sure in
    let order = ap (λ (h : Head). h.order) (sym c.head-order.ensures) in
    c.in-Some.ensures.record o.volume.head (trace_at o.volume c.args.p) order laid.inside laid.known
    ∙ ap₂ (λ (h : Head) (t : List ℕ). with_samples_of (record_of h fields t) (facts_of c.args.known.now)) (sym laid.head) (sym laid.laid)

pub returns-in-Some-clause-seen : goal.returns-in-Some-clause-seen
returns-in-Some-clause-seen c = seen_at_most c.args.overlay.now c.args.overlay.now 0 1 (seen_none c.args.overlay.now) (omega arith)

pub returns-in-None-clause-seen : goal.returns-in-None-clause-seen
returns-in-None-clause-seen c =
    seen_more c.args.overlay.now c.args.overlay.now c.prepared_headers.new.overlay 0 (seen_none c.args.overlay.now) c.prepared_headers.ensures.looked c.prepared_headers.ensures.reads
