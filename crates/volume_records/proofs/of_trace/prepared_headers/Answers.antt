use Rattle.std.proofs.Common.{ℕ, List, ◌∙◌, ap}
use Rattle.frame_cut.specs.declared.file_head.Head.{Head}
use Rattle.trace_record.specs.Facts.{Facts, facts_of, with_samples_of}
use Rattle.trace_record.specs.OfTrace.{record_of}
use Rattle.volume_records.proofs.SeenLemmas.{geometry_in_view, same_extensions, of_view}
use Rattle.volume_records.proofs.of_trace.prepared_headers.Goals as goal

pub returns-clause-record : goal.returns-clause-record
returns-clause-record c = λ sure.
    let v = c.args.overlay.now.prepared in
    let m = c.args.fields.now in
    let view = c.in-Some.headers in
    let seen = rw (c.in_ok-headers.was, c.in-Some.is) at c.look_prepared.follows.holds-at-none in
    let shape = rw c.in-Some.is at c.in_ok-headers.ensures.shape in
    let shown = seen.trace sure in
    c.record_with_samples_of.ensures (geometry_in_view view m c.geometry_stands.ensures (same_extensions v c.args.p m.extensions view c.requires.fields shape))
    ∙ of_view (λ (h : Head) (t : List ℕ). with_samples_of (record_of h m.pairs t) (facts_of c.args.samples.now)) v c.args.p view shown

pub returns-clause-number : goal.returns-clause-number
returns-clause-number c =
    let v = c.args.overlay.now.prepared in
    let m = c.args.fields.now in
    let view = c.in-Some.headers in
    let shape = rw c.in-Some.is at c.in_ok-headers.ensures.shape in
    ap (λ (f : Facts). f.number)
    (c.record_with_samples_of.ensures (geometry_in_view view m c.geometry_stands.ensures (same_extensions v c.args.p m.extensions view c.requires.fields shape)))
