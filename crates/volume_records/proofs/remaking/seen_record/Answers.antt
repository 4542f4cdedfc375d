use Rattle.std.proofs.Common.{◌∙◌, ap}
use Rattle.frame_cut.specs.declared.file_head.Head.{Head}
use Rattle.trace_record.specs.Facts.{Facts}
use Rattle.trace_record.specs.OfTrace.{record_of}
use Rattle.volume_records.proofs.SeenLemmas.{geometry_in_view, same_extensions, of_view, few_in_view}
use Rattle.volume_records.proofs.remaking.seen_record.Goals as goal

pub returns-clause-record : goal.returns-clause-record
returns-clause-record c = λ sure.
    let v = c.args.overlay.now.volume in
    let m = c.args.fields.now in
    let view = c.in-Some.trace in
    let seen = rw (c.in_ok-trace.was, c.in-Some.is) at c.look.follows.holds-at-none in
    let shape = rw c.in-Some.is at c.in_ok-trace.ensures.shape in
    let shown = seen.trace sure in
    c.record_of.ensures (geometry_in_view view m c.geometry_stands.ensures (same_extensions v c.args.p m.extensions view c.requires.fields shape))
    ∙ of_view (λ (h : Head). record_of h m.pairs) v c.args.p view shown

pub returns-clause-few : goal.returns-clause-few
returns-clause-few c =
    let v = c.args.overlay.now.volume in
    let m = c.args.fields.now in
    let view = c.in-Some.trace in
    let shape = rw c.in-Some.is at c.in_ok-trace.ensures.shape in
    few_in_view v c.args.p c.record_of.result.number view
    (ap (λ (f : Facts). f.number) (c.record_of.ensures (geometry_in_view view m c.geometry_stands.ensures (same_extensions v c.args.p m.extensions view c.requires.fields shape)))) shape
