use Rattle.std.proofs.Common.{◌∙◌, ◌≤◌, length, subst, arith}
use Rattle.std.specs.Prelude.{Option, IfSome}
use Rattle.edit_overlay.specs.Reads.{HaveAgreed}
use Rattle.frame_cut.specs.Traces.{trace_at}
use Rattle.trace_record.specs.declared.record.Record.{Record}
use Rattle.volume_records.specs.Laid.{HasSamplesOf, IsLaid}
use Rattle.volume_records.proofs.SeenLemmas.{if_ok, seen_more, seen_none}
use Rattle.volume_records.proofs.of_trace.record_after.Goals as goal

pub returns-in-Some-clause-record : goal.returns-in-Some-clause-record
returns-in-Some-clause-record c =
    let v = c.args.overlay.now.prepared in
    let has : HaveAgreed c.args.overlay.now.reads → HasSamplesOf v.head c.args.fields.now.pairs (trace_at v c.args.p) c.in-Some.known =
    λ sure. subst (λ (o : Option Record). IfSome o (HasSamplesOf v.head c.args.fields.now.pairs (trace_at v c.args.p))) c.in-Some.is (c.requires.samples sure) in
    if_ok c.laid_headers.result (λ r told sure. told sure ∙ has (c.laid_headers.ensures.seen.reads.agreed sure)) c.laid_headers.ensures.record

pub returns-in-Some-clause-few : goal.returns-in-Some-clause-few
returns-in-Some-clause-few c =
    let v = c.args.overlay.now.prepared in
    let few : c.in-Some.known.number ≤ length (trace_at v c.args.p) = subst (λ (o : Option Record). IfSome o (λ r. r.number ≤ length (trace_at v c.args.p))) c.in-Some.is c.requires.few in
    if_ok c.laid_headers.result (λ r same. omega (arith, same, few)) c.laid_headers.ensures.number

pub laid_headers-requires-clause-laid : goal.laid_headers-requires-clause-laid
laid_headers-requires-clause-laid c =
    let o = c.args.overlay.now in
    λ sure. subst (λ (k : Option Record). IfSome k (IsLaid o.volume o.prepared c.args.fields.now.pairs c.args.p c.args.at c.args.bytes.now)) c.in-Some.is (c.requires.laid sure)

pub returns-in-None-clause-seen : goal.returns-in-None-clause-seen
returns-in-None-clause-seen c =
    seen_more c.args.overlay.now c.args.overlay.now c.prepared_record.new.overlay 0 (seen_none c.args.overlay.now) c.prepared_record.ensures.looked c.prepared_record.ensures.reads

pub returns-in-Some-clause-told : goal.returns-in-Some-clause-told
returns-in-Some-clause-told c = λ known. c.laid_headers.ensures.told
