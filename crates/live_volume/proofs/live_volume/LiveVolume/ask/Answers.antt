use Rattle.std.proofs.Common.{◌∙◌, [], List, Ok, ap, sym, subst, inl, rules}
use Rattle.std.proofs.lemmas.Int.{to_z-of_z}
use Rattle.std.specs.Int.{w128}
use mir.Val.{SFits}
use Rattle.trace_record.specs.Facts.{Facts}
use Rattle.trace_record.specs.Tally.{Same, tally_of}
use Rattle.fault_live.specs.FaultKeys.{keys_of_faults}
use Rattle.fault_live.specs.OfFaults.{tally_of_faults}
use Rattle.edit_overlay.specs.CountedVolume.{RisesAtMost}
use Rattle.edit_overlay.specs.Reads.{HaveAgreed}
use Rattle.bench_rules.specs.declared.field.Field.{Field}
use Rattle.bench_rules.specs.declared.query.Query.{Query}
use Rattle.bench_rules.specs.declared.query.Query.TheVariants as queries
use Rattle.bench_rules.specs.Answer.{IsReply}
use Rattle.bench_rules.specs.Live.{AreRecordsOf, AreTriplesOf}
use Rattle.bench_rules.specs.Looks.{query_looks}
use Rattle.bench_rules.specs.State.{Session}
use Rattle.live_volume.specs.Held.{records_in}
use Rattle.live_volume.proofs.HeldLemmas.{held_again, looked_at}
use Rattle.live_volume.proofs.live_volume.LiveVolume.ask.Goals as goal

pub returns-in-Fields-clause-reply : goal.returns-in-Fields-clause-reply
returns-in-Fields-clause-reply c = λ sure.
    subst (λ (q : Query). IsReply c.args.self.now.state q c.fields_answer.result) (sym c.in-Fields.is) (c.fields_answer.ensures.reply c.args.self.now.state (sym (ap (λ (t : Session). t.state.fields) c.self.view_is)))

pub returns-in-Get-clause-reply : goal.returns-in-Get-clause-reply
returns-in-Get-clause-reply c = λ sure.
    subst (λ (q : Query). IsReply c.args.self.now.state q c.get_answer.result) (sym c.in-Get.is) (c.get_answer.ensures.reply c.args.self.now.state (sym (ap (λ (t : Session). t.state.volume) c.self.view_is)) (sym (ap (λ (t : Session). t.state.fields) c.self.view_is)) (sym (ap (λ (t : Session). t.state.on_disk) c.self.view_is)) sure)

pub returns-in-Sample-clause-reply : goal.returns-in-Sample-clause-reply
returns-in-Sample-clause-reply c = λ sure.
    subst (λ (q : Query). IsReply c.args.self.now.state q c.sample_answer.result) (sym c.in-Sample.is) (c.sample_answer.ensures.reply c.args.self.now.state (sym (ap (λ (t : Session). t.state.volume) c.self.view_is)) (sym (ap (λ (t : Session). t.state.on_disk) c.self.view_is)) sure)

pub returns-in-Table-clause-reply : goal.returns-in-Table-clause-reply
returns-in-Table-clause-reply c = λ sure.
    subst (λ (q : Query). IsReply c.args.self.now.state q c.table_answer.result) (sym (c.in-Table.is ∙ ap (λ (fs : List Field). queries.Table c.in-Table.a c.in-Table.b fs) (sym c.as_slice.ensures))) (c.table_answer.ensures.reply c.args.self.now.state (sym (ap (λ (t : Session). t.state.volume) c.self.view_is)) (sym (ap (λ (t : Session). t.state.fields) c.self.view_is)) (sym (ap (λ (t : Session). t.state.on_disk) c.self.view_is)) sure)

pub returns-in-Header-clause-reply : goal.returns-in-Header-clause-reply
returns-in-Header-clause-reply c = λ sure.
    subst (λ (q : Query). IsReply c.args.self.now.state q c.header_answer.result) (sym c.in-Header.is) (c.header_answer.ensures.reply c.args.self.now.state (sym (ap (λ (t : Session). t.state.volume) c.self.view_is)) (sym (ap (λ (t : Session). t.state.fields) c.self.view_is)) (sym (ap (λ (t : Session). t.state.on_disk) c.self.view_is)) sure)

pub returns-in-Extremes-clause-reply : goal.returns-in-Extremes-clause-reply
returns-in-Extremes-clause-reply c = λ sure.
    subst (λ (q : Query). IsReply c.args.self.now.state q c.extremes_answer.result) (sym c.in-Extremes.is) (c.extremes_answer.ensures.reply c.args.self.now.state (sym (ap (λ (t : Session). t.state.volume) c.self.view_is)) (sym (ap (λ (t : Session). t.state.fields) c.self.view_is)) (sym (ap (λ (t : Session). t.state.on_disk) c.self.view_is)) sure)

pub returns-in-Grid-clause-reply : goal.returns-in-Grid-clause-reply
returns-in-Grid-clause-reply c = λ sure.
    subst (λ (q : Query). IsReply c.args.self.now.state q c.cells.result) (sym c.in-Grid.is) (c.cells.ensures.reply c.args.self.now.state (c.grid-in-Grid.ensures sure))

pub returns-in-Inlines-clause-reply : goal.returns-in-Inlines-clause-reply
returns-in-Inlines-clause-reply c = λ sure.
    subst (λ (q : Query). IsReply c.args.self.now.state q c.inlines.result) (sym c.in-Inlines.is) (c.inlines.ensures.reply c.args.self.now.state (c.grid-in-Inlines.ensures sure))

pub returns-in-Crosslines-clause-reply : goal.returns-in-Crosslines-clause-reply
returns-in-Crosslines-clause-reply c = λ sure.
    subst (λ (q : Query). IsReply c.args.self.now.state q c.crosslines.result) (sym c.in-Crosslines.is) (c.crosslines.ensures.reply c.args.self.now.state (c.grid-in-Crosslines.ensures sure))

pub returns-in-Histogram-clause-reply : goal.returns-in-Histogram-clause-reply
returns-in-Histogram-clause-reply c = λ sure.
    subst (λ (q : Query). IsReply c.args.self.now.state q c.histogram.result) (sym c.in-Histogram.is) (c.histogram.ensures.reply c.args.self.now.state (c.grid-in-Histogram.ensures sure))

pub returns-in-Fold-clause-reply : goal.returns-in-Fold-clause-reply
returns-in-Fold-clause-reply c = λ sure.
    let first : SFits w128 c.in-Fold.inline = search rules in
    let second : SFits w128 c.in-Fold.crossline = search rules in
    let told = rw (to_z-of_z w128 c.in-Fold.inline first, to_z-of_z w128 c.in-Fold.crossline second) at c.fold.ensures c.args.self.now.state (c.grid.ensures sure) in
    subst (λ (q : Query). IsReply c.args.self.now.state q (Ok c.fold.result)) (sym c.in-Fold.is) (inl told)

pub returns-in-Find-clause-reply : goal.returns-in-Find-clause-reply
returns-in-Find-clause-reply c = λ sure.
    let first : SFits w128 c.in-Find.low = search rules in
    let second : SFits w128 c.in-Find.high = search rules in
    let told = rw (to_z-of_z w128 c.in-Find.low first, to_z-of_z w128 c.in-Find.high second) at
    c.found_answer.ensures.reply c.args.self.now.state (sym (ap (λ (t : Session). t.state.volume) c.self.view_is)) (sym (ap (λ (t : Session). t.state.fields) c.self.view_is)) (sym (ap (λ (t : Session). t.state.on_disk) c.self.view_is)) sure in
    subst (λ (q : Query). IsReply c.args.self.now.state q c.found_answer.result) (sym c.in-Find.is) (told)

pub returns-in-Faults-clause-reply : goal.returns-in-Faults-clause-reply
returns-in-Faults-clause-reply c = λ sure.
    let before : HaveAgreed c.self.inside.overlay.reads = subst (λ (t : Session). HaveAgreed t.reads) (sym c.self.view_is) sure in
    let records : AreRecordsOf c.args.self.now.state (records_in c.self.inside) = rw (← c.self.view_is) (c.self.invariant.records before) in
    let counted : AreTriplesOf c.args.self.now.state c.triples.result.now =
    subst (λ (fs : List Facts). Same (tally_of_faults c.triples.result.now) (tally_of keys_of_faults fs)) records (c.triples.ensures (records_in c.self.inside) c.self.invariant.reports) in
    subst (λ (q : Query). IsReply c.args.self.now.state q c.faults_answer.result) (sym c.in-Faults.is) (c.faults_answer.ensures.reply c.args.self.now.state (sym (ap (λ (t : Session). t.state.volume) c.self.view_is)) records counted)

pub returns-in-Problems-clause-reply : goal.returns-in-Problems-clause-reply
returns-in-Problems-clause-reply c = λ sure.
    let before : HaveAgreed c.self.inside.overlay.reads = c.problems_answer.ensures.seen.reads.agreed sure in
    let records : AreRecordsOf c.args.self.now.state (records_in c.self.inside) = rw (← c.self.view_is) (c.self.invariant.records before) in
    subst (λ (q : Query). IsReply c.args.self.now.state q c.problems_answer.result) (sym c.in-Problems.is) (c.problems_answer.ensures.reply c.args.self.now.state (sym (ap (λ (t : Session). t.state.volume) c.self.view_is)) (sym (ap (λ (t : Session). t.state.fields) c.self.view_is)) (sym (ap (λ (t : Session). t.state.on_disk) c.self.view_is)) sure records)

pub returns-in-Survey-clause-reply : goal.returns-in-Survey-clause-reply
returns-in-Survey-clause-reply c = λ sure.
    let before : HaveAgreed c.self.inside.overlay.reads = subst (λ (t : Session). HaveAgreed t.reads) (sym c.self.view_is) sure in
    let records : AreRecordsOf c.args.self.now.state (records_in c.self.inside) = rw (← c.self.view_is) (c.self.invariant.records before) in
    subst (λ (q : Query). IsReply c.args.self.now.state q c.survey_answer.result) (sym c.in-Survey.is) (c.survey_answer.ensures.reply c.args.self.now.state records)

pub invariant_of-self-in-Problems : goal.invariant_of-self-in-Problems
invariant_of-self-in-Problems c = held_again c.self.inside c.problems_answer.new.overlay _ c.problems_answer.ensures.seen c.self.invariant

pub returns-in-Problems-clause-unchanged : goal.returns-in-Problems-clause-unchanged
returns-in-Problems-clause-unchanged c = rw (← c.self.view_is) (looked_at c.self.inside c.problems_answer.new.overlay _ c.problems_answer.ensures.seen).state

pub returns-in-Slice-clause-reply : goal.returns-in-Slice-clause-reply
returns-in-Slice-clause-reply c = λ sure.
    let before : HaveAgreed c.self.inside.overlay.reads = c.slice_answer.ensures.seen.reads.agreed sure in
    let records : AreRecordsOf c.args.self.now.state (records_in c.self.inside) = rw (← c.self.view_is) (c.self.invariant.records before) in
    subst (λ (q : Query). IsReply c.args.self.now.state q c.slice_answer.result) (sym c.in-Slice.is) (c.slice_answer.ensures.reply c.args.self.now.state (sym (ap (λ (t : Session). t.state.volume) c.self.view_is)) (sym (ap (λ (t : Session). t.state.on_disk) c.self.view_is)) sure records)

pub returns-in-Table-clause-looks : goal.returns-in-Table-clause-looks
returns-in-Table-clause-looks c =
    let own : RisesAtMost c.args.self.now.looks c.table_answer.new.overlay.looks (query_looks c.args.self.now.state [] (queries.Table c.in-Table.a c.in-Table.b c.as_slice.result.now)) =
    subst (λ (t : Session). RisesAtMost t.looks c.table_answer.new.overlay.looks (query_looks t.state [] (queries.Table c.in-Table.a c.in-Table.b c.as_slice.result.now))) c.self.view_is c.table_answer.ensures.seen.looks in
    subst (λ (q : Query). RisesAtMost c.args.self.now.looks c.table_answer.new.overlay.looks (query_looks c.args.self.now.state [] q))
    (sym (c.in-Table.is ∙ ap (λ (fs : List Field). queries.Table c.in-Table.a c.in-Table.b fs) (sym c.as_slice.ensures))) own

pub invariant_of-self : goal.invariant_of-self
invariant_of-self c = held_again c.self.inside c.get_answer.new.overlay _ c.get_answer.ensures.seen c.self.invariant

pub returns-in-Get-clause-unchanged : goal.returns-in-Get-clause-unchanged
returns-in-Get-clause-unchanged c = rw (← c.self.view_is) (looked_at c.self.inside c.get_answer.new.overlay _ c.get_answer.ensures.seen).state

pub invariant_of-self-in-Sample : goal.invariant_of-self-in-Sample
invariant_of-self-in-Sample c = held_again c.self.inside c.sample_answer.new.overlay _ c.sample_answer.ensures.seen c.self.invariant

pub returns-in-Sample-clause-unchanged : goal.returns-in-Sample-clause-unchanged
returns-in-Sample-clause-unchanged c = rw (← c.self.view_is) (looked_at c.self.inside c.sample_answer.new.overlay _ c.sample_answer.ensures.seen).state

pub invariant_of-self-in-Slice : goal.invariant_of-self-in-Slice
invariant_of-self-in-Slice c = held_again c.self.inside c.slice_answer.new.overlay _ c.slice_answer.ensures.seen c.self.invariant

pub returns-in-Slice-clause-unchanged : goal.returns-in-Slice-clause-unchanged
returns-in-Slice-clause-unchanged c = rw (← c.self.view_is) (looked_at c.self.inside c.slice_answer.new.overlay _ c.slice_answer.ensures.seen).state

pub invariant_of-self-in-Table : goal.invariant_of-self-in-Table
invariant_of-self-in-Table c = held_again c.self.inside c.table_answer.new.overlay _ c.table_answer.ensures.seen c.self.invariant

pub returns-in-Table-clause-unchanged : goal.returns-in-Table-clause-unchanged
returns-in-Table-clause-unchanged c = rw (← c.self.view_is) (looked_at c.self.inside c.table_answer.new.overlay _ c.table_answer.ensures.seen).state

pub invariant_of-self-in-Find : goal.invariant_of-self-in-Find
invariant_of-self-in-Find c = held_again c.self.inside c.found_answer.new.overlay _ c.found_answer.ensures.seen c.self.invariant

pub returns-in-Find-clause-unchanged : goal.returns-in-Find-clause-unchanged
returns-in-Find-clause-unchanged c = rw (← c.self.view_is) (looked_at c.self.inside c.found_answer.new.overlay _ c.found_answer.ensures.seen).state

pub invariant_of-self-in-Header : goal.invariant_of-self-in-Header
invariant_of-self-in-Header c = held_again c.self.inside c.header_answer.new.overlay _ c.header_answer.ensures.seen c.self.invariant

pub returns-in-Header-clause-unchanged : goal.returns-in-Header-clause-unchanged
returns-in-Header-clause-unchanged c = rw (← c.self.view_is) (looked_at c.self.inside c.header_answer.new.overlay _ c.header_answer.ensures.seen).state

pub invariant_of-self-in-Extremes : goal.invariant_of-self-in-Extremes
invariant_of-self-in-Extremes c = held_again c.self.inside c.extremes_answer.new.overlay _ c.extremes_answer.ensures.seen c.self.invariant

pub returns-in-Extremes-clause-unchanged : goal.returns-in-Extremes-clause-unchanged
returns-in-Extremes-clause-unchanged c = rw (← c.self.view_is) (looked_at c.self.inside c.extremes_answer.new.overlay _ c.extremes_answer.ensures.seen).state

pub returns-in-OfChosen-clause-reply : goal.returns-in-OfChosen-clause-reply
returns-in-OfChosen-clause-reply c = λ sure.
    let before : HaveAgreed c.self.inside.overlay.reads = c.chosen_answer.ensures.seen.reads.agreed sure in
    let records : AreRecordsOf c.args.self.now.state (records_in c.self.inside) = rw (← c.self.view_is) (c.self.invariant.records before) in
    subst (λ (q : Query). IsReply c.args.self.now.state q c.chosen_answer.result) (sym c.in-OfChosen.is) (c.chosen_answer.ensures.reply c.args.self.now.state (sym (ap (λ (t : Session). t.state.volume) c.self.view_is)) (sym (ap (λ (t : Session). t.state.fields) c.self.view_is)) (sym (ap (λ (t : Session). t.state.on_disk) c.self.view_is)) sure records)
