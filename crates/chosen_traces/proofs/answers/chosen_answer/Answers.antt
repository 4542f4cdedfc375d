use Rattle.std.proofs.Common.{◌+◌, ◌∙◌, length, ap, sym, arith}
use Rattle.edit_overlay.specs.CountedVolume.{RisesAtMost}
use Rattle.edit_overlay.specs.Loaded.{Loaded}
use Rattle.bench_rules.specs.Looks.{asking_looks, choosing_looks, most_chosen, most_query_looks}
use Rattle.bench_rules.proofs.LookLemmas.{seen_after}
use Rattle.bench_rules.proofs.SeenLemmas.{seen_at_most}
use Rattle.chosen_traces.proofs.RecordLemmas.{records_beside}
use Rattle.chosen_traces.proofs.RangeLemmas.{range_rises}
use Rattle.chosen_traces.proofs.RefusedLemmas.{range_of_tells, reply_before}
use Rattle.chosen_traces.proofs.ToldLemmas.{asking_more, choice_told, each_told_after, looks_chosen}
use Rattle.chosen_traces.proofs.answers.chosen_answer.Goals as goal

pub returns-in-Err-clause-reply : goal.returns-in-Err-clause-reply
returns-in-Err-clause-reply c = λ s same held disk sure beside.
    let range = c.fault_of_range.ensures in
    let has = sym c.asks_for_fields.ensures ∙ c.if-not-asks_for_fields.false in
    choice_told s c.args.overlay.now.volume c.args.map.now.pairs c.args.chosen.now c.args.query.now c.fault_of_range.result same held range.told
    c.args.overlay.now.loaded.on_disk disk c.in_default.is (range.free c.in_default.is) has sure c.in-Err.fault c.in-Err.ensures.err

pub returns-clause-reply : goal.returns-clause-reply
returns-clause-reply c = λ s same held disk sure beside.
    let range = c.fault_of_range.ensures in
    let has = sym c.asks_for_fields.ensures ∙ c.if-not-asks_for_fields.false in
    let made = c.in-Ok.ensures in
    let each = c.told.ensures in
    each_told_after s c.args.overlay.now.volume c.args.map.now.pairs c.args.chosen.now c.args.query.now c.fault_of_range.result same held range.told
    c.args.overlay.now.loaded.on_disk disk c.in_default.is (range.free c.in_default.is) has sure
    c.in-Ok.traces.items (made.ok (each.seen.reads.agreed sure) (records_beside s c.args.overlay.now c.args.map.now.pairs same held beside)) made.few
    c.choose.new.overlay.volume c.choose.new.overlay.loaded.on_disk made.seen.volume (ap (λ (l : Loaded). l.on_disk) made.seen.loaded) c.told.result each.ok each.err

pub returns-clause-looks : goal.returns-clause-looks
returns-clause-looks c = λ sure beside.
    let v = c.args.overlay.now.volume in
    let choice : RisesAtMost c.args.overlay.now.looks c.choose.new.overlay.looks (choosing_looks v c.args.map.now.pairs c.args.chosen.now) = c.choose.ensures.seen.looks in
    let each : RisesAtMost c.choose.new.overlay.looks c.told.new.overlay.looks (asking_looks c.args.query.now (length c.in-Ok.traces.items)) = c.told.ensures.seen.looks in
    let looks = looks_chosen v c.args.map.now.pairs c.args.chosen.now c.args.query.now c.in-Ok.traces.items (c.in-Ok.ensures.ok (c.told.ensures.seen.reads.agreed sure) beside) in
    (omega (arith, choice, each), omega (arith, choice, each, looks))

pub returns-in-Some-clause-memory : goal.returns-in-Some-clause-memory
returns-in-Some-clause-memory c = range_rises c.args.overlay.now.volume c.args.chosen.now.traces c.in-Some.fault _ c.in-Some.ensures.told

pub returns-in-Some-clause-reads_tell : goal.returns-in-Some-clause-reads_tell
returns-in-Some-clause-reads_tell c =
    range_of_tells c.args.overlay.now.reads c.args.overlay.now.reads c.args.overlay.now.volume c.args.chosen.now.traces c.in-Some.fault c.in-Some.ensures.told

pub returns-clause-reads_tell : goal.returns-clause-reads_tell
returns-clause-reads_tell c =
    reply_before c.args.overlay.now.reads c.choose.new.overlay.reads c.told.new.overlay.reads c.told.result c.in-Ok.ensures.seen.reads c.told.ensures.reads_tell

pub returns-clause-seen : goal.returns-clause-seen
returns-clause-seen c =
    let v = c.args.overlay.now.volume in
    let pairs = c.args.map.now.pairs in
    let query = c.args.query.now in
    let found = length c.in-Ok.traces.items in
    let most = most_chosen v pairs c.args.chosen.now in
    let more = asking_more query found most c.in-Ok.ensures.few in
    seen_at_most c.args.overlay.now c.told.new.overlay (choosing_looks v pairs c.args.chosen.now + asking_looks query found) (most_query_looks v pairs c.args.chosen.now query)
    (seen_after c.args.overlay.now c.choose.new.overlay c.told.new.overlay (choosing_looks v pairs c.args.chosen.now) (asking_looks query found) c.in-Ok.ensures.seen c.told.ensures.seen)
    (omega (arith, more))
