use Rattle.std.proofs.Common.{◌≡◌, ◌∙◌, ◌+◌, ◌-◌, ◌<◌, List, length, ap, arith}
use Rattle.std.proofs.lemmas.List.{length_push}
use Rattle.frame_cut.specs.Traces.{count_of}
use Rattle.trace_record.specs.declared.record.Record.{Record}
use Rattle.volume_records.proofs.PassLemmas.{one_few_more, one_record_behind}
use Rattle.volume_records.proofs.SeenLemmas.{seen_more}
use Rattle.volume_records.proofs.of_traces.prepared_whole_records.Goals as goal

pub loop-k-preserved : goal.loop-k-preserved
loop-k-preserved c =
    let v = c.args.overlay.now.prepared in
    let w = c.loop-k.overlay.prepared in
    let p = c.args.a - 1 in
    let n = c.loop-k.k in
    let i = c.loop-k.invariant in
    let made = c.in_ok-record.ensures in
    let there : p + n < count_of v = omega (arith, c.requires.last, c.loop-k-test.true) in
    let q : c.args.a + n ≡ p + n + 1 = omega (arith, c.requires.first) in
    let grew = c.in_ok-push.ensures.ok in
    record {
      made = λ sure. one_record_behind v w c.args.fields.now.pairs p n (c.args.a + n) c.loop-k.records c.push.new.self c.in_ok-record.record i.seen.prepared there q (i.made (made.reads.agreed sure)) (made.record sure) grew;
      few = one_few_more v w c.args.a n c.loop-k.records c.push.new.self c.in_ok-record.record i.seen.prepared i.count grew made.few i.few;
      count = ap (λ (rs : List Record). length rs) grew ∙ (length_push c.loop-k.records c.in_ok-record.record ∙ ap (λ m. m + 1) i.count);
      seen = seen_more c.args.overlay.now c.loop-k.overlay c.prepared_record.new.overlay n i.seen made.looked made.reads;
      memory = grind arith;
    }
