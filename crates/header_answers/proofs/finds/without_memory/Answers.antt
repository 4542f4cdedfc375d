use Rattle.std.proofs.Common.{◌∙◌, sym}
use Rattle.header_answers.proofs.FoundLemmas.{behind_stops, behind_goes_on, none_there}
use Rattle.bench_rules.proofs.LookLemmas.{seen_after}
use Rattle.header_answers.proofs.finds.without_memory.Goals as goal

pub returns-then-is_none-clause-fault : goal.returns-then-is_none-clause-fault
returns-then-is_none-clause-fault c = λ sure.
    let i = c.loop-k.invariant in
    let made = c.in_ok-number.ensures in
    let none = sym (none_there c.in_ok-number.number c.if-is_none.ensures) ∙ made.number sure in
    sym (i.left (made.seen.reads.agreed sure) ∙ behind_stops c.args.overlay.now.volume c.args.place c.args.p c.args.b c.loop-k.k c.loop-k-test.true (rw (i.seen.volume) at none))

pub loop-k-preserved : goal.loop-k-preserved
loop-k-preserved c =
    let i = c.loop-k.invariant in
    let made = c.in_ok-number.ensures in
    record {
      left = λ sure.
          let number = made.number sure in
          i.left (made.seen.reads.agreed sure) ∙ behind_goes_on c.args.overlay.now.volume c.args.place c.args.p c.args.b c.loop-k.k c.in_ok-number.number c.loop-k-test.true (rw (i.seen.volume) at number) c.if-is_none.ensures;
      seen = seen_after c.args.overlay.now c.loop-k.overlay c.number_at.new.overlay c.loop-k.k 1 i.seen made.seen;
    }
