use Rattle.std.proofs.Common.{◌≡◌, ◌≤◌, sym, subst, length, take, map, arith}
use Rattle.std.specs.Prelude.{List}
use Rattle.std.proofs.lemmas.List.{take_all}
use Rattle.trace_record.specs.Facts.{facts_of}
use Rattle.trace_record.specs.declared.record.Record.{Record}
use Rattle.live_reports.specs.Exchanged.{with_records, tallies_with_new, AreFewTogether}
use Rattle.live_reports.specs.Tallies.{Tallies, tallies_of, tallies_of_records, SameEach}
use Rattle.live_reports.proofs.ExchangeLemmas.{none_left, none_yet}
use Rattle.live_reports.proofs.exchanging.drop_each.Goals as goal

pub loop-k-init : goal.loop-k-init
loop-k-init c =
    let rs = c.args.records.now in
    let new = c.args.new.now in
    record {
      few = subst (λ (l : List Record). AreFewTogether l new) (sym (none_yet rs c.args.place)) c.requires.few;
      counted = subst (λ (l : List Record). SameEach (tallies_of c.args.values.now) (tallies_with_new l c.args.place new 0)) (sym (none_yet rs c.args.place)) c.requires.counted;
    }

pub returns : goal.returns
returns c =
    let rs = c.args.records.now in
    let new = c.args.new.now in
    let at = c.args.place in
    let past : length new ≤ c.loop-k.k = rw c.len-k-end.ensures at c.loop-k-test.false in
    let all : take c.loop-k.k new ≡ new = take_all c.loop-k.k new (omega (arith, past)) in
    subst (λ (l : List Record). SameEach (tallies_of c.loop-k.values) (tallies_of_records (map facts_of (with_records rs at l)))) all
    (subst (λ (t : Tallies). SameEach (tallies_of c.loop-k.values) t) (none_left (with_records rs at (take c.loop-k.k new)) new at c.loop-k.k past) c.loop-k.invariant.counted)
