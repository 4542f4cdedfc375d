use Rattle.std.proofs.Common.{◌-◌, get_or, length, sym, subst, ◌∙◌, List, arith, refl}
use Rattle.trace_record.specs.declared.record.Record.{Record}
use Rattle.live_reports.specs.OfRecords.{AreReportsOf}
use Rattle.live_reports.specs.Reports.{HaveCounted}
use Rattle.live_reports.proofs.EditLemmas.{remove_holds, remove_fits, remove_counts}
use Rattle.live_reports.proofs.RemoveLemmas.{goes_next, not_missed, none_out, all_out}
use Rattle.live_reports.proofs.live_reports.LiveReports.remove_each.Goals as goal

pub loop-k-init : goal.loop-k-init
loop-k-init c = subst (λ (l : List Record). AreReportsOf c.args.self.now l) (sym (none_out c.args.records.now c.args.positions.now)) c.requires.counted

pub overflow_sub-place-in-loop-k-2 : goal.overflow_sub-place-in-loop-k-2
overflow_sub-place-in-loop-k-2 c = (goes_next c.args.records.now c.args.positions.now c.loop-k.k _ c.requires.rising c.requires.last c.loop-k-test.true refl).first

pub unreachable-requires : goal.unreachable-requires
unreachable-requires c =
    let next = goes_next c.args.records.now c.args.positions.now c.loop-k.k _ c.requires.rising c.requires.last c.loop-k-test.true refl in
    not_missed c.args.records.now _ next.there (sym c.get.ensures ∙ c.in_default.is)

pub remove-requires-clause-held : goal.remove-requires-clause-held
remove-requires-clause-held c =
    let next = goes_next c.args.records.now c.args.positions.now c.loop-k.k _ c.requires.rising c.requires.last c.loop-k-test.true refl in
    remove_holds _ _ c.in-Some.record (next.kept ∙ (sym c.get.ensures ∙ c.in-Some.is)) c.loop-k.self.values c.loop-k.invariant

pub remove-requires-clause-small : goal.remove-requires-clause-small
remove-requires-clause-small c =
    let next = goes_next c.args.records.now c.args.positions.now c.loop-k.k _ c.requires.rising c.requires.last c.loop-k-test.true refl in
    remove_fits _ _ c.in-Some.record (next.kept ∙ (sym c.get.ensures ∙ c.in-Some.is)) c.loop-k.self.values c.loop-k.invariant

pub loop-k-preserved : goal.loop-k-preserved
loop-k-preserved c =
    let next = goes_next c.args.records.now c.args.positions.now c.loop-k.k _ c.requires.rising c.requires.last c.loop-k-test.true refl in
    subst (λ (l : List Record). HaveCounted c.remove.new.self l) (sym next.after)
    (remove_counts _ _ c.in-Some.record (next.kept ∙ (sym c.get.ensures ∙ c.in-Some.is)) c.loop-k.self.values c.loop-k.invariant c.remove.new.self c.remove.ensures)

pub returns : goal.returns
returns c = subst (λ (l : List Record). AreReportsOf c.loop-k.self l) (all_out c.args.records.now c.args.positions.now c.loop-k.k (omega (arith, c.loop-k-test.false))) c.loop-k.invariant
