use Rattle.std.proofs.Common.{◌≡◌, ℤ, ℕ, ◌<◌, ◌+◌, ◌∙◌, ◌&&◌, ◌++◌, List, [], ◌∷◌, Some, cond, nat_lt, unwrap_or, length, map, arith, rules, refl, sym, ap, subst, append_assoc, length-append}
use mir.Syntax.{w16}
use mir.Val.{SFits}
use Rattle.std.proofs.lemmas.Int.{to_z-of_z}
use Rattle.std.specs.Prelude.{flat_map}
use Rattle.std.specs.List.{enumerate_from}
use Rattle.std.specs.BTreeMap.{get}
use Rattle.std.specs.Ordering.{is_eq}
use Rattle.key_counts.specs.Counts.{count_of}
use Rattle.trace_record.specs.Facts.{facts_of}
use Rattle.trace_record.specs.Keys.{triple}
use Rattle.trace_record.specs.declared.record.Record.{Record}
use Rattle.fault_live.specs.declared.fault.Fault.TheVariants.{Scalar}
use Rattle.fault_live.specs.Faults.{faults_of, trace_faults, own_faults, among_faults, unless, is_scalar}
use Rattle.window_counts.specs.Places.{triple_cmp}
use Rattle.room.proofs.RiseLemmas.{risen}
use Rattle.fault_live.proofs.ReportStepLemmas.{first_stays, report_grows}
use Rattle.fault_live.proofs.faults.Faults.report.Goals as goal

pub loop-trace-preserved : goal.loop-trace-preserved
loop-trace-preserved c =
    let told = c.loop-trace.invariant.3 in
    let ys = c.loop-trace.yielded in
    let x = c.in-Some.trace in
    let zs = c.next.new.self in
    let p = c.loop-trace.position + 1 in
    let parts : ys ++ x ∷ zs ≡ c.args.records.now = ap (λ (l : List Record). ys ++ l) (sym c.in-Some.ensures.steps) ∙ c.loop-trace.invariant.0 in
    let fit : SFits w16 c.units_of_first-units.result = search rules in
    let value = subst (λ k. c.in_ok-first.first ≡ cond (nat_lt 1 (count_of triple_cmp c.args.self.now.triples k)) (unwrap_or (get triple_cmp c.loop-trace.firsts k) p) p) c.key_of.ensures c.in_ok-first.ensures.value in
    let places = subst (λ k. (q : ℤ × ℤ × ℤ) → get triple_cmp c.first_of.new.firsts q ≡ cond (nat_lt 1 (count_of triple_cmp c.args.self.now.triples k) && is_eq (triple_cmp k q)) (Some (unwrap_or (get triple_cmp c.loop-trace.firsts k) p)) (get triple_cmp c.loop-trace.firsts q)) c.key_of.ensures c.in_ok-first.ensures.places in
    let grew = subst (λ u. c.push_trace.new.report.items ≡ c.loop-trace.report.items ++ own_faults c.args.head.now p (facts_of x) ++ unless (is_scalar x.scalar) (Scalar p x.scalar) ++ among_faults c.args.head.now u (Some c.in_ok-first.first) p (facts_of x)) (to_z-of_z w16 c.units_of_first-units.result fit ∙ c.units_of_first-units.ensures) c.in_ok-push_trace.ensures.items in (
      append_assoc ys (x ∷ []) zs ∙ parts,
      ap (λ n. n + 1) c.loop-trace.invariant.1 ∙ sym (length-append ys (x ∷ [])),
      grind arith,
      λ counted. (
        report_grows c.args.records.now ys x zs parts c.args.head.now
            (λ q. count_of triple_cmp c.args.self.now.triples q) (λ f. counted.count (triple f.inline f.crossline f.offset)) c.loop-trace.position p c.loop-trace.invariant.1 refl
            (λ q. get triple_cmp c.loop-trace.firsts q) (told counted).1 c.in_ok-first.first value c.loop-trace.report.items c.push_trace.new.report.items grew
            (subst (λ (l : List Record). c.loop-trace.report.items ++ flat_map (λ e. trace_faults c.args.head.now (map facts_of c.args.records.now) e.0 e.1) (enumerate_from (c.loop-trace.position + 1) (map facts_of l)) ≡ faults_of c.args.head.now (map facts_of c.args.records.now)) c.in-Some.ensures.steps (told counted).0),
        first_stays c.args.records.now ys x zs parts c.args.head.now
            (λ q. count_of triple_cmp c.args.self.now.triples q) (λ f. counted.count (triple f.inline f.crossline f.offset)) c.loop-trace.position p c.loop-trace.invariant.1 refl
            (λ q. get triple_cmp c.loop-trace.firsts q) (told counted).1 (λ q. get triple_cmp c.first_of.new.firsts q) places,
      ),
    )

pub returns-in_err-first-clause-memory : goal.returns-in_err-first-clause-memory
returns-in_err-first-clause-memory c =
    risen _ _ c.push_head.new.room _ c.in_ok-push_head.ensures.memory.never_falls (
    risen _ _ c.loop-trace.room _ c.loop-trace.invariant.2 (record {
      never_falls = c.in_err-first.ensures.memory.never_falls;
      rose = λ p. c.in_err-first.ensures.memory.rose refl;
    }))

pub returns-in_err-push_trace-clause-memory : goal.returns-in_err-push_trace-clause-memory
returns-in_err-push_trace-clause-memory c =
    risen _ _ c.push_head.new.room _ c.in_ok-push_head.ensures.memory.never_falls (
    risen _ _ c.loop-trace.room _ c.loop-trace.invariant.2 (
    risen _ _ c.first_of.new.room _ c.in_ok-first.ensures.memory.never_falls (record {
      never_falls = c.in_err-push_trace.ensures.memory.never_falls;
      rose = λ p. c.in_err-push_trace.ensures.memory.rose refl;
    })))
