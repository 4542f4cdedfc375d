use Rattle.std.proofs.Common.{ℕ, List, sym, subst, rules}
use Rattle.std.proofs.lemmas.Result.{err_from_is_err_and}
use Rattle.bench_rules.specs.Conditions.{AreRising, tests_of}
use Rattle.chosen_traces.proofs.ChoosingLemmas.{all_rise, chosen_all, few_there, if_ok, range_free, rise_within}
use Rattle.chosen_traces.proofs.RefusedLemmas.{conditions_tell}
use Rattle.chosen_traces.proofs.choosing.choose.Goals as goal

pub returns-then-len-eq0-clause-ok : goal.returns-then-len-eq0-clause-ok
returns-then-len-eq0-clause-ok c = λ sure beside.
    chosen_all c.args.overlay.now.volume c.args.map.now.pairs c.args.chosen.now c.as_slice.result.now c.in_ok-tests.tests.items (c.in-Some.first, c.in-Some.last)
    c.as_slice.ensures c.in_ok-tests.ensures.ok c.in-Some.is c.in_ok-all.field-0.items (search rules) c.in_ok-all.ensures.traces

pub returns-then-len-eq0-clause-rising : goal.returns-then-len-eq0-clause-rising
returns-then-len-eq0-clause-rising c =
    let v = c.args.overlay.now.volume in
    let r : ℕ × ℕ = (c.in-Some.first, c.in-Some.last) in
    rise_within v r c.in_ok-all.field-0.items (range_free v c.args.chosen.now.traces r c.in-Some.is c.requires) (subst (λ (ps : List ℕ). AreRising r.0 r.1 ps) (sym c.in_ok-all.ensures.traces) (all_rise v r (range_free v c.args.chosen.now.traces r c.in-Some.is c.requires)))

pub returns-then-len-eq0-clause-few : goal.returns-then-len-eq0-clause-few
returns-then-len-eq0-clause-few c =
    let v = c.args.overlay.now.volume in
    let r : ℕ × ℕ = (c.in-Some.first, c.in-Some.last) in
    few_there v c.args.map.now.pairs c.args.chosen.now c.as_slice.result.now c.in_ok-tests.tests.items r c.as_slice.ensures c.in_ok-tests.ensures.ok c.in-Some.is
    c.in_ok-all.field-0.items (range_free v c.args.chosen.now.traces r c.in-Some.is c.requires) (subst (λ (ps : List ℕ). AreRising r.0 r.1 ps) (sym c.in_ok-all.ensures.traces) (all_rise v r (range_free v c.args.chosen.now.traces r c.in-Some.is c.requires)))

pub returns-clause-rising : goal.returns-clause-rising
returns-clause-rising c =
    let v = c.args.overlay.now.volume in
    let r : ℕ × ℕ = (c.in-Some.first, c.in-Some.last) in
    if_ok c.chosen_of.result (λ traces up. rise_within v r traces.items (range_free v c.args.chosen.now.traces r c.in-Some.is c.requires) up) c.chosen_of.ensures.rising

pub returns-clause-few : goal.returns-clause-few
returns-clause-few c =
    let v = c.args.overlay.now.volume in
    let r : ℕ × ℕ = (c.in-Some.first, c.in-Some.last) in
    if_ok c.chosen_of.result
    (λ traces up. few_there v c.args.map.now.pairs c.args.chosen.now c.as_slice.result.now c.in_ok-tests.tests.items r c.as_slice.ensures c.in_ok-tests.ensures.ok c.in-Some.is traces.items (range_free v c.args.chosen.now.traces r c.in-Some.is c.requires) up)
    c.chosen_of.ensures.rising

pub returns-in_err-tests-clause-reads_tell : goal.returns-in_err-tests-clause-reads_tell
returns-in_err-tests-clause-reads_tell c =
    let now = c.args.overlay.now in
    let fault = c.in_err-tests.field-0.0 in
    let handed_on = err_from_is_err_and c.from_residual.result c.from_residual.ensures.1 in
    rw (handed_on.1, handed_on.2)
    (conditions_tell now.reads now.reads now.volume (tests_of c.args.map.now.pairs c.as_slice.result.now) fault c.in_err-tests.ensures.err)
