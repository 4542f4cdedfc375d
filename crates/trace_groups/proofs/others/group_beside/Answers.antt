use Rattle.std.proofs.Common.{◌+◌, ◌∙◌, ap, arith, subst, pos, w64, take, get_or, to_z, of_z, SFits, rules}
use Rattle.std.proofs.lemmas.Int.{to_z-of_z}
use Rattle.std.proofs.lemmas.List.{take_all}
use Rattle.trace_groups.specs.Groups.{marks_of}
use Rattle.trace_groups.specs.OfTally.{IsTallyOf}
use Rattle.trace_groups.specs.Others.{other_facts}
use Rattle.trace_groups.proofs.MarkLemmas.{tally_along, grouped}
use Rattle.trace_groups.proofs.others.group_beside.Goals as goal

pub loop-number-preserved : goal.loop-number-preserved
loop-number-preserved c =
    let h = c.loop-number.invariant in
    let i = c.loop-number.number-index in
    let fits : SFits w64 (get_or c.args.numbers.now i (pos 0)) = search rules in (
      ap (λ n. n + 1) h.0,
      c.in_ok-push_any.ensures.within i h.1,
      tally_along (other_facts (to_z w64 (of_z w64 c.args.usual))) c.args.numbers.now i (pos 0) c.loop-number-test.true (c.loop-number.position + 1) (ap (λ n. n + 1) h.0) c.facts_beside.result (c.facts_beside.ensures ∙ ap (other_facts (to_z w64 (of_z w64 c.args.usual))) (to_z-of_z w64 (get_or c.args.numbers.now i (pos 0)) fits))
          c.loop-number.tally c.push_any.new.self c.in_ok-push_any.ensures.tally h.2,
      grind arith,
    )

pub returns-clause-group : goal.returns-clause-group
returns-clause-group c =
    let same = to_z-of_z w64 c.args.usual c.ranges.usual in
    let h = subst (λ u. IsTallyOf (marks_of (other_facts u) (take c.loop-number.number-index c.args.numbers.now)) c.loop-number.tally) same c.loop-number.invariant.2 in
    grouped c.finish.result c.args.problem c.loop-number.tally (marks_of (other_facts c.args.usual) c.args.numbers.now)
    (subst (λ l. IsTallyOf (marks_of (other_facts c.args.usual) l) c.loop-number.tally) (take_all c.loop-number.number-index c.args.numbers.now c.loop-number-test.false) h)
    c.finish.ensures.group
