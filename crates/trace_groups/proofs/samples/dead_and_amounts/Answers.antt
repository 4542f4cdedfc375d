use Rattle.std.proofs.Common.{◌≡◌, ◌+◌, ◌∙◌, ◌++◌, List, [], ◌∷◌, Option, Some, None, sym, ap, refl, arith, length, map, append_assoc, length-append, ℕ}
use Rattle.std.specs.Prelude.{option_to_list}
use Rattle.std.specs.List.{filter_map, cons_option}
use Rattle.std.proofs.lemmas.List.{map-append}
use Rattle.std.proofs.lemmas.List.Elements.{filter_map-append}
use Rattle.trace_record.specs.Facts.{facts_of}
use Rattle.trace_record.specs.declared.record.Record.{Record}
use Rattle.trace_groups.specs.Loud.{amount_of}
use Rattle.trace_groups.specs.Suspects.{dead_facts}
use Rattle.trace_groups.proofs.MarkLemmas.{record_behind}
use Rattle.trace_groups.proofs.samples.dead_and_amounts.Goals as goal

alone : (o : Option ℕ) → option_to_list o ≡ cons_option o []
alone None = refl
alone (Some a) = refl

-- the amounts of the traces so far, one more, where it has one, behind them
behind : (floats : _) (ys : List Record) (x : Record) (o : Option ℕ) (ns : List ℕ) → o ≡ amount_of floats (facts_of x) → ns ≡ filter_map (amount_of floats) (map facts_of ys)
    → ns ++ option_to_list o ≡ filter_map (amount_of floats) (map facts_of (ys ++ x ∷ []))
behind floats ys x o ns same is =
    ap (λ l. l ++ option_to_list o) is ∙ ap (λ p. filter_map (amount_of floats) (map facts_of ys) ++ option_to_list p) same
    ∙ ap (λ l. filter_map (amount_of floats) (map facts_of ys) ++ l) (alone (amount_of floats (facts_of x)))
    ∙ sym (filter_map-append (amount_of floats) (map facts_of ys) (facts_of x ∷ [])) ∙ ap (filter_map (amount_of floats)) (sym (map-append facts_of ys (x ∷ [])))

pub loop-trace-preserved : goal.loop-trace-preserved
loop-trace-preserved c =
    let h = c.loop-trace.invariant in
    let ys = c.loop-trace.yielded in
    let x = c.in-Some.trace in
    let count : length (ys ++ x ∷ []) ≡ length ys + 1 = length-append ys (x ∷ []) in (
      append_assoc ys (x ∷ []) c.next.new.self ∙ ap (λ (l : List Record). ys ++ l) (sym c.in-Some.ensures.steps) ∙ h.0,
      ap (λ n. n + 1) h.1 ∙ sym count,
      (let more = c.in_ok-push_any.ensures.within (length ys) h.2 in (omega (arith, count, more.0), omega (arith, count, more.1))),
      record_behind (dead_facts c.args.floats) ys x c.loop-trace.position h.1 c.facts_in.result c.facts_in.ensures c.loop-trace.tally c.push_any.new.self c.in_ok-push_any.ensures.tally h.3,
      (c.in_ok-push_amount.ensures.items ∙ behind c.args.floats ys x c.amount_of.result c.loop-trace.amounts.items c.amount_of.ensures h.4),
      grind arith,
    )
