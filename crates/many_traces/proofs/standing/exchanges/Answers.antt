use Rattle.std.proofs.Common.{◌≡◌, ◌∙◌, ℕ, ◌<◌, List, length, inl, inr, sym, ap, subst, arith}
use Rattle.std.specs.Prelude.{slice_index}
use Rattle.std.proofs.lemmas.Bool.{cases_eq}
use Rattle.std.proofs.lemmas.List.{get_or_default, same_lists}
use Rattle.std.proofs.lemmas.List.FromFn.{length-range_with_len}
use Rattle.many_traces.specs.Arranged.{Arranges}
use Rattle.many_traces.proofs.ExchangeLemmas.{differ-order, order-below}
use Rattle.many_traces.proofs.standing.exchanges.Goals as goal

pub loop-place-init : goal.loop-place-init
loop-place-init c = record {
  step = c.in_ok-standing.ensures.step;
  first = c.in_ok-standing.ensures.first;
  long = ap (λ (l : List ℕ). length l) c.in_ok-standing.ensures.items ∙ length-range_with_len 0 (length c.args.order.now);
  before = λ k less. absurd (omega (arith, less));
  memory = grind arith;
}

pub bring-requires-clause-step : goal.bring-requires-clause-step
bring-requires-clause-step c = c.loop-place.invariant.step

pub bring-requires-clause-place : goal.bring-requires-clause-place
bring-requires-clause-place c = omega (arith, c.loop-place-test.true, c.loop-place.invariant.long)

pub bring-requires-clause-item : goal.bring-requires-clause-item
bring-requires-clause-item c = omega (arith, order-below (length c.args.order.now) c.args.order.now c.loop-place.place c.requires.permutation c.loop-place-test.true, c.loop-place.invariant.long)

pub loop-place-preserved : goal.loop-place-preserved
loop-place-preserved c =
    let order : List ℕ = c.args.order.now in
    let place : ℕ = c.loop-place.place in
    let old : List ℕ = c.loop-place.standing.items.items in
    let differ = differ-order (length order) order c.requires.permutation in
    record {
      step = c.in_ok-bring.ensures.step;
      first = c.in_ok-bring.ensures.first ∙ c.loop-place.invariant.first;
      long = c.in_ok-bring.ensures.brought.long ∙ c.loop-place.invariant.long;
      before = λ k less. elim (cases_eq k place) [
        | inl e ↦ ap (slice_index c.bring.new.self.items.items) e ∙ (c.in_ok-bring.ensures.brought.there ∙ ap (slice_index order) (sym e))
        | inr ne ↦
            let earlier : k < place = omega (arith, less, ne) in
            let was : slice_index old k ≡ slice_index order k = c.loop-place.invariant.before k earlier in
            c.in_ok-bring.ensures.brought.others k ne (λ e. ne (differ k place (omega (arith, earlier, c.loop-place-test.true)) c.loop-place-test.true (sym was ∙ e))) ∙ was
      ];
      memory = grind arith;
    }

pub returns-clause-arranges : goal.returns-clause-arranges
returns-clause-arranges c =
    let order : List ℕ = c.args.order.now in
    let items : List ℕ = c.loop-place.standing.items.items in
    let same : items ≡ order = same_lists items order c.loop-place.invariant.long (λ k d less.
    let there : k < length order = omega (arith, less, c.loop-place.invariant.long) in
    get_or_default items k d 0 less ∙ (c.loop-place.invariant.before k (omega (arith, there, c.loop-place-test.false)) ∙ sym (get_or_default order k d 0 there))) in
    let done : Arranges c.loop-place.standing.first order c.loop-place.standing.pairs.items = subst (λ (l : List ℕ). Arranges c.loop-place.standing.first l c.loop-place.standing.pairs.items) same c.loop-place.invariant.step.by_pairs in
    subst (λ (n : ℕ). Arranges n order c.loop-place.standing.pairs.items) c.loop-place.invariant.first done
