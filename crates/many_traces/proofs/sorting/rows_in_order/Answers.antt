use Rattle.std.proofs.Common.{◌≡◌, rules, length, Result, Ok, Err, IfOk}
use Rattle.std.specs.List.{range_with_len}
use Rattle.std.specs.Ordering.{is_lt}
use Rattle.std.proofs.lemmas.Fn.{always_returns_same}
use Rattle.many_traces.specs.Arranged.{row_near}
use Rattle.bench_rules.proofs.RowOrderLemmas.{is_before}
use Rattle.many_traces.proofs.NearLemmas.{sorted-rows}
use Rattle.many_traces.proofs.sorting.rows_in_order.Goals as goal

pub returns-in-Ok-clause-order : goal.returns-in-Ok-clause-order
returns-in-Ok-clause-order c =
    let from : c.in_ok-rows.rows.items ≡ range_with_len 0 (length c.args.table.now) = search rules in
    sorted-rows c.args.falling.now c.args.table.now c.requires.0 c.in_ok-rows.rows.items c.sort_by.new.self.items c.requires.1 from
    (λ weak. c.in-Ok.ensures.sorted (is_before c.args.falling.now (row_near c.args.table.now)) weak (always_returns_same _ (λ a r. is_lt r ≡ is_before c.args.falling.now (row_near c.args.table.now) a.0.now a.1.0.now) _ (λ a r q k. search rules)))
    (λ weak. c.in-Ok.ensures.stable (is_before c.args.falling.now (row_near c.args.table.now)) weak (always_returns_same _ (λ a r. is_lt r ≡ is_before c.args.falling.now (row_near c.args.table.now) a.0.now a.1.0.now) _ (λ a r q k. search rules)))

never_ok : {T E F : Type 0} (P : T → Type 0) (e : E) (r : Result T F) → IfOk r (λ v. Err e ≡ Ok v) → IfOk r P
never_ok P e (Ok v) never = absurd cc
never_ok P e (Err f) never = tt

pub returns-in-Err-clause-order : goal.returns-in-Err-clause-order
returns-in-Err-clause-order c = never_ok _ _ c.told.result c.told.ensures.ok

pub returns-in-Err-clause-permutation : goal.returns-in-Err-clause-permutation
returns-in-Err-clause-permutation c = never_ok _ _ c.told.result c.told.ensures.ok
