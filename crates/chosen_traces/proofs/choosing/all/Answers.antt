use Rattle.std.proofs.Common.{◌≡◌, ◌∙◌, ◌+◌, ◌-◌, ◌++◌, ◌∷◌, [], ℕ, ap, arith}
use Rattle.std.specs.List.{range_with_len}
use Rattle.chosen_traces.proofs.ChoosingLemmas.{one_position}
use Rattle.chosen_traces.proofs.choosing.all.Goals as goal

pub loop-k-preserved : goal.loop-k-preserved
loop-k-preserved c =
    let pushed : c.push.new.self.items ≡ c.loop-k.traces.items ++ (c.args.first + c.loop-k.k) ∷ [] = rw c.in_ok-told_back.ensures.ok at c.push.ensures.items in
    (one_position c.args.first c.loop-k.k c.loop-k.traces.items c.push.new.self.items c.loop-k.invariant.0 pushed, grind arith)

pub returns-clause-traces : goal.returns-clause-traces
returns-clause-traces c =
    let last : c.args.last ≡ c.args.first + c.loop-k.k = omega (arith, c.requires, c.loop-k-test.false, c.loop-k.auto.k-end) in
    let count : c.loop-k.k + 1 ≡ c.args.last + 1 - c.args.first = omega (arith, last) in
    let pushed : c.push-2.new.self.items ≡ c.loop-k.traces.items ++ c.args.last ∷ [] = rw c.in_ok-told_back-2.ensures.ok at c.push-2.ensures.items in
    one_position c.args.first c.loop-k.k c.loop-k.traces.items c.push-2.new.self.items c.loop-k.invariant.0 (pushed ∙ ap (λ (p : ℕ). c.loop-k.traces.items ++ p ∷ []) last)
    ∙ ap (λ (n : ℕ). range_with_len c.args.first n) count
