use Rattle.std.proofs.Common.{◌≡◌, ◌+◌, ◌-◌, ℕ, arith, rules, ap, ◌∙◌, take, drop, SFits}
use Rattle.std.specs.Int.{w128}
use Rattle.std.proofs.lemmas.Int.{to_z-of_z}
use Rattle.num_order.specs.Number.{num}
use Rattle.trace_view.specs.Runs.{bytes_with_runs}
use Rattle.trace_view.proofs.overlaid.Overlaid.number.Goals as goal

pub returns-in-Some : goal.returns-in-Some
returns-in-Some c =
    let fit : SFits w128 c.read.result = search rules in
    let size : c.args.at + c.args.kind.size - c.args.at ≡ c.args.kind.size = omega arith in
    to_z-of_z w128 c.read.result fit
    ∙ c.read.ensures ∙ ap (num c.args.order c.args.kind) (c.in-Some.ensures.bytes ∙ ap (λ (n : ℕ). take n (drop c.args.at (bytes_with_runs c.args.self.now.base.now c.args.self.now.runs.now))) size)
