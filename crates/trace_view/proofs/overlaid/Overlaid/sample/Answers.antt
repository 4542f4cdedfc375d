use Rattle.std.proofs.Common.{◌≡◌, ◌+◌, ◌-◌, ℕ, arith, rules, ap, ◌∙◌, take, drop, SFits}
use Rattle.std.specs.Int.{w128}
use Rattle.std.proofs.lemmas.Int.{to_z-of_z}
use Rattle.sample_codes.specs.Formats.{value_width, sample_value}
use Rattle.trace_view.specs.Runs.{bytes_with_runs}
use Rattle.trace_view.proofs.overlaid.Overlaid.sample.Goals as goal

pub returns-in-Some : goal.returns-in-Some
returns-in-Some c =
    let fit : SFits w128 c.decode.result = search rules in
    let size : c.args.at + c.width.result - c.args.at ≡ value_width c.args.format = omega (arith, c.width.ensures.width) in
    to_z-of_z w128 c.decode.result fit
    ∙ c.decode.ensures ∙ ap (sample_value c.args.order c.args.format) (c.in-Some.ensures.bytes ∙ ap (λ (n : ℕ). take n (drop c.args.at (bytes_with_runs c.args.self.now.base.now c.args.self.now.runs.now))) size)
