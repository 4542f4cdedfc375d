use Rattle.std.proofs.Common.{arith, sym, ◌∙◌, ◌≡◌, ◌≤◌, length, true}
use Rattle.trace_view.specs.Runs.{is_plain}
use Rattle.trace_view.proofs.WrittenLemmas.{length-written}
use Rattle.trace_view.proofs.PlainLemmas.{slice_range-written}
use Rattle.trace_view.proofs.overlaid.Overlaid.plain.Goals as goal

pub slice_bounds-result-end : goal.slice_bounds-result-end
slice_bounds-result-end c = let v = c.args.self.now in omega (arith, length-written v.base.now v.runs.now v.fit)

pub returns-then-is_plain-clause-bytes : goal.returns-then-is_plain-clause-bytes
returns-then-is_plain-clause-bytes c =
    let v = c.args.self.now in
    let inside : c.args.to ≤ length v.base.now = omega (arith, length-written v.base.now v.runs.now v.fit) in
    let tests : is_plain v.runs.now c.args.from c.args.to ≡ true = sym c.is_plain.ensures ∙ c.if-is_plain.true in
    sym (slice_range-written v.base.now v.runs.now c.args.from c.args.to v.fit c.requires.order inside tests)
