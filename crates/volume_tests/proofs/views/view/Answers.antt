use Rattle.std.proofs.Common.{◌≡◌, ◌∙◌, length, sym, arith, ap, Some}
use Rattle.trace_view.proofs.WrittenLemmas.{length-written}
use Rattle.volume_tests.proofs.views.view.Goals as goal

pub new-requires-clause-whole : goal.new-requires-clause-whole
new-requires-clause-whole g c =
    let same = length-written c.args.base.now c.args.runs.now c.requires in
    let number : c.in-Some.length ≡ length c.args.base.now = omega arith in
    record {
      whole = omega (arith, same, c.front_length.ensures);
      exact = sym c.in-Some.ensures ∙ ap Some (number ∙ sym same);
    }
