use Rattle.std.proofs.Common.{◌≡◌, ◌∙◌, ◌+◌, ◌-◌, ℕ, ap, sym, arith, Some, slice_get}
use Rattle.bench_rules.specs.Answer.{text_blocks}
use Rattle.volume_answers.proofs.StanzaLemmas.{listed}
use Rattle.volume_answers.proofs.text_answers.stanzas_answer.Goals as goal

pub loop-before-preserved : goal.loop-before-preserved
loop-before-preserved c =
    let xs = text_blocks c.args.overlay.now.volume in
    let at : c.loop-before.before ≡ c.loop-before.before + 1 - 1 = omega arith in
    let there : slice_get xs c.loop-before.before ≡ Some c.in-Some.block.now = ap (λ (i : ℕ). slice_get xs i) at ∙ sym c.in-Some.ensures in
    (c.loop-before.invariant.0, listed _ _ _ xs c.loop-before.before c.in-Some.block.now c.in_ok-add_stanzas.ensures.ok there c.loop-before.invariant.1, grind arith)
