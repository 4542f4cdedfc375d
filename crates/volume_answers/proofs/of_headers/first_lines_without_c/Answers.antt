use Rattle.std.proofs.Common.{◌≡◌, ◌∙◌, ◌*◌, ◌<◌, ℕ, List, ap, sym, arith, rules, length, take, slice_index_or, not}
use Rattle.std.proofs.lemmas.Bool.{ne_eqb, eq-eqb}
use Rattle.std.specs.Prelude.{count_by}
use Rattle.std.specs.List.{range_with_len}
use Rattle.bench_rules.specs.Reports.{is_without_c}
use Rattle.volume_answers.proofs.LetterLemmas.{line_c, one_line, all_lines}
use Rattle.volume_answers.proofs.of_headers.first_lines_without_c.Goals as goal
use Rattle.volume_answers.proofs.of_headers.first_lines_without_c.Goals.{then-block-before, else-block-before}

pub loop-before-preserved : goal.loop-before-preserved
loop-before-preserved c =
    let before : ℕ = c.loop-before.before in
    let block : List ℕ = c.args.block.now in
    let there : 80 * before < length block = omega (arith, c.told-block, c.loop-before-test.true, c.requires.few) in
    let small : slice_index_or block (80 * before) 0 < 256 = search rules in
    let told = line_c block before there small in
    let step = one_line (is_without_c block) before c.args.lines c.loop-before.count (omega (arith, c.loop-before-test.true)) c.loop-before.invariant.0 in
    elim c.if-block-before.branch [
      | then-block-before w ↦ (w.count-is ∙ step.0 (ap not (told ∙ ne_eqb _ _ (λ e. w.if-block-before.true (e ∙ sym c.requires.letter)))), omega (arith, w.count-is, c.loop-before.invariant.1))
      | else-block-before w ↦ (w.count-is ∙ step.1 (ap not (told ∙ eq-eqb _ _ (w.if-block-before.false ∙ c.requires.letter))), omega (arith, w.count-is, c.loop-before.invariant.1))
    ]

pub returns : goal.returns
returns c =
    let all : c.loop-before.before ≡ c.args.lines = omega (arith, c.loop-before-test.false, c.loop-before.auto.before-end) in
    c.loop-before.invariant.0 ∙ ap (λ n. count_by (is_without_c c.args.block.now) (take n (range_with_len 1 c.args.lines))) all ∙ ap (λ (l : List ℕ). count_by (is_without_c c.args.block.now) l) (all_lines c.args.lines)
