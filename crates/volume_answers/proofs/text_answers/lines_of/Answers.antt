use Rattle.std.proofs.Common.{◌≡◌, ◌∙◌, ◌+◌, ◌++◌, ◌∷◌, [], map, ap, sym, arith, rules}
use Rattle.std.specs.Prelude.{ℕ, List}
use Rattle.std.proofs.lemmas.List.FromFn.{map-range_with_len_more}
use Rattle.std.specs.List.{range_with_len}
use Rattle.text_block.specs.Lines.{shown_line}
use Rattle.volume_answers.proofs.text_answers.lines_of.Goals as goal

pub loop-before-preserved : goal.loop-before-preserved
loop-before-preserved c =
    let pushed : c.push.new.self.items ≡ c.loop-before.lines.items ++ shown_line c.args.block.now (c.loop-before.before + 1) ∷ [] = search rules in
    let last : 1 + c.loop-before.before ≡ c.loop-before.before + 1 = omega arith in (
      pushed
          ∙ ap (λ (xs : List (List ℕ)). xs ++ shown_line c.args.block.now (c.loop-before.before + 1) ∷ []) c.loop-before.invariant.0
          ∙ sym (map-range_with_len_more (shown_line c.args.block.now) 1 c.loop-before.before (c.loop-before.before + 1) last),
      grind arith,
    )

pub returns-clause-ok : goal.returns-clause-ok
returns-clause-ok c =
    let all : c.loop-before.before ≡ 40 = omega (arith, c.loop-before-test.false, c.loop-before.auto.before-end) in
    c.new-2.ensures ∙ c.loop-before.invariant.0 ∙ ap (λ (n : ℕ). map (shown_line c.args.block.now) (range_with_len 1 n)) all
