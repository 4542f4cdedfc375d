use Rattle.std.proofs.Common.{◌≡◌, ◌∙◌, ℕ, inl, List, Option, Some, ap, sym}
use Rattle.std.specs.Prelude.{Ok, option_map}
use Rattle.frame_cut.specs.Parts.{block_of}
use Rattle.frame_cut.specs.Volume.{Volume}
use Rattle.bench_rules.specs.declared.answer.Answer.TheVariants as answers
use Rattle.bench_rules.specs.Answer.{lines_answer}
use Rattle.volume_answers.proofs.text_answers.lines_answer.Goals as goal

pub returns-in-Ok-clause-reply : goal.returns-in-Ok-clause-reply
returns-in-Ok-clause-reply c = λ s same.
    let there : Some c.in-Some.block.now ≡ block_of s.volume c.args.b =
    ap (λ o. option_map (λ x. x.now) o) (sym c.in-Some.is) ∙ c.block.ensures ∙ ap (λ (v : Volume). block_of v c.args.b) (sym same) in
    inl (ap (λ (ls : List (List ℕ)). Ok (answers.Lines ls)) c.in-Ok.ensures.ok ∙ ap (λ (o : Option (List ℕ)). lines_answer o) there)

pub returns-in-Ok-clause-memory : goal.returns-in-Ok-clause-memory
returns-in-Ok-clause-memory c = record { never_falls = c.in-Ok.ensures.memory.never_falls; rose = λ e. absurd cc }
