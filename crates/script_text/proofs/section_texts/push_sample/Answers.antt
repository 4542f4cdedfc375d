use Rattle.std.proofs.Common.{codes, List, ℕ, sym, subst, Option, SFits}
use Rattle.std.specs.Int.{w128}
use Rattle.std.proofs.lemmas.Int.{to_z-of_z}
use Rattle.float_codes.specs.declared.float_format.FloatFormat.{FloatFormat}
use Rattle.shown_floats.specs.Shows.{word_of}
use Rattle.script_text.specs.SectionTexts.{IsWord}
use Rattle.line_texts.proofs.OutLemmas.{begun, breaks_first, by_fault, ends}
use Rattle.script_text.proofs.section_texts.push_sample.Goals as goal

pub returns-in_err-push-in-Some : goal.returns-in_err-push-in-Some
returns-in_err-push-in-Some g c =
    let word : List ℕ = word_of c.of-word.result in
    let fit : SFits w128 c.args.sample = c.ranges.sample in (
      word,
      subst (λ (o : Option FloatFormat). IsWord o c.args.sample word) (sym c.in-Some.is) (rw (to_z-of_z w128 c.args.sample fit) at c.of-word.ensures),
      by_fault c.from_residual.result c.in_err-push-in-Some.field-0.0 _ _ c.from_residual.ensures.1
          (breaks_first _ _ _ (codes " ") word c.in_err-push-in-Some.field-0.0.written c.in_err-push-in-Some.ensures),
    )

pub returns-in_ok-push-in-Some : goal.returns-in_ok-push-in-Some
returns-in_ok-push-in-Some g c =
    let word : List ℕ = word_of c.of-word.result in
    let fit : SFits w128 c.args.sample = c.ranges.sample in (
      word,
      subst (λ (o : Option FloatFormat). IsWord o c.args.sample word) (sym c.in-Some.is) (rw (to_z-of_z w128 c.args.sample fit) at c.of-word.ensures),
      ends c.push-in-Some-2.result _ _ _ _ _ _ word _ (begun _ _ _ _ (codes " ") word c.in_ok-push-in-Some.ensures) (rw c.as_slice-in-Some.ensures.bytes at c.push-in-Some-2.ensures),
    )
