use Rattle.std.proofs.Common.{◌≤◌, ◌+◌, length, false, refl, sym, arith, ap, add-zero, Bool, ◌≡◌, ◌∙◌}
use Rattle.std.specs.Prelude.{IsTrue}
use Rattle.line_texts.specs.Devices.{device_of}
use Rattle.script_words.specs.Words.{script_lines}
use Rattle.line_texts.proofs.OutLemmas.{stays}
use Rattle.script_run.specs.Causes.{failures}
use Rattle.script_run.proofs.ReadAsLemmas.{read_as_itself, read_as_then}
use Rattle.script_run.proofs.LookLemmas.{looked_broken, looked_more, looked_so, none_looked}
use Rattle.script_run.proofs.RunLemmas.{lines-le, none_yet, one_more, breaks_off, stops}
use Rattle.script_run.proofs.running.run_lines.Goals as goal

pub lines-init : goal.lines-init
lines-init g c =
    let few : length (script_lines c.args.script.now) ≤ length c.args.script.now = lines-le c.args.script.now in
    rw c.new-lines.ensures (
      λ sure. none_yet (failures c.args.room.now c.args.bench.now.reads.failures) c.args.bench.now.state (script_lines c.args.script.now) c.args.stop (device_of g.A.Write.contents c.args.answers.now) (stays (g.A.Write.contents c.args.answers.now.inner)),
      omega (arith, few, c.requires),
      omega arith,
      read_as_itself c.args.bench.now.state,
      record { agreed = λ sure. sure; failures = omega arith },
      refl,
      omega arith,
      λ sure. none_looked (device_of g.A.Write.contents c.args.answers.now) _ _ (stays (g.A.Write.contents c.args.answers.now.inner)),
    )

pub returns-in-Err-clause-lines : goal.returns-in-Err-clause-lines
returns-in-Err-clause-lines g c = λ sure.
    breaks_off _ _ (failures c.answer_line.new.room c.answer_line.new.bench.reads.failures) _ _ _ _ _ _ _ _ _ _ _ c.answer_line.new.bench.state (c.in-Err.ensures.line sure).0 (rw c.in-Some.ensures.some at c.lines.invariant.0 (c.in-Err.ensures.reads.agreed sure)) c.in-Err.ensures.never_falls c.in-Err.ensures.reads.failures (c.in-Err.ensures.line sure).1
    c.args.script.now _ (c.in-Err.ensures.line sure).2.0 c.saturating_add.result refl (c.in-Err.ensures.line sure).2.2 (omega (arith, c.saturating_add.ensures, (c.in-Err.ensures.line sure).2.1))

pub returns-then-stop-clause-lines : goal.returns-then-stop-clause-lines
returns-then-stop-clause-lines g c = λ sure.
    stops _ _ (failures c.answer_line.new.room c.answer_line.new.bench.reads.failures) _ _ _ _ _ _ _ _ _ _ _ c.answer_line.new.bench.state (c.in-Ok.ensures.line sure).0 (rw c.in-Some.ensures.some at c.lines.invariant.0 (c.in-Ok.ensures.reads.agreed sure)) c.in-Ok.ensures.never_falls c.in-Ok.ensures.reads.failures (c.in-Ok.ensures.line sure).1
    c.args.script.now _ refl (c.in-Ok.ensures.line sure).2.0 (sym (c.in-Ok.ensures.line sure).2.2 ∙ c.if-told.true) c.if-stop.true

pub lines-preserved-then-told : goal.lines-preserved-then-told
lines-preserved-then-told g c = (
  λ sure. one_more _ _ (failures c.answer_line.new.room c.answer_line.new.bench.reads.failures) _ _ _ _ _ _ _ _ _ _ _ c.answer_line.new.bench.state (c.in-Ok.ensures.line sure).0 (rw c.in-Some.ensures.some at c.lines.invariant.0 (c.in-Ok.ensures.reads.agreed sure)) c.in-Ok.ensures.never_falls c.in-Ok.ensures.reads.failures (c.in-Ok.ensures.line sure).1
      _ (c.lines.refused + 1) c.saturating_add-written.result (c.in-Ok.ensures.line sure).2.0 (rw (← (c.in-Ok.ensures.line sure).2.2, c.if-told.true) refl)
      (omega (arith, c.saturating_add-written.ensures, (c.in-Ok.ensures.line sure).2.1)) (λ s. absurd (goes_on c.args.stop s c.if-stop.false)),
  omega (arith, c.lines.invariant.1, ap length c.in-Some.ensures.some),
  omega (arith, c.lines.invariant.2),
  read_as_then _ _ _ c.lines.invariant.3 c.in-Ok.ensures.same,
  record { agreed = λ sure. c.lines.invariant.4.agreed (c.in-Ok.ensures.reads.agreed sure); failures = omega (arith, c.lines.invariant.4.failures, c.in-Ok.ensures.reads.failures) },
  c.in-Ok.ensures.loaded ∙ c.lines.invariant.5,
  omega (arith, c.in-Ok.ensures.never_falls, c.lines.invariant.6),
  λ sure. looked_more _ _ _ _ _ _ _ _ _ _ _ _ (rw c.in-Some.ensures.some at c.lines.invariant.7 (c.in-Ok.ensures.reads.agreed sure)) (c.in-Ok.ensures.line sure).1 (c.in-Ok.ensures.looks sure) _ (c.in-Ok.ensures.line sure).2.0,
)
  where
    goes_on : (b : Bool) → IsTrue b → b ≡ false → ⊥
    goes_on b t f = cc

pub lines-preserved : goal.lines-preserved
lines-preserved g c = (
  λ sure. one_more _ _ (failures c.answer_line.new.room c.answer_line.new.bench.reads.failures) _ _ _ _ _ _ _ _ _ _ _ c.answer_line.new.bench.state (c.in-Ok.ensures.line sure).0 (rw c.in-Some.ensures.some at c.lines.invariant.0 (c.in-Ok.ensures.reads.agreed sure)) c.in-Ok.ensures.never_falls c.in-Ok.ensures.reads.failures (c.in-Ok.ensures.line sure).1
      _ c.lines.refused c.saturating_add-written.result (c.in-Ok.ensures.line sure).2.0 (rw (← (c.in-Ok.ensures.line sure).2.2, c.if-told.false, add-zero) refl)
      (omega (arith, c.saturating_add-written.ensures, (c.in-Ok.ensures.line sure).2.1)) (λ s. sym (c.in-Ok.ensures.line sure).2.2 ∙ c.if-told.false),
  omega (arith, c.lines.invariant.1, ap length c.in-Some.ensures.some),
  omega (arith, c.lines.invariant.2),
  read_as_then _ _ _ c.lines.invariant.3 c.in-Ok.ensures.same,
  record { agreed = λ sure. c.lines.invariant.4.agreed (c.in-Ok.ensures.reads.agreed sure); failures = omega (arith, c.lines.invariant.4.failures, c.in-Ok.ensures.reads.failures) },
  c.in-Ok.ensures.loaded ∙ c.lines.invariant.5,
  omega (arith, c.in-Ok.ensures.never_falls, c.lines.invariant.6),
  λ sure. looked_more _ _ _ _ _ _ _ _ _ _ _ _ (rw c.in-Some.ensures.some at c.lines.invariant.7 (c.in-Ok.ensures.reads.agreed sure)) (c.in-Ok.ensures.line sure).1 (c.in-Ok.ensures.looks sure) _ (c.in-Ok.ensures.line sure).2.0,
)

pub returns-in-Err-clause-looks : goal.returns-in-Err-clause-looks
returns-in-Err-clause-looks g c = λ sure.
    looked_broken _ _ _ _ _ _ _ _ _ _ _ _ (rw c.in-Some.ensures.some at c.lines.invariant.7 (c.in-Err.ensures.reads.agreed sure)) (c.in-Err.ensures.line sure).1 (c.in-Err.ensures.looks sure) _ (c.in-Err.ensures.line sure).2.0 (c.in-Err.ensures.line sure).2.2

pub returns-then-stop-clause-looks : goal.returns-then-stop-clause-looks
returns-then-stop-clause-looks g c = λ sure.
    looked_so _ _ _ _ _ _ (looked_more _ _ _ _ _ _ _ _ _ _ _ _ (rw c.in-Some.ensures.some at c.lines.invariant.7 (c.in-Ok.ensures.reads.agreed sure)) (c.in-Ok.ensures.line sure).1 (c.in-Ok.ensures.looks sure) _ (c.in-Ok.ensures.line sure).2.0)

pub returns-clause-looks : goal.returns-clause-looks
returns-clause-looks g c = λ sure. looked_so _ _ _ _ _ _ (c.lines.invariant.7 sure)
