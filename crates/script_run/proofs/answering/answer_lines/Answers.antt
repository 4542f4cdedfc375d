use Rattle.std.proofs.Common.{inl, inr, ◌∙◌, sym, refl, ap, arith}
use Rattle.device_io.specs.Failures.{one_more as one_more_failure}
use Rattle.refusal_texts.specs.declared.script_fault.ScriptFault.TheVariants.{ReadFailed, TooLarge}
use Rattle.line_texts.specs.Devices.{device_of}
use Rattle.line_texts.proofs.OutLemmas.{stays}
use Rattle.script_run.proofs.InputLemmas.{none_taken}
use Rattle.script_run.proofs.ReadAsLemmas.{read_as_itself, read_as_then}
use Rattle.script_run.proofs.SessionLemmas.{none_yet, whole, broken, endless, too_many, stops, breaks_off, one_more, cut_short, one_refused, none_refused, not_both}
use Rattle.script_run.specs.Causes.{failures}
use Rattle.script_run.specs.Sessions.{standing}
use Rattle.script_run.proofs.answering.answer_lines.Goals as goal
use Rattle.script_run.proofs.answering.answer_lines.Goals.{then-told+else-stop, else-told}

pub lines-init : goal.lines-init
lines-init g c =
    rw c.new-ahead.ensures (
      λ sure. none_yet (failures c.args.room.now c.args.bench.now.reads.failures) (standing c.args.bench.now.state (g.P.Saves.place c.args.place.now c.args.bench.now.loaded)) _ _ c.args.stop (device_of g.A.Write.contents c.args.answers.now) (none_taken (g.S.Read.remaining c.args.script.now.inner))
          (stays (g.A.Write.contents c.args.answers.now.inner)),
      refl,
      omega arith,
      read_as_itself c.args.bench.now.state,
      record { agreed = λ sure. sure; failures = omega arith },
      refl,
      omega arith,
    )

pub returns-in-End-clause-lines : goal.returns-in-End-clause-lines
returns-in-End-clause-lines g c = λ sure.
    rw c.whole.ensures (whole _ _ (failures c.next_line.new.room c.lines.bench.reads.failures) _ (device_of g.S.Read.remaining c.args.script.now) _ _ _ _ _ _ _ _ (c.lines.invariant.0 sure) c.in-End.ensures.never_falls (omega arith) (device_of g.S.Read.remaining c.next_line.new.source)
    c.in-End.ensures.next.0 (c.in-End.ensures.failures ∙ c.lines.invariant.1))

pub returns-then-stop-clause-lines : goal.returns-then-stop-clause-lines
returns-then-stop-clause-lines g c = λ sure.
    stops _ _ (failures c.answer.new.room c.answer.new.bench.reads.failures) _ (device_of g.S.Read.remaining c.args.script.now) _ _ c.in-Line.ensures.next.0 c.in-Line.has_end _ _ _ _ _ _ _ (standing c.answer.new.bench.state (g.P.Saves.place c.answer.new.place c.answer.new.bench.loaded)) (c.in-Ok.ensures.line sure).0 (c.lines.invariant.0 (c.in-Ok.ensures.reads.agreed sure)) c.in-Line.ensures.next.1
    (omega (arith, c.in-Line.ensures.never_falls, c.in-Ok.ensures.never_falls)) c.in-Ok.ensures.reads.failures
    ((c.in-Ok.ensures.line sure).1 c.in-Line.ensures.next.0 c.in-Line.ensures.next.2 _ c.in-Line.ensures.never_falls c.in-Line.ensures.lost) _ (c.in-Ok.ensures.line sure).2.0 (sym (c.in-Ok.ensures.line sure).2.2 ∙ c.if-told.true) c.if-stop.true

pub returns-in-Err-clause-lines : goal.returns-in-Err-clause-lines
returns-in-Err-clause-lines g c = λ sure.
    breaks_off _ _ (failures c.answer.new.room c.answer.new.bench.reads.failures) _ (device_of g.S.Read.remaining c.args.script.now) _ _ c.in-Line.ensures.next.0 c.in-Line.has_end _ _ _ _ _ _ _ (standing c.answer.new.bench.state (g.P.Saves.place c.answer.new.place c.answer.new.bench.loaded)) (c.in-Err.ensures.line sure).0 (c.lines.invariant.0 (c.in-Err.ensures.reads.agreed sure)) c.in-Line.ensures.next.1
    (omega (arith, c.in-Line.ensures.never_falls, c.in-Err.ensures.never_falls)) c.in-Err.ensures.reads.failures
    ((c.in-Err.ensures.line sure).1 c.in-Line.ensures.next.0 c.in-Line.ensures.next.2 _ c.in-Line.ensures.never_falls c.in-Line.ensures.lost) _ (c.in-Err.ensures.line sure).2.0 c.saturating_add.result (c.in-Err.ensures.line sure).2.2
    (omega (arith, c.saturating_add.ensures, (c.in-Err.ensures.line sure).2.1))

pub lines-preserved : goal.lines-preserved
lines-preserved g c = elim c.if-told.branch [
  | then-told+else-stop w ↦ (
    λ sure. one_more _ _ (failures c.answer.new.room c.answer.new.bench.reads.failures) _ (device_of g.S.Read.remaining c.args.script.now) _ _ c.in-Line.ensures.next.0 c.in-Line.has_end _ _ _ _ _ _ _ (standing c.answer.new.bench.state (g.P.Saves.place c.answer.new.place c.answer.new.bench.loaded)) (c.in-Ok.ensures.line sure).0 (c.lines.invariant.0 (c.in-Ok.ensures.reads.agreed sure)) c.in-Line.ensures.next.1
        (omega (arith, c.in-Line.ensures.never_falls, c.in-Ok.ensures.never_falls)) c.in-Ok.ensures.reads.failures
        ((c.in-Ok.ensures.line sure).1 c.in-Line.ensures.next.0 c.in-Line.ensures.next.2 _ c.in-Line.ensures.never_falls c.in-Line.ensures.lost) _ c.if-told.refused c.saturating_add-written.result (c.in-Ok.ensures.line sure).2.0
        (one_refused _ _ _ (sym (c.in-Ok.ensures.line sure).2.2 ∙ w.if-told.true) w.refused-is)
        (omega (arith, c.saturating_add-written.ensures, (c.in-Ok.ensures.line sure).2.1)) (λ s. absurd (not_both c.args.stop s w.if-stop.false)) c.if-not-has_end.false,
    c.in-Line.ensures.failures ∙ c.lines.invariant.1,
    omega (arith, c.lines.invariant.2, w.refused-is),
    read_as_then _ _ _ c.lines.invariant.3 c.in-Ok.ensures.same,
    record { agreed = λ sure. c.lines.invariant.4.agreed (c.in-Ok.ensures.reads.agreed sure); failures = omega (arith, c.lines.invariant.4.failures, c.in-Ok.ensures.reads.failures) },
    c.in-Ok.ensures.loaded ∙ c.lines.invariant.5,
    omega (arith, c.in-Line.ensures.never_falls, c.in-Ok.ensures.never_falls, c.lines.invariant.6),
  )
  | else-told w ↦ (
    λ sure. one_more _ _ (failures c.answer.new.room c.answer.new.bench.reads.failures) _ (device_of g.S.Read.remaining c.args.script.now) _ _ c.in-Line.ensures.next.0 c.in-Line.has_end _ _ _ _ _ _ _ (standing c.answer.new.bench.state (g.P.Saves.place c.answer.new.place c.answer.new.bench.loaded)) (c.in-Ok.ensures.line sure).0 (c.lines.invariant.0 (c.in-Ok.ensures.reads.agreed sure)) c.in-Line.ensures.next.1
        (omega (arith, c.in-Line.ensures.never_falls, c.in-Ok.ensures.never_falls)) c.in-Ok.ensures.reads.failures
        ((c.in-Ok.ensures.line sure).1 c.in-Line.ensures.next.0 c.in-Line.ensures.next.2 _ c.in-Line.ensures.never_falls c.in-Line.ensures.lost) _ c.if-told.refused c.saturating_add-written.result (c.in-Ok.ensures.line sure).2.0
        (none_refused _ _ _ (sym (c.in-Ok.ensures.line sure).2.2 ∙ w.if-told.false) w.refused-is)
        (omega (arith, c.saturating_add-written.ensures, (c.in-Ok.ensures.line sure).2.1)) (λ s. sym (c.in-Ok.ensures.line sure).2.2 ∙ w.if-told.false) c.if-not-has_end.false,
    c.in-Line.ensures.failures ∙ c.lines.invariant.1,
    omega (arith, c.lines.invariant.2, w.refused-is),
    read_as_then _ _ _ c.lines.invariant.3 c.in-Ok.ensures.same,
    record { agreed = λ sure. c.lines.invariant.4.agreed (c.in-Ok.ensures.reads.agreed sure); failures = omega (arith, c.lines.invariant.4.failures, c.in-Ok.ensures.reads.failures) },
    c.in-Ok.ensures.loaded ∙ c.lines.invariant.5,
    omega (arith, c.in-Line.ensures.never_falls, c.in-Ok.ensures.never_falls, c.lines.invariant.6),
  )
]

pub returns-in-Failed-clause-lines : goal.returns-in-Failed-clause-lines
returns-in-Failed-clause-lines g c = λ sure.
    rw c.broken.ensures (broken _ _ (failures c.next_line.new.room c.lines.bench.reads.failures) _ (device_of g.S.Read.remaining c.args.script.now) _ _ _ _ _ _ _ _ (c.lines.invariant.0 sure) c.in-Failed.ensures.never_falls (omega arith) ReadFailed (device_of g.S.Read.remaining c.next_line.new.source)
    (inl (refl, c.in-Failed.ensures.failures ∙ ap one_more_failure c.lines.invariant.1)))

pub returns-in-Endless-clause-lines : goal.returns-in-Endless-clause-lines
returns-in-Endless-clause-lines g c = λ sure.
    rw c.broken-in-Endless.ensures (broken _ _ (failures c.next_line.new.room c.lines.bench.reads.failures) _ (device_of g.S.Read.remaining c.args.script.now) _ _ _ _ _ _ _ _ (c.lines.invariant.0 sure) c.in-Endless.ensures.never_falls (omega arith) TooLarge (device_of g.S.Read.remaining c.next_line.new.source)
    (inr (refl, endless _ _ (failures c.next_line.new.room c.lines.bench.reads.failures) _ (device_of g.S.Read.remaining c.args.script.now) _ _ _ _ _ _ _ _ (c.lines.invariant.0 sure) c.in-Endless.ensures.never_falls (omega arith) c.in-Endless.ensures.next, c.in-Endless.ensures.failures ∙ c.lines.invariant.1)))

pub returns-clause-lines : goal.returns-clause-lines
returns-clause-lines g c = λ sure.
    rw c.broken-2.ensures (broken _ _ (failures c.lines.room c.lines.bench.reads.failures) _ (device_of g.S.Read.remaining c.args.script.now) _ _ _ _ _ _ _ _ (c.lines.invariant.0 sure) (omega arith) (omega arith) TooLarge (device_of g.S.Read.remaining c.lines.script)
    (inr (refl, too_many _ _ (failures c.lines.room c.lines.bench.reads.failures) _ (device_of g.S.Read.remaining c.args.script.now) _ _ _ _ _ _ _ _ (c.lines.invariant.0 sure) (omega arith) (omega arith) (omega (arith, c.lines.auto.number-end)), c.lines.invariant.1)))

pub returns-then-not-has_end-clause-lines : goal.returns-then-not-has_end-clause-lines
returns-then-not-has_end-clause-lines g c = λ sure. rw c.cut_short.ensures (elim c.if-told.branch [
  | then-told+else-stop w ↦
      cut_short _ _ (failures c.answer.new.room c.answer.new.bench.reads.failures) _ (device_of g.S.Read.remaining c.args.script.now) _ _ c.in-Line.ensures.next.0 c.in-Line.has_end _ _ _ _ _ _ _ (standing c.answer.new.bench.state (g.P.Saves.place c.answer.new.place c.answer.new.bench.loaded)) (c.in-Ok.ensures.line sure).0 (c.lines.invariant.0 (c.in-Ok.ensures.reads.agreed sure)) c.in-Line.ensures.next.1
      (omega (arith, c.in-Line.ensures.never_falls, c.in-Ok.ensures.never_falls)) c.in-Ok.ensures.reads.failures
      ((c.in-Ok.ensures.line sure).1 c.in-Line.ensures.next.0 c.in-Line.ensures.next.2 _ c.in-Line.ensures.never_falls c.in-Line.ensures.lost) (device_of g.S.Read.remaining c.next_line.new.source) _ c.if-told.refused (c.in-Ok.ensures.line sure).2.0
      (one_refused _ _ _ (sym (c.in-Ok.ensures.line sure).2.2 ∙ w.if-told.true) w.refused-is) (λ s. absurd (not_both c.args.stop s w.if-stop.false)) c.if-not-has_end.true (c.in-Line.ensures.next.3 c.if-not-has_end.true) (c.in-Line.ensures.failures ∙ c.lines.invariant.1)
  | else-told w ↦
      cut_short _ _ (failures c.answer.new.room c.answer.new.bench.reads.failures) _ (device_of g.S.Read.remaining c.args.script.now) _ _ c.in-Line.ensures.next.0 c.in-Line.has_end _ _ _ _ _ _ _ (standing c.answer.new.bench.state (g.P.Saves.place c.answer.new.place c.answer.new.bench.loaded)) (c.in-Ok.ensures.line sure).0 (c.lines.invariant.0 (c.in-Ok.ensures.reads.agreed sure)) c.in-Line.ensures.next.1
      (omega (arith, c.in-Line.ensures.never_falls, c.in-Ok.ensures.never_falls)) c.in-Ok.ensures.reads.failures
      ((c.in-Ok.ensures.line sure).1 c.in-Line.ensures.next.0 c.in-Line.ensures.next.2 _ c.in-Line.ensures.never_falls c.in-Line.ensures.lost) (device_of g.S.Read.remaining c.next_line.new.source) _ c.if-told.refused (c.in-Ok.ensures.line sure).2.0
      (none_refused _ _ _ (sym (c.in-Ok.ensures.line sure).2.2 ∙ w.if-told.false) w.refused-is) (λ s. sym (c.in-Ok.ensures.line sure).2.2 ∙ w.if-told.false) c.if-not-has_end.true (c.in-Line.ensures.next.3 c.if-not-has_end.true) (c.in-Line.ensures.failures ∙ c.lines.invariant.1)
])
