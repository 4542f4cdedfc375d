use Rattle.std.proofs.Common.{◌≡◌, ◌∙◌, ◌&&◌, not, Bool, true, false, refl, sym, subst, inr, arith}
use Rattle.script_run.proofs.SessionEndLemmas.{asked_at_end, follows_loaded, goes_through, stops, loses_answer, tells_script, tells_part}
use Rattle.script_run.specs.Sessions.{standing, SessionDevices, session_devices, SessionThrough}
use Rattle.line_texts.specs.Devices.{device_of}
use Rattle.script_run.specs.declared.session_lines.SessionLines.TheVariants.{Whole, Stopped, Answers, Script}
use Rattle.script_run.proofs.CauseLemmas.{run_within}
use Rattle.script_run.proofs.SessionCauseLemmas.{answers_in}
use Rattle.script_run.proofs.whole_session.session_loaded.Goals as goal

pub returns-in-Stopped-clause-session : goal.returns-in-Stopped-clause-session
returns-in-Stopped-clause-session g c = λ before after first last spans loaded bytes sure.
    stops c.steps_stay_cut.ensures c.args.bench.now.state.on_disk c.args.options _ _ c.args.bench.now.state (standing c.answer_lines.new.bench.state (g.P.Saves.place c.answer_lines.new.place c.answer_lines.new.bench.loaded)) loaded (follows_loaded _ _ _ bytes (c.follows.ensures c.args.bench.now.loaded)) c.in-Stopped.line refl (answers_in _ _ (run_within c.args.bench.now.state.on_disk first last c.args.room.now c.args.room.now c.answer_lines.new.room c.answer_lines.new.room c.args.bench.now.reads.failures c.answer_lines.new.bench.reads.failures c.answer_lines.new.bench.reads.failures spans (omega arith) (omega arith) (omega arith)) _ _ _ (device_of g.S.Read.remaining c.args.script.now) (device_of g.S.Read.remaining c.answer_lines.new.script) (device_of g.A.Write.contents c.args.answers.now) (device_of g.A.Write.contents c.answer_lines.new.answers) (Stopped c.in-Stopped.line) (c.in-Stopped.ensures.lines sure))

pub returns-in-Answers-clause-session : goal.returns-in-Answers-clause-session
returns-in-Answers-clause-session g c = λ before after first last spans loaded bytes sure.
    inr (inr (loses_answer c.steps_stay_cut.ensures c.args.bench.now.state.on_disk c.args.options _ _ c.args.bench.now.state (standing c.answer_lines.new.bench.state (g.P.Saves.place c.answer_lines.new.place c.answer_lines.new.bench.loaded)) loaded (follows_loaded _ _ _ bytes (c.follows.ensures c.args.bench.now.loaded)) c.in-Answers.written refl (answers_in _ _ (run_within c.args.bench.now.state.on_disk first last c.args.room.now c.args.room.now c.answer_lines.new.room c.answer_lines.new.room c.args.bench.now.reads.failures c.answer_lines.new.bench.reads.failures c.answer_lines.new.bench.reads.failures spans (omega arith) (omega arith) (omega arith)) _ _ _ (device_of g.S.Read.remaining c.args.script.now) (device_of g.S.Read.remaining c.answer_lines.new.script) (device_of g.A.Write.contents c.args.answers.now) (device_of g.A.Write.contents c.answer_lines.new.answers) (Answers c.in-Answers.written) (c.in-Answers.ensures.lines sure))))

pub returns-in-Answers-tell-clause-session : goal.returns-in-Answers-tell-clause-session
returns-in-Answers-tell-clause-session g c = λ before after first last spans loaded bytes sure.
    tells_part c.steps_stay_cut.ensures c.args.bench.now.state.on_disk c.args.options _ _ c.args.bench.now.state (standing c.answer_lines.new.bench.state (g.P.Saves.place c.answer_lines.new.place c.answer_lines.new.bench.loaded)) loaded (follows_loaded _ _ _ bytes (c.follows.ensures c.args.bench.now.loaded)) _ c.in-Script.fault c.in-Script.written c.in-Answers-tell.more
    c.saturating_add.result c.tell.result refl (answers_in _ _ (run_within c.args.bench.now.state.on_disk first last c.args.room.now c.args.room.now c.answer_lines.new.room c.answer_lines.new.room c.args.bench.now.reads.failures c.answer_lines.new.bench.reads.failures c.answer_lines.new.bench.reads.failures spans (omega arith) (omega arith) (omega arith)) _ _ _ (device_of g.S.Read.remaining c.args.script.now) (device_of g.S.Read.remaining c.answer_lines.new.script) (device_of g.A.Write.contents c.args.answers.now) (device_of g.A.Write.contents c.answer_lines.new.answers) (Script c.in-Script.fault c.in-Script.written) (c.in-Script.ensures.lines sure)) (rw c.script_fault_line.ensures at c.tell.ensures) c.in-Answers-tell.is (omega (arith, c.saturating_add.ensures))

pub returns-in_default-clause-session : goal.returns-in_default-clause-session
returns-in_default-clause-session g c = λ before after first last spans loaded bytes sure.
    tells_script c.steps_stay_cut.ensures c.args.bench.now.state.on_disk c.args.options _ _ c.args.bench.now.state (standing c.answer_lines.new.bench.state (g.P.Saves.place c.answer_lines.new.place c.answer_lines.new.bench.loaded)) loaded (follows_loaded _ _ _ bytes (c.follows.ensures c.args.bench.now.loaded)) _ c.in-Script.fault c.in-Script.written
    c.tell.result refl (answers_in _ _ (run_within c.args.bench.now.state.on_disk first last c.args.room.now c.args.room.now c.answer_lines.new.room c.answer_lines.new.room c.args.bench.now.reads.failures c.answer_lines.new.bench.reads.failures c.answer_lines.new.bench.reads.failures spans (omega arith) (omega arith) (omega arith)) _ _ _ (device_of g.S.Read.remaining c.args.script.now) (device_of g.S.Read.remaining c.answer_lines.new.script) (device_of g.A.Write.contents c.args.answers.now) (device_of g.A.Write.contents c.answer_lines.new.answers) (Script c.in-Script.fault c.in-Script.written) (c.in-Script.ensures.lines sure)) (rw c.script_fault_line.ensures at c.tell.ensures) c.in_default.not-Answers

pub returns-in-Ok-clause-session : goal.returns-in-Ok-clause-session
returns-in-Ok-clause-session g c = λ before after first last spans loaded bytes sure.
    let asked : (c.args.options.save && not c.in-Whole.is_cut_off) ≡ true = sym c.is_asked.ensures ∙ c.if-not-is_asked.false in (
      standing c.answer_lines.new.bench.state (g.P.Saves.place c.answer_lines.new.place c.answer_lines.new.bench.loaded),
      c.in-Whole.is_cut_off,
      goes_through c.steps_stay_cut.ensures c.args.bench.now.state.on_disk c.args.options _ _ c.args.bench.now.state (standing c.answer_lines.new.bench.state (g.P.Saves.place c.answer_lines.new.place c.answer_lines.new.bench.loaded)) loaded (follows_loaded _ _ _ bytes (c.follows.ensures c.args.bench.now.loaded)) c.in-Whole.refused c.in-Whole.is_cut_off (answers_in _ _ (run_within c.args.bench.now.state.on_disk first last c.args.room.now c.args.room.now c.answer_lines.new.room c.save_at_end.new.room c.args.bench.now.reads.failures c.answer_lines.new.bench.reads.failures c.save_at_end.new.bench.reads.failures spans (omega arith) c.in-Ok.ensures.never_falls c.in-Ok.ensures.reads.failures) _ _ _ (device_of g.S.Read.remaining c.args.script.now) (device_of g.S.Read.remaining c.answer_lines.new.script) (device_of g.A.Write.contents c.args.answers.now) (device_of g.A.Write.contents c.answer_lines.new.answers) (Whole c.in-Whole.refused c.in-Whole.is_cut_off) (c.in-Whole.ensures.lines (c.in-Ok.ensures.reads.agreed sure))),
      rw asked (_, c.in-Ok.ensures.saved sure),
    )

pub returns-in-Err-clause-session : goal.returns-in-Err-clause-session
returns-in-Err-clause-session g c = λ before after first last spans loaded bytes sure.
    let old : SessionDevices = session_devices before (device_of g.S.Read.remaining c.args.script.now) (device_of g.A.Write.contents c.args.answers.now) (g.P.Saves.place c.args.place.now c.args.bench.now.loaded) first in
    let new : SessionDevices = session_devices after (device_of g.S.Read.remaining c.answer_lines.new.script) (device_of g.A.Write.contents c.answer_lines.new.answers) (g.P.Saves.place c.save_at_end.new.self c.save_at_end.new.bench.loaded) last in
    let asked = asked_at_end c.args.options.save c.in-Whole.is_cut_off (sym c.is_asked.ensures ∙ c.if-not-is_asked.false) in (
      standing c.answer_lines.new.bench.state (g.P.Saves.place c.answer_lines.new.place c.answer_lines.new.bench.loaded),
      subst (λ (b : Bool). SessionThrough c.args.bench.now.state.on_disk c.args.options old new c.in-Whole.refused b (standing c.answer_lines.new.bench.state (g.P.Saves.place c.answer_lines.new.place c.answer_lines.new.bench.loaded))) asked.1
          (goes_through c.steps_stay_cut.ensures c.args.bench.now.state.on_disk c.args.options old new c.args.bench.now.state (standing c.answer_lines.new.bench.state (g.P.Saves.place c.answer_lines.new.place c.answer_lines.new.bench.loaded)) loaded (follows_loaded _ _ _ bytes (c.follows.ensures c.args.bench.now.loaded)) c.in-Whole.refused c.in-Whole.is_cut_off (answers_in _ _ (run_within c.args.bench.now.state.on_disk first last c.args.room.now c.args.room.now c.answer_lines.new.room c.save_at_end.new.room c.args.bench.now.reads.failures c.answer_lines.new.bench.reads.failures c.save_at_end.new.bench.reads.failures spans (omega arith) c.in-Err.ensures.never_falls c.in-Err.ensures.reads.failures) _ _ _ (device_of g.S.Read.remaining c.args.script.now) (device_of g.S.Read.remaining c.answer_lines.new.script) (device_of g.A.Write.contents c.args.answers.now) (device_of g.A.Write.contents c.answer_lines.new.answers) (Whole c.in-Whole.refused c.in-Whole.is_cut_off) (c.in-Whole.ensures.lines (c.in-Err.ensures.reads.agreed sure)))),
      asked.0,
      (_, c.in-Err.ensures.saved sure),
    )

pub returns-then-not-is_asked-clause-session : goal.returns-then-not-is_asked-clause-session
returns-then-not-is_asked-clause-session g c = λ before after first last spans loaded bytes sure.
    let none : (c.args.options.save && not c.in-Whole.is_cut_off) ≡ false = sym c.is_asked.ensures ∙ c.if-not-is_asked.true in (
      standing c.answer_lines.new.bench.state (g.P.Saves.place c.answer_lines.new.place c.answer_lines.new.bench.loaded),
      c.in-Whole.is_cut_off,
      goes_through c.steps_stay_cut.ensures c.args.bench.now.state.on_disk c.args.options _ _ c.args.bench.now.state (standing c.answer_lines.new.bench.state (g.P.Saves.place c.answer_lines.new.place c.answer_lines.new.bench.loaded)) loaded (follows_loaded _ _ _ bytes (c.follows.ensures c.args.bench.now.loaded)) c.in-Whole.refused c.in-Whole.is_cut_off (answers_in _ _ (run_within c.args.bench.now.state.on_disk first last c.args.room.now c.args.room.now c.answer_lines.new.room c.answer_lines.new.room c.args.bench.now.reads.failures c.answer_lines.new.bench.reads.failures c.answer_lines.new.bench.reads.failures spans (omega arith) (omega arith) (omega arith)) _ _ _ (device_of g.S.Read.remaining c.args.script.now) (device_of g.S.Read.remaining c.answer_lines.new.script) (device_of g.A.Write.contents c.args.answers.now) (device_of g.A.Write.contents c.answer_lines.new.answers) (Whole c.in-Whole.refused c.in-Whole.is_cut_off) (c.in-Whole.ensures.lines sure)),
      rw none refl,
    )
