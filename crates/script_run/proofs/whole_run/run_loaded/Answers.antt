use Rattle.std.proofs.Common.{refl, inl, inr, arith, ap, Err}
use Rattle.script_run.specs.declared.lines_end.LinesEnd.TheVariants.{Whole, Stopped, Answers}
use Rattle.script_run.proofs.EndLemmas.{script_end, runs_through, stops, loses_answer}
use Rattle.script_run.proofs.CauseLemmas.{refused_within, run_within, runs_in, reads_spanned, saves_part_in}
use Rattle.script_run.proofs.whole_run.run_loaded.Goals as goal

pub returns-in-Err-clause-run : goal.returns-in-Err-clause-run
returns-in-Err-clause-run g c = λ before after first last spans loaded sure.
    script_end c.args.bench.now.state.on_disk c.args.options _ _ c.in-Err.fault c.tell.result
    (record { start = c.args.bench.now.state; loaded = loaded; refused = c.in-Err.ensures.err; unsaved = refl; memory = λ e. refused_within first.growths _ _ last.growths spans.before spans.behind (c.in-Err.ensures.memory.rose (ap Err e)) })
    (rw c.script_fault_line.ensures at c.tell.ensures)

pub returns-in-Stopped-clause-run : goal.returns-in-Stopped-clause-run
returns-in-Stopped-clause-run g c = λ before after first last spans loaded sure.
    stops c.steps_stay_cut.ensures c.args.bench.now.state.on_disk c.args.options _ _ c.args.bench.now.state c.run_lines.new.bench.state c.in-Ok.lines.items loaded c.in-Ok.ensures.ok
    c.in-Stopped.line refl (runs_in _ _ (run_within c.args.bench.now.state.on_disk first last c.args.room.now _ c.run_lines.new.room c.run_lines.new.room c.args.bench.now.reads.failures c.run_lines.new.bench.reads.failures c.run_lines.new.bench.reads.failures spans c.in-Ok.ensures.memory.never_falls (omega arith) (omega arith)) _ _ _ _ _ _ (Stopped c.in-Stopped.line) (rw c.as_slice.ensures.value at (c.in-Stopped.ensures.lines sure)))

pub returns-in-Answers-clause-run : goal.returns-in-Answers-clause-run
returns-in-Answers-clause-run g c = λ before after first last spans loaded sure.
    inr (inr (loses_answer c.steps_stay_cut.ensures c.args.bench.now.state.on_disk c.args.options _ _ c.args.bench.now.state c.run_lines.new.bench.state c.in-Ok.lines.items loaded c.in-Ok.ensures.ok
    c.in-Answers.written refl (runs_in _ _ (run_within c.args.bench.now.state.on_disk first last c.args.room.now _ c.run_lines.new.room c.run_lines.new.room c.args.bench.now.reads.failures c.run_lines.new.bench.reads.failures c.run_lines.new.bench.reads.failures spans c.in-Ok.ensures.memory.never_falls (omega arith) (omega arith)) _ _ _ _ _ _ (Answers c.in-Answers.written) (rw c.as_slice.ensures.value at (c.in-Answers.ensures.lines sure)))))

pub returns-in-Ok-save-clause-run : goal.returns-in-Ok-save-clause-run
returns-in-Ok-save-clause-run g c = λ before after first last spans loaded sure. (
  c.run_lines.new.bench.state,
  runs_through c.steps_stay_cut.ensures c.args.bench.now.state.on_disk c.args.options _ _ c.args.bench.now.state c.run_lines.new.bench.state c.in-Ok.lines.items loaded c.in-Ok.ensures.ok
      c.in-Whole.refused (runs_in _ _ (run_within c.args.bench.now.state.on_disk first last c.args.room.now _ c.run_lines.new.room c.run_lines.new.room c.args.bench.now.reads.failures c.run_lines.new.bench.reads.failures c.save.new.bench.reads.failures spans c.in-Ok.ensures.memory.never_falls (omega arith) c.in-Ok-save.ensures.reads.failures) _ _ _ _ _ _ (Whole c.in-Whole.refused) (rw c.as_slice.ensures.value at (c.in-Whole.ensures.lines (c.in-Ok-save.ensures.reads.agreed sure)))),
  rw c.if-options.true (c.in-Ok-save.ensures.saved sure),
)

pub returns-in-Whole-clause-run : goal.returns-in-Whole-clause-run
returns-in-Whole-clause-run g c = λ before after first last spans loaded sure. (
  c.in-Whole.refused,
  c.run_lines.new.bench.state,
  runs_through c.steps_stay_cut.ensures c.args.bench.now.state.on_disk c.args.options _ _ c.args.bench.now.state c.run_lines.new.bench.state c.in-Ok.lines.items loaded c.in-Ok.ensures.ok
      c.in-Whole.refused (runs_in _ _ (run_within c.args.bench.now.state.on_disk first last c.args.room.now _ c.run_lines.new.room c.run_lines.new.room c.args.bench.now.reads.failures c.run_lines.new.bench.reads.failures c.save.new.bench.reads.failures spans c.in-Ok.ensures.memory.never_falls (omega arith) c.in-Err-save.ensures.reads.failures) _ _ _ _ _ _ (Whole c.in-Whole.refused) (rw c.as_slice.ensures.value at (c.in-Whole.ensures.lines (c.in-Err-save.ensures.reads.agreed sure)))),
  c.if-options.true,
  rw c.in-Whole.ensures.same.on_disk at (saves_part_in _ _ (reads_spanned c.args.bench.now.state.on_disk first last c.run_lines.new.bench.reads c.save.new.bench.reads (λ disk. omega (arith, spans.reads_before disk, c.in-Whole.ensures.reads.failures)) spans.reads_behind)
      c.run_lines.new.bench.state.on_disk _ _ _ c.in-Err-save.fault (c.in-Err-save.ensures.saved sure)),
)

pub returns-clause-run : goal.returns-clause-run
returns-clause-run g c = λ before after first last spans loaded sure. (
  c.run_lines.new.bench.state,
  runs_through c.steps_stay_cut.ensures c.args.bench.now.state.on_disk c.args.options _ _ c.args.bench.now.state c.run_lines.new.bench.state c.in-Ok.lines.items loaded c.in-Ok.ensures.ok
      c.in-Whole.refused (runs_in _ _ (run_within c.args.bench.now.state.on_disk first last c.args.room.now _ c.run_lines.new.room c.run_lines.new.room c.args.bench.now.reads.failures c.run_lines.new.bench.reads.failures c.run_lines.new.bench.reads.failures spans c.in-Ok.ensures.memory.never_falls (omega arith) (omega arith)) _ _ _ _ _ _ (Whole c.in-Whole.refused) (rw c.as_slice.ensures.value at (c.in-Whole.ensures.lines sure))),
  rw c.if-options.false refl,
)

pub returns-in-Err-clause-looks : goal.returns-in-Err-clause-looks
returns-in-Err-clause-looks g c = λ sure. inr (c.in-Err.fault, c.in-Err.ensures.err, refl)

pub returns-in-Stopped-clause-looks : goal.returns-in-Stopped-clause-looks
returns-in-Stopped-clause-looks g c = λ sure. inl (c.in-Ok.lines.items, c.in-Ok.ensures.ok, rw c.as_slice.ensures.value at (c.in-Stopped.ensures.looks sure))

pub returns-in-Answers-clause-looks : goal.returns-in-Answers-clause-looks
returns-in-Answers-clause-looks g c = λ sure. inl (c.in-Ok.lines.items, c.in-Ok.ensures.ok, rw c.as_slice.ensures.value at (c.in-Answers.ensures.looks sure))

pub returns-in-Ok-save-clause-looks : goal.returns-in-Ok-save-clause-looks
returns-in-Ok-save-clause-looks g c = λ sure.
    let run = rw c.as_slice.ensures.value at (c.in-Whole.ensures.looks (c.in-Ok-save.ensures.reads.agreed sure)) in
    rw (c.in-Ok-save.ensures.state, c.in-Ok-save.ensures.looks) (inl (c.in-Ok.lines.items, c.in-Ok.ensures.ok, run))

pub returns-in-Whole-clause-looks : goal.returns-in-Whole-clause-looks
returns-in-Whole-clause-looks g c = λ sure.
    let run = rw c.as_slice.ensures.value at (c.in-Whole.ensures.looks (c.in-Err-save.ensures.reads.agreed sure)) in
    rw (c.in-Err-save.ensures.state, c.in-Err-save.ensures.looks) (inl (c.in-Ok.lines.items, c.in-Ok.ensures.ok, run))

pub returns-clause-looks : goal.returns-clause-looks
returns-clause-looks g c = λ sure. inl (c.in-Ok.lines.items, c.in-Ok.ensures.ok, rw c.as_slice.ensures.value at (c.in-Whole.ensures.looks sure))
