use Rattle.std.proofs.Common.{refl, inr, ◌∙◌, List, ℕ, subst, arith, ap, Err}
use Rattle.frame_cut.specs.Volume.{bytes_of}
use Rattle.script_run.specs.InPlace.{Repairs}
use Rattle.script_run.specs.declared.lines_end.LinesEnd.TheVariants.{Whole, Stopped, Answers}
use Rattle.script_run.proofs.EndLemmas.{runs_through, stops, loses_answer}
use Rattle.script_run.proofs.CauseLemmas.{refused_within, run_within, runs_in}
use Rattle.script_run.proofs.InPlaceLemmas.{script_end_in_place}
use Rattle.script_run.proofs.in_place.loaded_in_place.Goals as goal

pub returns-in-Err-clause-run : goal.returns-in-Err-clause-run
returns-in-Err-clause-run g c = λ before after first last spans loaded bytes sure.
    rw (c.not_begun.ensures.end, c.not_begun.ensures.repaired) (
    script_end_in_place c.args.bench.now.state.on_disk c.args.options _ _ c.in-Err.fault c.tell.result _
    (record { start = c.args.bench.now.state; loaded = loaded; refused = c.in-Err.ensures.err; unsaved = refl; memory = λ e. refused_within first.growths _ _ last.growths spans.before spans.behind (c.in-Err.ensures.memory.rose (ap Err e)) })
    (rw c.script_fault_line.ensures at c.tell.ensures))

pub returns-in-Stopped-clause-run : goal.returns-in-Stopped-clause-run
returns-in-Stopped-clause-run g c = λ before after first last spans loaded bytes sure.
    rw (c.not_begun-in-Stopped.ensures.end, c.not_begun-in-Stopped.ensures.repaired) (
      stops c.steps_stay_cut.ensures c.args.bench.now.state.on_disk c.args.options _ _ c.args.bench.now.state c.run_lines.new.bench.state c.in-Ok.lines.items loaded c.in-Ok.ensures.ok
          c.in-Stopped.line refl (runs_in _ _ (run_within c.args.bench.now.state.on_disk first last c.args.room.now _ c.run_lines.new.room c.run_lines.new.room c.args.bench.now.reads.failures c.run_lines.new.bench.reads.failures c.run_lines.new.bench.reads.failures spans c.in-Ok.ensures.memory.never_falls (omega arith) (omega arith)) _ _ _ _ _ _ (Stopped c.in-Stopped.line) (rw c.as_slice.ensures.value at (c.in-Stopped.ensures.lines sure))),
      refl,
      refl,
    )

pub returns-in-Answers-clause-run : goal.returns-in-Answers-clause-run
returns-in-Answers-clause-run g c = λ before after first last spans loaded bytes sure.
    rw (c.not_begun-in-Answers.ensures.end, c.not_begun-in-Answers.ensures.repaired) (
      inr (inr (loses_answer c.steps_stay_cut.ensures c.args.bench.now.state.on_disk c.args.options _ _ c.args.bench.now.state c.run_lines.new.bench.state c.in-Ok.lines.items loaded c.in-Ok.ensures.ok
          c.in-Answers.written refl (runs_in _ _ (run_within c.args.bench.now.state.on_disk first last c.args.room.now _ c.run_lines.new.room c.run_lines.new.room c.args.bench.now.reads.failures c.run_lines.new.bench.reads.failures c.run_lines.new.bench.reads.failures spans c.in-Ok.ensures.memory.never_falls (omega arith) (omega arith)) _ _ _ _ _ _ (Answers c.in-Answers.written) (rw c.as_slice.ensures.value at (c.in-Answers.ensures.lines sure))))),
      refl,
      refl,
    )

pub returns-clause-run : goal.returns-clause-run
unfolding runs_through
returns-clause-run g c = λ before after first last spans loaded bytes sure. (
  c.run_lines.new.bench.state,
  runs_through c.steps_stay_cut.ensures c.args.bench.now.state.on_disk c.args.options _ _ c.args.bench.now.state c.run_lines.new.bench.state c.in-Ok.lines.items loaded c.in-Ok.ensures.ok
      c.in-Whole.refused (runs_in _ _ (run_within c.args.bench.now.state.on_disk first last c.args.room.now _ c.run_lines.new.room c.run_lines.new.room c.args.bench.now.reads.failures c.run_lines.new.bench.reads.failures c.run_lines.new.bench.reads.failures spans c.in-Ok.ensures.memory.never_falls (omega arith) (omega arith)) _ _ _ _ _ _ (Whole c.in-Whole.refused) (rw c.as_slice.ensures.value at (c.in-Whole.ensures.lines sure))),
  subst (λ (l : List ℕ). Repairs c.args.options.save l (bytes_of c.run_lines.new.bench.state.volume) c.repaired.result (g.D.Disk.disk c.args.disk.now) (g.D.Disk.disk c.repaired.new.disk)) (c.in-Whole.ensures.loaded ∙ bytes) c.repaired.ensures.repairs,
)
