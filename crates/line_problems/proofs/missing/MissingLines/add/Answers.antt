use Rattle.std.proofs.Common.{arith}
use Rattle.std.specs.Int.{w64}
use Rattle.std.proofs.lemmas.Int.{to_z-of_z}
use Rattle.grid_live.specs.declared.line.Line.{Line}
use Rattle.line_problems.proofs.MissingLemmas.{told_run, told_no_run}
use Rattle.line_problems.proofs.missing.MissingLines.add.Goals as goal
use Rattle.line_problems.proofs.missing.MissingLines.add.Goals.{then-len-lt-MOST_RUNS+in_ok-told_back, else-len-lt-MOST_RUNS}

pub returns-clause-told : goal.returns-clause-told
returns-clause-told c gs h =
    let self = c.args.self.now in
    let g : Line × Line = (c.args.line.now, c.args.next.now) in
    let step = to_z-of_z w64 c.args.step c.ranges.step in
    let count = rw step at c.count_missing.ensures.count in
    elim c.if-len-lt-MOST_RUNS.branch [
      | then-len-lt-MOST_RUNS+in_ok-told_back w ↦ rw (w.self-is, count, rw w.in_ok-told_back.ensures.ok at w.push.ensures.items, w.between.ensures, step)
          (told_run c.args.step gs g self.missing self.runs self.first_runs.items h (omega (arith, w.if-len-lt-MOST_RUNS.true, c.len.ensures)))
      | else-len-lt-MOST_RUNS w ↦ rw (w.self-is, count) (told_no_run c.args.step gs g self.missing self.runs self.first_runs.items h (omega (arith, w.if-len-lt-MOST_RUNS.false, c.len.ensures)))
    ]
