use Rattle.std.proofs.Common.{sym, ◌∙◌}
use Rattle.trace_groups.proofs.RunLemmas.{tally-grown, tally-closed}
use Rattle.trace_groups.proofs.run_tally.RunTally.push.Goals as goal
use Rattle.trace_groups.proofs.run_tally.RunTally.push.Goals.{in-Some, in-None+in_ok-close-in-None}

pub returns-clause-tally : goal.returns-clause-tally
returns-clause-tally c = elim c.match-grown.branch [
  | in-Some w ↦ λ marks t. rw w.self-is (rw w.run-is (tally-grown marks c.args.mark _ _ _ _ w.in-Some.run' t (sym w.in-Some.is ∙ c.grown.ensures)))
  | in-None+in_ok-close-in-None w ↦ λ marks t.
      let closed = w.in_ok-close-in-None.ensures in
      rw w.self-is (rw w.run-is (rw closed.traces (tally-closed marks c.args.mark _ _ _ _ _ _ t (sym c.grown.ensures ∙ w.in-None.is) closed.closed closed.kept)))
]
