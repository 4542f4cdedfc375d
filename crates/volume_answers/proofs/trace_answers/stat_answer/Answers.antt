use Rattle.volume_answers.proofs.trace_answers.stat_answer.Goals as goal

pub returns-clause-reads_tell : goal.returns-clause-reads_tell
returns-clause-reads_tell c = c.stat_of_numbers.ensures.reads_tell c.args.overlay.now.reads c.args.overlay.now.reads
