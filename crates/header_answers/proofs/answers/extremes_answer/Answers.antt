use Rattle.bench_rules.proofs.RangeMemoryLemmas.{range_rises}
use Rattle.bench_rules.proofs.ReadTellLemmas.{range_tells}
use Rattle.header_answers.proofs.answers.extremes_answer.Goals as goal

pub returns-in-Some-clause-memory : goal.returns-in-Some-clause-memory
returns-in-Some-clause-memory c = range_rises c.args.overlay.now.volume c.args.a c.args.b c.in-Some.fault _ c.in-Some.ensures.told

pub returns-in-Some-clause-reads_tell : goal.returns-in-Some-clause-reads_tell
returns-in-Some-clause-reads_tell c = range_tells c.args.overlay.now.volume c.args.a c.args.b c.in-Some.fault c.args.overlay.now.reads c.args.overlay.now.reads c.in-Some.ensures.told
