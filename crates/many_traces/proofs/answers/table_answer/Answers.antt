use Rattle.std.proofs.Common.{◌∙◌, inl, sym}
use Rattle.bench_rules.proofs.RangeLemmas.{table_is, table_refused}
use Rattle.bench_rules.proofs.RangeMemoryLemmas.{range_rises}
use Rattle.bench_rules.proofs.ReadTellLemmas.{range_tells}
use Rattle.many_traces.proofs.answers.table_answer.Goals as goal

pub returns-in-Err-clause-reply : goal.returns-in-Err-clause-reply
returns-in-Err-clause-reply c = λ s same held disk sure.
    let range = c.range_fault.ensures in
    table_refused s c.args.overlay.now.volume c.args.map.now.pairs c.args.a c.args.b c.args.fields.now c.in-Err.fault c.args.overlay.now.loaded.on_disk c.range_fault.result same held disk range.told c.in_default.is
    (range.first c.in_default.is) (range.range c.in_default.is) (range.last c.in_default.is) sure c.in-Err.ensures.err

pub returns-clause-reply : goal.returns-clause-reply
returns-clause-reply c = λ s same held disk sure.
    inl (sym (table_is s c.args.overlay.now.volume c.args.map.now.pairs c.args.a c.args.b c.args.fields.now c.range_fault.result same held c.range_fault.ensures.told c.in_default.is ∙ c.in-Ok.ensures.ok sure))

pub returns-in-Some-clause-memory : goal.returns-in-Some-clause-memory
returns-in-Some-clause-memory c = range_rises c.args.overlay.now.volume c.args.a c.args.b c.in-Some.fault _ c.in-Some.ensures.told

pub returns-in-Some-clause-reads_tell : goal.returns-in-Some-clause-reads_tell
returns-in-Some-clause-reads_tell c = range_tells c.args.overlay.now.volume c.args.a c.args.b c.in-Some.fault c.args.overlay.now.reads c.args.overlay.now.reads c.in-Some.ensures.told
