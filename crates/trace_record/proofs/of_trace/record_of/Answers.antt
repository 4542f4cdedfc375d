use Rattle.std.proofs.Common.{sym, subst, ◌∙◌, ℕ}
use Rattle.trace_view.specs.Shown.{bytes_of, head_of}
use Rattle.trace_record.specs.Packable.{HaveRange}
use Rattle.trace_record.proofs.FactsLemmas.{with_own}
use Rattle.trace_record.proofs.of_trace.record_of.Goals as goal

pub record_with-requires : goal.record_with-requires
record_with-requires c = subst (λ (n : ℕ). HaveRange c.amplitudes_of.result n) (sym c.sample_count.ensures) c.amplitudes_of.ensures.range

pub returns : goal.returns
returns c has =
    let v = c.args.view.now in
    c.record_with.ensures has
    ∙ with_own (head_of v) c.args.fields.now.pairs (bytes_of v) c.amplitudes_of.result c.sample_count.result c.amplitudes_of.ensures.value c.sample_count.ensures
