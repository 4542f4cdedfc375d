use Rattle.std.proofs.Common.{◌∙◌, [], refl, sym, append-nil, arith}
use Rattle.line_texts.proofs.OutLemmas.{held}
use Rattle.script_run.proofs.CauseLemmas.{reads_around}
use Rattle.script_run.proofs.SectionOutLemmas.{row_broken, row_pushed}
use Rattle.script_run.proofs.sections.push_rows.Goals as goal

pub loop-p-init : goal.loop-p-init
loop-p-init g c = record {
  rows = λ sure. record { before = []; lines = []; all = refl; rows = refl; out = held _ c.args.out.now c.args.out.now [] c.requires (sym (append-nil c.args.out.now.waits)) refl };
  state = refl;
  reads = record { agreed = λ sure. sure; failures = omega arith };
  loaded = refl;
  looks = (omega arith, omega arith);
}

pub returns-in_err-refused-clause-rows : goal.returns-in_err-refused-clause-rows
returns-in_err-refused-clause-rows g c = λ sure.
    let i = c.loop-p.invariant in
    let row = c.in_err-refused.ensures in
    row_broken c.args.bench.now.state c.args.section.now _ _ c.args.out.now c.loop-p.out c.loop-p.p-index (i.rows (row.reads.agreed sure)) _ _ (reads_around c.args.bench.now.reads c.loop-p.bench.reads c.push_row.new.bench.reads c.push_row.new.bench.reads i.reads.failures (omega arith)) _ _ c.loop-p.bench.state i.state c.float_format-floats.result c.float_format-floats.ensures
    c.as_slice-p-items.result.now c.as_slice-p-items.ensures c.loop-p-test.true c.push_row.new.out c.from_residual.result c.in_err-refused.field-0.0 c.from_residual.ensures.1 (row.row sure)

pub loop-p-preserved : goal.loop-p-preserved
loop-p-preserved g c =
    let i = c.loop-p.invariant in
    let row = c.in_ok-refused.ensures in
    record {
      rows = λ sure.
          row_pushed c.args.bench.now.state c.args.section.now _ _ c.args.out.now c.loop-p.out c.loop-p.p-index (i.rows (row.reads.agreed sure)) _ _ (reads_around c.args.bench.now.reads c.loop-p.bench.reads c.push_row.new.bench.reads c.push_row.new.bench.reads i.reads.failures (omega arith)) _ _ c.loop-p.bench.state i.state c.float_format-floats.result c.float_format-floats.ensures
          c.as_slice-p-items.result.now c.as_slice-p-items.ensures c.loop-p-test.true c.push_row.new.out c.in_ok-refused.refused (sym c.is_some.ensures ∙ c.if-is_some.false) (row.row sure);
      state = row.state ∙ i.state;
      reads = record { agreed = λ sure. i.reads.agreed (row.reads.agreed sure); failures = omega (arith, i.reads.failures, row.reads.failures) };
      loaded = row.loaded ∙ i.loaded;
      looks = (omega (arith, i.looks.0, row.looks.0), omega (arith, i.looks.1, row.looks.1));
    }
