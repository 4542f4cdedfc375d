use Rattle.std.proofs.Common.{◌≡◌, ◌∙◌, ap, sym, rules}
use Rattle.std.specs.Prelude.{is_some, slice_index_or}
use Rattle.trace_view.specs.Shown.{bytes_of, head_of}
use Rattle.many_traces.specs.Fields.{number_in}
use Rattle.bench_rules.proofs.EachLemmas.{list_left}
use Rattle.many_traces.proofs.row.has_fields.Goals as goal

pub loop-field-preserved : goal.loop-field-preserved
loop-field-preserved c =
    let item : slice_index_or c.args.fields.now c.loop-field.field-index c.field-item.result ≡ c.field-item.result = search rules in
    c.loop-field.invariant
    ∙ list_left (number_in (head_of c.args.trace.now) (bytes_of c.args.trace.now) c.args.map.now.pairs) c.args.fields.now c.loop-field.field-index c.field-item.result c.loop-field-test.true
    (ap (λ field. is_some (number_in (head_of c.args.trace.now) (bytes_of c.args.trace.now) c.args.map.now.pairs field)) item ∙ ap (λ o. is_some o) (sym c.number_of.ensures) ∙ c.if-is_none.ensures)
