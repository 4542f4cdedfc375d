use Rattle.std.proofs.Common.{List, Some, sym, ap, ◌∙◌}
use Rattle.std.specs.Prelude.{slice_get, option_map}
use Rattle.std.proofs.lemmas.Option.{slice_get-map}
use Rattle.trace_record.specs.Packed.{record_in}
use Rattle.trace_record.specs.declared.record.Record.{Record}
use Rattle.record_table.proofs.records.Records.get.Goals as goal

pub returns-in-Some : goal.returns-in-Some
returns-in-Some c =
    ap Some c.record.ensures
    ∙ ap (option_map record_in) (sym c.in-Some.is ∙ c.get.ensures)
    ∙ sym (slice_get-map record_in c.self.inside.column c.args.place)
    ∙ ap (λ (l : List Record). slice_get l c.args.place) c.self.view_is

pub returns-in-None : goal.returns-in-None
returns-in-None c =
    ap (option_map record_in) (sym c.in-None.is ∙ c.get.ensures)
    ∙ sym (slice_get-map record_in c.self.inside.column c.args.place)
    ∙ ap (λ (l : List Record). slice_get l c.args.place) c.self.view_is
