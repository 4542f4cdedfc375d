use Rattle.std.proofs.Common.{IsTrue, Bool, pos, get_or, sym, subst}
use Rattle.std.proofs.lemmas.List.Elements.{All-get_or}
use Rattle.num_order.specs.Number.{IsBetween}
use Rattle.time_slice.specs.Fitting.{value_fits}
use Rattle.bench_rules.specs.declared.row.Row.{Row}
use Rattle.time_slice.proofs.FitLemmas.{fits_in_8}
use Rattle.time_slice.proofs.kept_rows.KeptRows.of.Goals as goal

pub of-requires : goal.of-requires
of-requires c =
    let none : Row = record { inline = pos 0; crossline = pos 0; position = 0; value = pos 0 } in
    let row : Row = get_or c.args.rows.now c.loop-row.row-index none in
    let fits : IsTrue (value_fits c.args.format row.value) = All-get_or (λ (r : Row). IsTrue (value_fits c.args.format r.value)) c.args.rows.now c.loop-row.row-index none c.loop-row-test.true c.requires in
    subst (λ (b : Bool). IsBetween b 8 row.value) (sym c.may_be_signed-signed.ensures) (fits_in_8 c.args.format row.value fits)
