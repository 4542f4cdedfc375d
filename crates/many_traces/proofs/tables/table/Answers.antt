use Rattle.std.proofs.Common.{◌≡◌, ◌∙◌, ℕ, ℤ, List, All, IfOk, length, ap, subst}
use Rattle.field_map.specs.declared.place.Place.{Place}
use Rattle.bench_rules.specs.Places.{place_in_trace}
use Rattle.many_traces.proofs.RowsLemmas.{each_long}
use Rattle.many_traces.proofs.tables.table.Goals as goal

pub returns-in-Some-space-clause-wide : goal.returns-in-Some-space-clause-wide
returns-in-Some-space-clause-wide c =
    let same : length c.as_slice.result.now ≡ length c.args.fields.now =
    ap (λ (ps : List Place). length ps) c.as_slice.ensures.value ∙ each_long (place_in_trace c.args.map.now.pairs) c.args.fields.now c.in-Some.places.items c.in-Some.ensures.places in
    subst (λ (n : ℕ). IfOk c.filled.result (λ rows. All (λ (row : ℕ × List ℤ). length row.1 ≡ n) rows)) same c.filled.ensures.wide

pub returns-in_default-clause-reads_tell : goal.returns-in_default-clause-reads_tell
returns-in_default-clause-reads_tell c = c.in_ok-without_memory.ensures.rule c.args.overlay.now.reads c.without_memory.new.overlay.reads

pub returns-clause-reads_tell : goal.returns-clause-reads_tell
returns-clause-reads_tell c = c.in_ok-without_memory-in-None.ensures.rule c.args.overlay.now.reads c.without_memory-in-None.new.overlay.reads
