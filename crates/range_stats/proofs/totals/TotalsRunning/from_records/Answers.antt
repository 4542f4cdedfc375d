use Rattle.std.proofs.Common.{◌∙◌, SFits, arith, rules}
use Rattle.std.specs.Int.{w128}
use Rattle.std.proofs.lemmas.Int.{to_z-of_z}
use Rattle.std.proofs.lemmas.List.{length-map}
use Rattle.trace_record.specs.Facts.{facts_of}
use Rattle.range_stats.proofs.LoadLemmas.{Same-loaded_totals}
use Rattle.range_stats.proofs.totals.TotalsRunning.from_records.Goals as goal

pub of-requires-clause-few : goal.of-requires-clause-few
of-requires-clause-few c = let few = c.requires.records in omega (arith, length-map c.args.records.now facts_of)

pub returns-clause-same : goal.returns-clause-same
returns-clause-same c =
    let fits : SFits w128 c.in_ok-least.field-0.sums.sum = search rules in
    Same-loaded_totals _ c.args.records.now c.len.ensures c.in_ok-least.ensures.number (to_z-of_z w128 _ fits ∙ c.in_ok-least.ensures.sum)
    c.in_ok-least.ensures.least c.in_ok-least.ensures.greatest
