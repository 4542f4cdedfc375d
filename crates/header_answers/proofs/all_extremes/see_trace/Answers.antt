use Rattle.std.proofs.Common.{◌∙◌, List, length, ap}
use Rattle.trace_view.specs.Shown.{bytes_of, head_of}
use Rattle.header_answers.specs.declared.seen.Seen.{Seen}
use Rattle.header_answers.proofs.SeenLemmas.{seen_of_each}
use Rattle.header_answers.proofs.all_extremes.see_trace.Goals as goal

pub returns-clause-each : goal.returns-clause-each
returns-clause-each c =
    let view = c.in-Some.trace in
    ap (λ (ss : List Seen). length ss) c.see_numbers.ensures
    ∙ seen_of_each (head_of view) (bytes_of view) c.args.names.now c.args.seen.now.items c.requires.each
