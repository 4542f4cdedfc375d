use Rattle.std.proofs.Common.{◌∙◌, sym}
use Rattle.trace_view.specs.Shown.{bytes_of, head_of}
use Rattle.bench_rules.proofs.TestTermLemmas.{by_their_numbers}
use Rattle.bench_rules.proofs.test.meets_one.Goals as goal

pub returns-in-Term-right : goal.returns-in-Term-right
returns-in-Term-right c =
    c.meets_terms.ensures
    ∙ by_their_numbers (head_of c.args.trace.now) (bytes_of c.args.trace.now) c.args.amplitudes c.args.test.now.comparison c.args.test.now.left c.args.test.now.right c.in-Term.left c.in-Term-right.right c.in-Term.is c.in-Term-right.is
