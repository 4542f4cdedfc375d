use Rattle.std.proofs.Common.{rules, SFits, ap, length, Some, ℤ, List, ℕ, ◌∙◌}
use Rattle.std.specs.Int.{w128}
use Rattle.std.proofs.lemmas.Int.{to_z-of_z}
use Rattle.trace_view.specs.Shown.{bytes_of, head_of}
use Rattle.header_answers.proofs.MainLemmas.{length-main, main_number}
use Rattle.header_answers.proofs.main_numbers.number_at.Goals as goal

pub number_in-requires-clause-main : goal.number_in-requires-clause-main
number_in-requires-clause-main c =
    let v = c.args.trace.now in
    ap (λ (main : List ℕ). length main) c.requires ∙ length-main (head_of v) (bytes_of v) v.whole

pub returns-then-is_in_header : goal.returns-then-is_in_header
returns-then-is_in_header c =
    let v = c.args.trace.now in
    let fits : SFits w128 c.number_in.result = search rules in
    ap (λ (x : ℤ). Some x) (to_z-of_z w128 _ fits)
    ∙ main_number (head_of v) (bytes_of v) c.args.main.now c.args.place c.number_in.result c.requires (search rules) (search rules) (search rules)
