use Rattle.std.proofs.Common.{◌≡◌, ◌<◌, ◌+◌, ◌∙◌, ℕ, List, sym, ap, arith}
use Rattle.key_counts.specs.Counts.{count_of}
use Rattle.position_differences.specs.declared.difference.Difference.{Difference}
use Rattle.std.proofs.lemmas.Map.Views.{All-values-insert_entry}
use Rattle.position_differences.specs.Differences.{difference_cmp}
use Rattle.survey_cells.proofs.LatelyLemmas.{counted_more}
use Rattle.survey_cells.proofs.times.Times.raise_by.Goals as goal

pub invariant_of-self-2 : goal.invariant_of-self-2
invariant_of-self-2 c =
    let entries = rw c.in_ok-told_back.ensures.ok at c.insert-inserted.ensures.entries in
    rw entries (All-values-insert_entry difference_cmp c.args.difference _ (λ n. 0 < n) c.self.inside.map.entries c.self.invariant (omega arith))

pub returns-clause-each : goal.returns-clause-each
returns-clause-each c = λ q.
    let updates = rw c.in_ok-told_back.ensures.ok at c.insert-inserted.ensures.updates in
    let old = c.self.inside.map.entries in
    let number : c.count.result ≡ count_of difference_cmp old c.args.difference = c.count.ensures ∙ ap (λ (es : List (Difference × ℕ)). count_of difference_cmp es c.args.difference) (sym c.self.view_is) in
    rw (← c.self.view_is) (counted_more c.args.difference q old c.insert-inserted.new.self.entries (c.count.result + c.args.times) c.args.times (updates.0 q) (ap (λ n. n + c.args.times) number))
