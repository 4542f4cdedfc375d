use Rattle.std.proofs.Common.{ℕ, ℤ, List, length, ap, sym, ◌∙◌}
use Rattle.bench_rules.proofs.TableLemmas.{rows_counted}
use Rattle.bench_rules.proofs.table.Table.count.Goals as goal

pub returns : goal.returns
returns c = sym (ap (λ (rows : List (ℕ × List ℤ)). length rows) (sym c.self.view_is) ∙ rows_counted c.self.inside.listed c.self.inside.first c.self.inside.count c.self.inside.width c.self.inside.numbers.items)
