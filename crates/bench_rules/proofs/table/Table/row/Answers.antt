use Rattle.std.proofs.Common.{ℕ, ℤ, List, Some, ◌<◌, ◌≤◌, ◌≡◌, ◌+◌, ◌*◌, ◌-◌, length, take, drop, ap, sym, subst, ◌∙◌, rules}
use Rattle.std.specs.Prelude.{slice_get}
use Rattle.bench_rules.specs.Tables.{position_in}
use Rattle.bench_rules.proofs.TableLemmas.{above, row_at, row_below, row_ends}
use Rattle.bench_rules.proofs.table.Table.row.Goals as goal

pub position_of_row-position-requires-clause-listed : goal.position_of_row-position-requires-clause-listed
position_of_row-position-requires-clause-listed c =
    let t = c.self.inside in
    above t.listed t.count c.args.k c.self.invariant.listed (row_below t.listed t.first t.count t.width t.numbers.items c.args.self.now c.args.k c.self.view_is c.requires)

pub position_of_row-position-requires-clause-last : goal.position_of_row-position-requires-clause-last
position_of_row-position-requires-clause-last c =
    let t = c.self.inside in
    let few = row_below t.listed t.first t.count t.width t.numbers.items c.args.self.now c.args.k c.self.view_is c.requires in
    let last = c.self.invariant.last in
    search rules

-- the row is one of those that are there
below : (c : goal.After-as_slice-numbers) → c.args.k < c.self.inside.count
below c =
    let t = c.self.inside in
    row_below t.listed t.first t.count t.width t.numbers.items c.args.self.now c.args.k c.self.view_is c.requires

-- and ends among the numbers
ends : (c : goal.After-as_slice-numbers) → c.self.inside.width * c.args.k + c.self.inside.width ≤ length c.as_slice-numbers.result.now
ends c =
    let there : length c.as_slice-numbers.result.now ≡ c.self.inside.width * c.self.inside.count = ap (λ (xs : List ℤ). length xs) c.as_slice-numbers.ensures.value ∙ c.self.invariant.numbers in
    subst (λ (n : ℕ). c.self.inside.width * c.args.k + c.self.inside.width ≤ n) (sym there) (row_ends c.self.inside.width c.args.k c.self.inside.count (below c))

pub overflow_mul-start : goal.overflow_mul-start
overflow_mul-start c = let e = ends c in search rules

pub overflow_add-result : goal.overflow_add-result
overflow_add-result c = let e = ends c in search rules

pub offset_bounds-numbers-start : goal.offset_bounds-numbers-start
offset_bounds-numbers-start c = let e = ends c in search rules

pub slice_bounds-result-end : goal.slice_bounds-result-end
slice_bounds-result-end c = let e = ends c in search rules

pub returns : goal.returns
returns c =
    let t = c.self.inside in
    let shown : c.as_slice-numbers.result.now ≡ t.numbers.items = c.as_slice-numbers.ensures.value in
    ap (λ (rows : List (ℕ × List ℤ)). slice_get rows c.args.k) (sym c.self.view_is)
    ∙ row_at t.listed t.first t.count t.width c.args.k t.numbers.items (below c.before)
    ∙ ap (λ (xs : List ℤ). Some (position_in t.listed t.first c.args.k, take (t.width * c.args.k + t.width - t.width * c.args.k) (drop (t.width * c.args.k) xs))) (sym shown)
    ∙ ap (λ (n : ℕ). Some (n, take (t.width * c.args.k + t.width - t.width * c.args.k) (drop (t.width * c.args.k) c.as_slice-numbers.result.now))) (sym c.position_of_row-position.ensures)
