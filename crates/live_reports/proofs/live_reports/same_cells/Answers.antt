use Rattle.std.proofs.Common.{arith, ◌≡◌, ◌∙◌, sym, ap, ◌+◌, ◌&&◌, Bool, true, false, drop}
use Rattle.live_reports.specs.Alike.{same_cell}
use Rattle.live_reports.specs.Exchanged.{same_cells}
use Rattle.live_reports.proofs.ExchangeLemmas.{cells_from, no_cells}
use Rattle.live_reports.proofs.ListLemmas.{item_at}
use Rattle.live_reports.proofs.live_reports.same_cells.Goals as goal

pub overflow_add-place : goal.overflow_add-place
overflow_add-place c = omega (arith, c.requires, c.loop-k-test.true, c.len-k-end.ensures, c.len-count.ensures)

pub unreachable-requires : goal.unreachable-requires
unreachable-requires c =
    let i = item_at c.args.records.now (c.args.place + c.loop-k.k) (omega (arith, c.requires, c.loop-k-test.true, c.len-k-end.ensures)) in
    c.in_default.not-Some i.item (c.get.ensures ∙ i.is)

pub returns-then-not-has_same_cell : goal.returns-then-not-has_same_cell
returns-then-not-has_same_cell c =
    let rest : Bool = same_cells (drop (c.args.place + (c.loop-k.k + 1)) c.args.records.now) (drop (c.loop-k.k + 1) c.args.new.now) in
    let other : same_cell c.in-Some.held c.new_at-record.result ≡ false = sym c.has_same_cell.ensures ∙ c.if-not-has_same_cell.true in
    sym (ap (λ b. b && rest) other)
    ∙ sym (cells_from c.args.records.now c.args.place c.loop-k.k c.args.new.now c.in-Some.held c.new_at-record.result (sym c.get.ensures ∙ c.in-Some.is) (rw c.len-k-end.ensures at c.loop-k-test.true) c.new_at-record.ensures)
    ∙ c.loop-k.invariant

pub loop-k-preserved : goal.loop-k-preserved
loop-k-preserved c =
    let rest : Bool = same_cells (drop (c.args.place + (c.loop-k.k + 1)) c.args.records.now) (drop (c.loop-k.k + 1) c.args.new.now) in
    let same : same_cell c.in-Some.held c.new_at-record.result ≡ true = sym c.has_same_cell.ensures ∙ c.if-not-has_same_cell.false in
    sym (ap (λ b. b && rest) same)
    ∙ sym (cells_from c.args.records.now c.args.place c.loop-k.k c.args.new.now c.in-Some.held c.new_at-record.result (sym c.get.ensures ∙ c.in-Some.is) (rw c.len-k-end.ensures at c.loop-k-test.true) c.new_at-record.ensures)
    ∙ c.loop-k.invariant

pub returns : goal.returns
returns c = sym (no_cells (drop (c.args.place + c.loop-k.k) c.args.records.now) c.args.new.now c.loop-k.k (rw c.len-k-end.ensures at c.loop-k-test.false)) ∙ c.loop-k.invariant
