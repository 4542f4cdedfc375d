use Rattle.std.proofs.Common.{◌≡◌, ◌∙◌, ◌+◌, List, ◌++◌, ℕ, length, take, drop, ap}
use Rattle.std.proofs.lemmas.List.{take_at}
use Rattle.trace_store.specs.Windows.{IsNextOf}
use Rattle.trace_store.proofs.WindowLemmas.{next_grown, view_grown}
use Rattle.trace_store.proofs.window.Window.read_some.Goals as goal

pub returns-clause-next : goal.returns-clause-next
returns-clause-next c at is =
    let w = c.self.inside in
    let new : List ℕ = c.read_into.new.block in
    let n : ℕ = c.in-Ok.count in
    let size : length new ≡ w.block.len = c.read_into.auto.block ∙ c.as_mut_slice.ensures.len in
    let whole : take w.block.len (new ++ drop (length new) w.block.items) ≡ new = take_at new (drop (length new) w.block.items) w.block.len size in
    let front : take w.end new ≡ take w.end w.block.items = c.read_into.ensures.front ∙ ap (take w.end) c.as_mut_slice.ensures.value in
    let before : IsNextOf c.args.held.now.bytes at (drop w.start (take w.end w.block.items)) = rw (← c.self.view_is) at is in
    let grown : drop w.start (take (w.end + n) new) ≡ drop w.start (take w.end w.block.items) ++ take n (drop w.end new) = view_grown w.block.items new w.start w.end n c.self.invariant.order c.self.invariant.inside front in
    rw (whole, grown, c.in-Ok.ensures.bytes) (next_grown c.args.held.now.bytes (take n (drop w.end new)) at (drop w.start (take w.end w.block.items)) before)
