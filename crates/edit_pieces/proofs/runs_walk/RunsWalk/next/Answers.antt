use Rattle.std.proofs.Common.{◌≡◌, ◌∙◌, sym, length}
use Rattle.std.proofs.lemmas.Bool.{eqb-true}
use Rattle.edit_pieces.proofs.RunLemmas.{enter-left, enter-runs, enter-held}
use Rattle.edit_pieces.proofs.runs_walk.RunsWalk.next.Goals as goal

pub traces-preserved-in-traces : goal.traces-preserved-in-traces
traces-preserved-in-traces g c =
    let w = c.traces.self-inside in
    let s = w.store.now in
    let id = c.in_ok-id.id in
    let slot = c.in-Some.slot.now in
    let e = c.in-Some-extent.extent in
    let runs = c.runs-self-inside.result.now in
    let none : length w.runs.now ≡ 0 = eqb-true (length w.runs.now) 0 (sym c.is_empty.ensures ∙ c.traces-test.true) in
    let step = c.in_ok-id.ensures.steps in
    let found = sym c.in-Some.ensures in
    let over = sym c.extent.ensures ∙ c.in-Some-extent.is in
    let is = c.runs-self-inside.ensures in
    let held = c.traces.invariant.1.1.1 in (
      enter-left s.slots w.ids c.next.new.self id w.start w.runs.now runs slot e none step found over is ∙ c.traces.invariant.0,
      (
        c.traces.invariant.1.0,
        (
          enter-runs s.loaded s.head s.slots w.ids c.next.new.self id runs slot e held step found over is,
          enter-held s.loaded s.head s.slots w.ids c.next.new.self id held step,
        ),
      ),
    )
