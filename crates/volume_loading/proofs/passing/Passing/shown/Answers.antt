use Rattle.std.proofs.Common.{◌<◌, length, subst, sym, take, arith}
use Rattle.std.proofs.lemmas.List.{length-take}
use Rattle.frame_cut.specs.Cuts.{IsTrace}
use Rattle.volume_loading.proofs.PassingLemmas.{trace_shown}
use Rattle.volume_loading.proofs.passing.Passing.shown.Goals as goal

pub new-requires-clause-whole : goal.new-requires-clause-whole
new-requires-clause-whole g c =
    let p = c.self.inside in
    let asked : 0 < length (take p.next p.window.bytes) = rw (← c.self.view_is) at c.requires in
    let some : 0 < p.next = omega (arith, asked, length-take p.next p.window.bytes) in
    subst (IsTrace p.store.head) (sym c.front-bytes.ensures) (trace_shown p c.self.invariant some).0
