use Rattle.std.proofs.Common.{◌∙◌, List, ℕ, ap, length, subst}
use Rattle.frame_cut.specs.Cuts.{IsTrace}
use Rattle.frame_cut.specs.declared.file_head.Head.{Head}
use Rattle.trace_view.specs.Shown.{bytes_of}
use Rattle.volume_records.proofs.SeenLemmas.{if_ok}
use Rattle.live_volume.proofs.live_volume.LiveVolume.trace_bytes.Goals as goal

pub returns-clause-ok : goal.returns-clause-ok
returns-clause-ok c =
    let seen = rw (c.in_ok-trace.was, c.in-Some.is) at c.look.follows.holds-at-none in
    rw (← c.self.view_is) (if_ok c.joined.result (λ bytes e sure. e ∙ (seen.trace sure).1) c.joined.ensures.ok)

pub returns-clause-whole : goal.returns-clause-whole
returns-clause-whole c =
    let shape = rw c.in-Some.is at c.in_ok-trace.ensures.shape in
    rw (← c.self.view_is) (if_ok c.joined.result (λ bytes e. rw e (subst (λ (h : Head). IsTrace h (bytes_of c.in-Some.trace)) shape.0 c.in-Some.trace.whole)) c.joined.ensures.ok)

pub returns-clause-long : goal.returns-clause-long
returns-clause-long c =
    let shape = rw c.in-Some.is at c.in_ok-trace.ensures.shape in
    rw (← c.self.view_is) (if_ok c.joined.result (λ bytes e. ap (λ (l : List ℕ). length l) e ∙ shape.1) c.joined.ensures.ok)
