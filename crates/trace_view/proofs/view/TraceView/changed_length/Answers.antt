use Rattle.std.proofs.Common.{◌≡◌, ◌≤◌, ◌∙◌, ℕ, List, Option, Some, length, arith, ap, sym}
use Rattle.std.proofs.lemmas.Grind.{common_steps}
use Rattle.frame_cut.specs.Frames.{front_length, trace_length}
use Rattle.frame_cut.specs.Splice.{splice}
use Rattle.trace_view.specs.Shown.{head_of, bytes_of}
use Rattle.trace_view.proofs.CountedLemmas.{length-kept}
use Rattle.trace_view.proofs.FrontLemmas.{length-front}
use Rattle.trace_view.proofs.view.TraceView.changed_length.Goals as goal

pub returns-then-leave_length : goal.returns-then-leave_length
returns-then-leave_length c =
    let v = c.args.self.now in
    let t : List ℕ = bytes_of v in
    let at : ℕ = c.args.at in
    let new : List ℕ = c.args.bytes.now in
    let kept : trace_length (head_of v) (splice t at (length new) new) ≡ trace_length (head_of v) t = length-kept (head_of v) t new at c.requires (sym c.leave_length.ensures ∙ c.if-leave_length.true) in
    ap (λ (n : ℕ). let o : Option ℕ = Some n in o) c.length-length.ensures ∙ sym v.whole.exact ∙ sym kept

pub returns : goal.returns
returns c =
    let long : front_length c.args.self.now.head.now ≤ length c.read_changed.new.front = grind (arith, common_steps) in
    c.trace_length.ensures
    ∙ length-front (head_of c.args.self.now) (splice (bytes_of c.args.self.now) c.args.at (length c.args.bytes.now) c.args.bytes.now) c.read_changed.new.front _ c.length_by_front.ensures long c.read_changed.ensures
