use Rattle.std.proofs.Common.{slice_get, ◌≡◌, ◌-◌, ◌+◌, ◌*◌, List, ℕ, ◌≤◌, lit<, length, take, drop, ap, arith, sym, ◌∙◌, Option, Some, inr}
use Rattle.edit_overlay.proofs.PieceLemmas.{length-part, whole_part, read_record, slice_get-none, record_number}
use Rattle.edit_overlay.proofs.overlay.Overlay.trailer.Goals as goal

pub returns-then-j-self : goal.returns-then-j-self
returns-then-j-self g c =
    sym (record_number c.args.self.now.volume c.args.j c.if-j-eq0.false
    ∙ ap (λ o. slice_get o.volume.trailer (c.args.j - 1)) (sym c.self.view_is)
    ∙ slice_get-none c.self.inside.laid.store.head.trailer _ (c.args.j - 1) (omega (arith, c.if-j-eq0.false, c.if-j-self.true)))

pub edge-requires-clause-kept : goal.edge-requires-clause-kept
edge-requires-clause-kept g c = inr (omega (arith, c.if-j-eq0.false, c.if-j-self.false, c.length-length.ensures, c.self.invariant.ends.whole, c.self.invariant.ends.back_kept))

pub array_at-requires : goal.array_at-requires
array_at-requires g c =
    let file : List ℕ = c.self.inside.laid.store.loaded.bytes in
    let n : ℕ = c.self.inside.laid.store.head.trailer in
    let at : ℕ = length file - 3200 * n + 3200 * (c.args.j - 1) in
    let inside : at + 3200 ≤ length file = omega (arith, c.if-j-eq0.false, c.if-j-self.false, c.self.invariant.ends.whole) in
    let whole : 3200 ≤ length c.edge.result.now = length-part c.edge.result.now file at 3200 inside (rw c.length-length.ensures at c.edge.ensures) in
    (lit< tt, whole)

pub returns : goal.returns
returns g c =
    let s = c.self.inside.laid.store in
    let n = s.head.trailer in
    let i = c.args.j - 1 in
    let at : ℕ = length s.loaded.bytes - 3200 * n + 3200 * i in
    let read : c.array_at.result.now ≡ take 3200 (drop at s.loaded.bytes) = c.array_at.ensures ∙ whole_part c.edge.result.now (drop at s.loaded.bytes) 3200 (rw c.length-length.ensures at c.edge.ensures) in
    ap (λ (t : List ℕ). let o : Option (List ℕ) = Some t in o) read
    ∙ sym (record_number c.args.self.now.volume c.args.j c.if-j-eq0.false ∙ ap (λ o. slice_get o.volume.trailer i) (sym c.self.view_is)
    ∙ read_record s.loaded.bytes n i (omega (arith, c.if-j-eq0.false, c.if-j-self.false)))
