use Rattle.std.proofs.Common.{slice_get, ◌≡◌, ◌-◌, ◌+◌, ◌*◌, List, ℕ, ◌≤◌, lit<, length, take, drop, ap, arith, sym, ◌∙◌, Option, Some, inl}
use Rattle.edit_overlay.proofs.PieceLemmas.{length-part, whole_part, read_block, slice_get-none, block_number}
use Rattle.edit_overlay.proofs.overlay.Overlay.block.Goals as goal

pub returns-then-b-self : goal.returns-then-b-self
returns-then-b-self g c =
    sym (block_number c.args.self.now.volume c.args.b c.if-b-eq0.false
    ∙ ap (λ o. slice_get o.volume.blocks (c.args.b - 1)) (sym c.self.view_is)
    ∙ slice_get-none c.self.inside.laid.store.head.blocks _ (c.args.b - 1) (omega (arith, c.if-b-eq0.false, c.if-b-self.true)))

pub edge-requires-clause-kept : goal.edge-requires-clause-kept
edge-requires-clause-kept g c = inl (omega (arith, c.if-b-eq0.false, c.if-b-self.false, c.self.invariant.ends.front, c.self.invariant.ends.front_kept))

pub array_at-requires : goal.array_at-requires
array_at-requires g c =
    let file : List ℕ = c.self.inside.laid.store.loaded.bytes in
    let at : ℕ = 3600 + 3200 * (c.args.b - 1) in
    let inside : at + 3200 ≤ length file = omega (arith, c.if-b-eq0.false, c.if-b-self.false, c.self.invariant.ends.front, c.self.invariant.ends.whole) in
    let whole : 3200 ≤ length c.edge.result.now = length-part c.edge.result.now file at 3200 inside c.edge.ensures in
    (lit< tt, whole)

pub returns : goal.returns
returns g c =
    let i = c.args.b - 1 in
    let file : List ℕ = c.self.inside.laid.store.loaded.bytes in
    let read : c.array_at.result.now ≡ take 3200 (drop (3600 + 3200 * i) file) = c.array_at.ensures ∙ whole_part c.edge.result.now (drop (3600 + 3200 * i) file) 3200 c.edge.ensures in
    ap (λ (s : List ℕ). let o : Option (List ℕ) = Some s in o) read
    ∙ sym (block_number c.args.self.now.volume c.args.b c.if-b-eq0.false ∙ ap (λ o. slice_get o.volume.blocks i) (sym c.self.view_is)
    ∙ read_block c.self.inside.laid.store.loaded.bytes c.self.inside.laid.store.head.blocks i (omega (arith, c.if-b-eq0.false, c.if-b-self.false)))
