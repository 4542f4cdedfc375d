use Rattle.std.proofs.Common.{◌≡◌, ◌<◌, sym, subst, arith, rules, length, w32, to_z, of_z}
use mir.Val.{SFits}
use Rattle.std.specs.Vec.{vec_len, vec_capacity}
use Rattle.std.proofs.lemmas.Int.{to_z-of_z, ints}
use Rattle.window_counts.proofs.RowsLemmas.{on_less, on_true, CanAdd-last, CanAdd-first}
use Rattle.window_counts.specs.Places.{CanAdd, AreRows, numbers_in}
use Rattle.window_counts.proofs.rows.Rows.can_add.Goals as goal

pub returns-in-Some-last : goal.returns-in-Some-last
returns-in-Some-last c =
    let w = c.args.self.now in
    let v = c.in-Some.added in
    let are = subst (λ added. AreRows w.lowest w.count (numbers_in added)) c.in-Some.is w.fit in
    let f : SFits w32 c.args.inline = search rules in
    let g : SFits w32 c.in-Some-last.last.now = search rules in
    let inline = to_z-of_z w32 c.args.inline f in
    let last = to_z-of_z w32 c.in-Some-last.last.now g in
    let room : vec_len v < vec_capacity v = search rules in
    let few : length v.items < w.count = search rules in
    let some : 0 < length v.items = search rules in
    on_less (to_z w32 (of_z w32 c.in-Some-last.last.now)) (to_z w32 (of_z w32 c.args.inline)) _ (λ h. subst (λ added. CanAdd w.lowest w.count added c.args.inline) (sym c.in-Some.is) (CanAdd-last w.lowest w.count v c.in-Some-last.last.now c.args.inline are room few some (search rules) (omega (arith, ints, h, inline, last))))

pub returns-in-None : goal.returns-in-None
returns-in-None c =
    let w = c.args.self.now in
    let v = c.in-Some.added in
    let f : SFits w32 c.args.inline = search rules in
    let g : SFits w32 w.lowest = search rules in
    let inline = to_z-of_z w32 c.args.inline f in
    let lowest = to_z-of_z w32 w.lowest g in
    let room : vec_len v < vec_capacity v = search rules in
    let few : length v.items < w.count = search rules in
    let none : length v.items ≡ 0 = search rules in
    on_true c.is_above.result _ _ c.is_above.ensures (λ h. subst (λ added. CanAdd w.lowest w.count added c.args.inline) (sym c.in-Some.is) (CanAdd-first w.lowest w.count v c.args.inline room few none (omega (arith, ints, h, inline, lowest))))
