use Rattle.std.proofs.Common.{◌*◌, ◌+◌, ◌^◌, length, ap, sym, ◌∙◌, ◌++◌, ◌∷◌, [], subst}
use Rattle.float_sum.specs.declared.exact_sum.ExactSum.TheInside.{Inside}
use Rattle.float_sum.specs.Worth.{worth, IsWithin}
use Rattle.float_sum.proofs.RoundLemmas.{near}
use Rattle.float_sum.proofs.HoldsLemmas.{holds_negative, holds_positive}
use Rattle.float_sum.proofs.exact_sum.ExactSum.add.Goals.{then-parts, else-parts}
use Rattle.float_sum.proofs.exact_sum.ExactSum.add.Goals as goal

pub invariant_of-self : goal.invariant_of-self
invariant_of-self c =
    let v = c.args.value in
    let p = c.parts_of-parts.ensures in
    let x = c.parts_of-parts.result.digits * 2 ^ c.parts_of-parts.result.shift in
    let s = c.self.inside in
    let room = length s.added.values * 2 ^ 84 in
    let small = near c.parts_of-parts.result.digits c.parts_of-parts.result.shift p.digits p.shift in
    let t : Inside = record { plus = c.if-parts.self-inside.plus; minus = c.if-parts.self-inside.minus; added = c.note.new.self } in
    elim c.if-parts.branch [
      | then-parts w ↦
          let plus = ap (λ (z : Inside). z.plus) w.self-inside-is in
          let minus = ap (λ (z : Inside). z.minus) w.self-inside-is in
          let added = c.note.ensures ∙ ap (λ (z : Inside). z.added.values ++ v ∷ []) w.self-inside-is in
          holds_negative s t v x c.self.invariant added c.requires.finite (sym p.negative ∙ w.if-parts.true) p.size small plus (ap worth minus ∙ w.add.ensures.worth)
          (ap length minus ∙ w.add.ensures.length) (subst (IsWithin (room + 2 ^ 84)) (sym minus) (w.add.ensures.within room c.self.invariant.minus_room))
      | else-parts w ↦
          let plus = ap (λ (z : Inside). z.plus) w.self-inside-is in
          let minus = ap (λ (z : Inside). z.minus) w.self-inside-is in
          let added = c.note.ensures ∙ ap (λ (z : Inside). z.added.values ++ v ∷ []) w.self-inside-is in
          holds_positive s t v x c.self.invariant added c.requires.finite (sym p.negative ∙ w.if-parts.false) p.size small minus (ap worth plus ∙ w.add-else-parts.ensures.worth)
          (ap length plus ∙ w.add-else-parts.ensures.length) (subst (IsWithin (room + 2 ^ 84)) (sym plus) (w.add-else-parts.ensures.within room c.self.invariant.plus_room))
    ]
