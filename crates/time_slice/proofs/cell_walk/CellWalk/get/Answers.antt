use Rattle.std.proofs.Common.{◌≡◌, ◌∷◌, ◌∙◌, [], subst, List, map, ℤ}
use Rattle.std.specs.Option.{MatchOption}
use Rattle.std.proofs.lemmas.Option.{slice_get-map}
use Rattle.trace_record.specs.Packed.{cell_of}
use Rattle.time_slice.proofs.WalkLemmas.{Given, given_is, left_is}
use Rattle.time_slice.proofs.cell_walk.CellWalk.get.Goals as goal

pub invariant_of-self : goal.invariant_of-self
invariant_of-self c =
    let given = c.next.result in
    let left = c.next.new.self in
    let cells = map cell_of c.self.inside.records.now in
    let told : Given cells c.self.inside.place given left = subst (λ (all : List (ℤ × ℤ)). MatchOption given ((all ≡ []) × (left ≡ [])) (λ next. all ≡ next ∷ left)) c.self.invariant c.next.ensures.steps in
    left_is cells c.self.inside.place given left told

pub returns-clause-cell : goal.returns-clause-cell
returns-clause-cell c =
    let given = c.next.result in
    let left = c.next.new.self in
    let cells = map cell_of c.self.inside.records.now in
    let told : Given cells c.self.inside.place given left = subst (λ (all : List (ℤ × ℤ)). MatchOption given ((all ≡ []) × (left ≡ [])) (λ next. all ≡ next ∷ left)) c.self.invariant c.next.ensures.steps in
    let here : c.args.place ≡ c.self.inside.place = cc in
    rw (here, ← c.self.view_is) (given_is cells c.self.inside.place given left told ∙ slice_get-map cell_of c.self.inside.records.now c.self.inside.place)
