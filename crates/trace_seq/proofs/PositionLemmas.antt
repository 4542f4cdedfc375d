-- Where an id stands in a list.
use Rattle.std.proofs.Common.{◌≡◌, ℕ, zero, suc, ◌-◌, ◌<◌, ◌≤◌, List, [], ◌∷◌, refl, sym, ap, ◌∙◌, subst, arith, inl, inr, Some, None, cond}
use Rattle.std.specs.Prelude.{slice_get}
use Rattle.std.proofs.lemmas.Bool.{cases_eq, ne_eqb}
use Rattle.trace_seq.specs.Order.{times, id_at}
use Rattle.trace_seq.specs.Laws.{HeldIdStands, StandingIdIsHeld, StandsAtOnePosition}
use Rattle.trace_seq.proofs.TimeLemmas.{times-self, times-other}

held-at : (ids : List ℕ) (id : ℕ) → 0 < times id ids → (i : ℕ) × (slice_get ids i ≡ Some id)
held-at [] id h = absurd (omega arith)
held-at (x ∷ xs) id h = elim (cases_eq x id) [
  | inl e ↦ (0, ap (λ y. Some y) e)
  | inr ne ↦
      let more : 0 < times id xs = omega (arith, h, times-other id x ne) in
      let rest = held-at xs id more in
      (suc rest.0, rest.1)
]

read-held : (ids : List ℕ) (id i : ℕ) → slice_get ids i ≡ Some id → 0 < times id ids
read-held [] id i h = absurd (cc)
read-held (x ∷ xs) id zero h =
    let e : x ≡ id = cc in
    let P : ℕ → Type 0 = λ y. 0 < times id (y ∷ xs) in
    subst P (sym e) (times-self id xs)
read-held (x ∷ xs) id (suc i) h = omega (arith, read-held xs id i h)

read-once : (ids : List ℕ) (id i j : ℕ) → times id ids ≤ 1 → slice_get ids i ≡ Some id → slice_get ids j ≡ Some id → i ≡ j
read-once [] id i j one here there = absurd (cc)
read-once (x ∷ xs) id zero zero one here there = refl
read-once (x ∷ xs) id zero (suc j) one here there =
    let e : x ≡ id = cc in
    absurd (omega (arith, one, read-held xs id j there, ap (λ y. times id (y ∷ [])) e, times-self id []))
read-once (x ∷ xs) id (suc i) zero one here there =
    let e : x ≡ id = cc in
    absurd (omega (arith, one, read-held xs id i here, ap (λ y. times id (y ∷ [])) e, times-self id []))
read-once (x ∷ xs) id (suc i) (suc j) one here there = ap suc (read-once xs id i j (omega (arith, one)) here there)

-- a position is one more than a place from 0
at-suc : (ids : List ℕ) (i : ℕ) → id_at ids (suc i) ≡ slice_get ids (suc i - 1)
at-suc ids i = ap (λ b. cond b None (slice_get ids (suc i - 1))) (ne_eqb (suc i) 0 (λ e. omega (arith, e)))

at-place : (ids : List ℕ) (id i : ℕ) → slice_get ids i ≡ Some id → id_at ids (suc i) ≡ Some id
at-place ids id i h = let e : suc i - 1 ≡ i = omega arith in at-suc ids i ∙ ap (slice_get ids) e ∙ h

from-position : (ids : List ℕ) (id p : ℕ) → id_at ids p ≡ Some id → (0 < p) × (slice_get ids (p - 1) ≡ Some id)
from-position ids id zero h = absurd (cc)
from-position ids id (suc p) h = (omega arith, sym (at-suc ids p) ∙ h)

pub held_id_stands : HeldIdStands
held_id_stands ids id h = let place = held-at ids id h in (suc place.0, at-place ids id place.0 place.1)

pub standing_id_is_held : StandingIdIsHeld
standing_id_is_held ids id p h = read-held ids id (p - 1) (from-position ids id p h).1

pub stands_at_one_position : StandsAtOnePosition
stands_at_one_position ids id p q distinct at-p at-q =
    let here = from-position ids id p at-p in
    let there = from-position ids id q at-q in
    omega (arith, here.0, there.0, read-once ids id (p - 1) (q - 1) (distinct id) here.1 there.1)
