-- What stands under the ids of an order, where one id or the value under it changes.
use Rattle.std.proofs.Common.{◌≡◌, ◌≢◌, ℕ, zero, suc, ◌-◌, ◌<◌, ◌≤◌, List, [], ◌∷◌, ◌++◌, length, map, get_or, take, drop, refl, sym, ap, ◌∙◌, subst, arith, Some, None, cond}
use Rattle.std.specs.Prelude.{slice_get, slice_index, slice_index_or, slice_set}
use Rattle.std.specs.List.{insert, remove}
use Rattle.std.proofs.lemmas.Bool.{ne_eqb}
use Rattle.std.proofs.lemmas.List.{map-append, take-map, drop-map, get_or-map}
use Rattle.std.proofs.lemmas.Option.{slice_get_within, get_or_from_slice_get}
use Rattle.trace_seq.specs.Order.{times, id_at, with_id_moved}
use Rattle.trace_seq.proofs.TimeLemmas.{times-self, times-get}

-- ---- where an id stands

-- a position is one more than a place from 0
pub place-of : (ids : List ℕ) (id p : ℕ) → id_at ids p ≡ Some id → slice_get ids (p - 1) ≡ Some id
place-of ids id zero h = absurd (cc)
place-of ids id (suc p) h = sym (ap (λ b. cond b None (slice_get ids (suc p - 1))) (ne_eqb (suc p) 0 (λ e. omega (arith, e)))) ∙ h

pub held-at_place : (ids : List ℕ) (id i : ℕ) → slice_get ids i ≡ Some id → 0 < times id ids
held-at_place ids id i h =
    let short : i < length ids = slice_get_within ids i id h in
    let read : get_or ids i 0 ≡ id = get_or_from_slice_get ids i id 0 h in
    subst (λ (x : ℕ). 0 < times x ids) read (times-get ids i 0 short)

-- an id stands in front of a list in which it does not stand
another-id : (id x : ℕ) (xs : List ℕ) → times id (x ∷ xs) ≤ times id xs → x ≢ id
another-id id x xs h e = omega (arith, h, ap (λ (y : ℕ). times id (y ∷ [])) e, times-self id [])

once-here : (id x : ℕ) (xs : List ℕ) → x ≡ id → times id (x ∷ xs) ≤ 1 → times id xs ≡ 0
once-here id x xs e h = omega (arith, h, ap (λ (y : ℕ). times id (y ∷ [])) e, times-self id [])

module _ {X : Type 0} where
  -- ---- what stands under the ids, where the value under one changes

  pub map-alike : (f g : ℕ → X) (ids : List ℕ) → ((k : ℕ) → f k ≡ g k) → map f ids ≡ map g ids
  map-alike f g [] same = refl
  map-alike f g (x ∷ xs) same = let rest = map-alike f g xs same in let here = same x in cc

  pub map-others : (f g : ℕ → X) (id : ℕ) (ids : List ℕ) → times id ids ≡ 0 → ((k : ℕ) → k ≢ id → f k ≡ g k) → map f ids ≡ map g ids
  map-others f g id [] absent same = refl
  map-others f g id (x ∷ xs) absent same =
      let less : times id (x ∷ xs) ≤ times id xs = omega (arith, absent) in
      let here : f x ≡ g x = same x (another-id id x xs less) in
      let left : times id xs ≡ 0 = omega (arith, absent) in
      let rest : map f xs ≡ map g xs = map-others f g id xs left same in
      cc

  pub map-changed : (f g : ℕ → X) (id : ℕ) (ids : List ℕ) (i : ℕ) → times id ids ≤ 1 → slice_get ids i ≡ Some id → ((k : ℕ) → k ≢ id → f k ≡ g k) → map f ids ≡ slice_set (map g ids) i (f id)
  map-changed f g id [] i one here same = absurd (cc)
  map-changed f g id (x ∷ xs) zero one here same =
      let e : x ≡ id = cc in
      let rest : map f xs ≡ map g xs = map-others f g id xs (once-here id x xs e one) same in
      let first : f x ≡ f id = ap f e in
      cc
  map-changed f g id (x ∷ xs) (suc i) one here same =
      let held : 0 < times id xs = held-at_place xs id i here in
      let less : times id (x ∷ xs) ≤ times id xs = omega (arith, one, held) in
      let first : f x ≡ g x = same x (another-id id x xs less) in
      let fewer : times id xs ≤ 1 = omega (arith, one) in
      let rest : map f xs ≡ slice_set (map g xs) i (f id) = map-changed f g id xs i fewer here same in
      cc

  -- ---- what stands under the ids, where one comes, goes or moves

  pub map-insert : (f : ℕ → X) (ids : List ℕ) (i id : ℕ) → map f (insert ids i id) ≡ insert (map f ids) i (f id)
  map-insert f ids i id =
      let front : take i (map f ids) ≡ map f (take i ids) = take-map f i ids in
      let back : drop i (map f ids) ≡ map f (drop i ids) = drop-map f i ids in
      let all : map f (take i ids ++ id ∷ drop i ids) ≡ map f (take i ids) ++ f id ∷ map f (drop i ids) = map-append f (take i ids) (id ∷ drop i ids) in
      cc

  pub map-remove : (f : ℕ → X) (ids : List ℕ) (i : ℕ) → map f (remove ids i) ≡ remove (map f ids) i
  map-remove f ids i =
      let front : take i (map f ids) ≡ map f (take i ids) = take-map f i ids in
      let back : drop (suc i) (map f ids) ≡ map f (drop (suc i) ids) = drop-map f (suc i) ids in
      let all : map f (take i ids ++ drop (suc i) ids) ≡ map f (take i ids) ++ map f (drop (suc i) ids) = map-append f (take i ids) (drop (suc i) ids) in
      cc

  pub map-at : (f : ℕ → X) (ids : List ℕ) (i id : ℕ) (d : X) → slice_get ids i ≡ Some id → slice_index_or (map f ids) i d ≡ f id
  map-at f ids i id d h = get_or-map f ids i 0 d (slice_get_within ids i id h) ∙ ap f (get_or_from_slice_get ids i id 0 h)

  pub map-moved : (f : ℕ → X) (ids : List ℕ) (a b : ℕ) (d : X) → a - 1 < length ids
      → map f (with_id_moved ids a b) ≡ insert (remove (map f ids) (a - 1)) (b - 1) (slice_index_or (map f ids) (a - 1) d)
  map-moved f ids a b d short =
      map-insert f (remove ids (a - 1)) (b - 1) (slice_index ids (a - 1))
      ∙ (ap (λ (xs : List X). insert xs (b - 1) (f (slice_index ids (a - 1)))) (map-remove f ids (a - 1))
      ∙ ap (λ (x : X). insert (remove (map f ids) (a - 1)) (b - 1) x) (sym (get_or-map f ids (a - 1) 0 d short)))
