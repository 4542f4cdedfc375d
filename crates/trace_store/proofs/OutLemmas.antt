-- Many traces taken out: the slots of their ids are freed first, one after the other.
use Rattle.std.proofs.Common.{◌≡◌, ◌≢◌, ℕ, ◌+◌, ◌-◌, ◌<◌, ◌≤◌, List, [], ◌∷◌, ◌++◌, length, map, get_or, take, refl, sym, ap, ◌∙◌, subst, arith, add-one, cond, Option, Some, None, inl, inr}
use Rattle.std.specs.Prelude.{slice_get, IsSome, IsSomeAnd}
use Rattle.std.proofs.Math.Seq.{take-suc}
use Rattle.std.proofs.lemmas.Bool.{cases_lt, ne_eqb}
use Rattle.std.proofs.lemmas.Option.{slice_get-get_or, slice_get_within, get_or_from_slice_get}
use Rattle.std.specs.Option.{option_map_or}
use Rattle.base_file.specs.HeldBytes.{HeldBytes}
use Rattle.slab.specs.Slab.{Slab, get, slab_len, ContainsKey, Updates}
use Rattle.frame_cut.specs.declared.file_head.Head.{Head}
use Rattle.trace_seq.specs.Order.{times, id_at, AreDistinct}
use Rattle.trace_seq.specs.Without.{without_each, AreRising}
use Rattle.trace_seq.proofs.TimeLemmas.{times-self}
use Rattle.trace_seq.proofs.ThinLemmas.{map-without, times-without, without-nothing, without-past, without-one, rising-ahead}
use Rattle.trace_store.specs.declared.slot.Slot.{Slot}
use Rattle.trace_store.specs.Slots.{bytes_in, bytes_under, AreHeld, IsSlot}
use Rattle.trace_store.proofs.OrderLemmas.{place-of}

-- a position with an id is one of the list, and without one it is behind the list
within : (ids : List ℕ) (p id : ℕ) → 1 ≤ p → id_at ids p ≡ Some id → p < 1 + length ids
within ids p id first at = omega (arith, first, slice_get_within ids (p - 1) id (place-of ids id p at))

read-at : (ids : List ℕ) (p id : ℕ) → id_at ids p ≡ Some id → get_or ids (p - 1) 0 ≡ id
read-at ids p id at = get_or_from_slice_get ids (p - 1) id 0 (place-of ids id p at)

behind : (ids : List ℕ) (p : ℕ) → 1 ≤ p → id_at ids p ≡ None → 1 + length ids ≤ p
behind ids p first none = elim (cases_lt (p - 1) (length ids)) [
  | inl short ↦
      let there : id_at ids p ≡ Some (get_or ids (p - 1) 0) = ap (λ b. cond b None (slice_get ids (p - 1))) (ne_eqb p 0 (λ e. omega (arith, e, first))) ∙ slice_get-get_or ids (p - 1) 0 short in
      absurd (cc)
  | inr past ↦ omega (arith, past, first)
]

module _ {X : Type 0} where
  pub map-held : (f g : ℕ → X) (ids : List ℕ) → ((k : ℕ) → 0 < times k ids → f k ≡ g k) → map f ids ≡ map g ids
  map-held f g [] same = refl
  map-held f g (x ∷ xs) same =
      let here : f x ≡ g x = same x (times-self x xs) in
      let rest : map f xs ≡ map g xs = map-held f g xs (λ k held. same k (omega (arith, held))) in
      cc

  next-take : (xs : List X) (j : ℕ) (d : X) → j < length xs → take (j + 1) xs ≡ take j xs ++ get_or xs j d ∷ []
  next-take xs j d short = ap (λ n. take n xs) (add-one j) ∙ take-suc xs j d short

module _ {T : Type 0} where
  -- the slots of the ids that stay are as they were, and one was freed for each other
  pub record IsFreed (old new : Slab (Slot T)) (ids positions : List ℕ) : Type 0 where
    pub stay : (id : ℕ) → 0 < times id (without_each ids positions) → get new id ≡ get old id
    pub freed : slab_len new + length ids ≡ slab_len old + length (without_each ids positions)

  pub freed-none : (old : Slab (Slot T)) (ids : List ℕ) → IsFreed old old ids []
  freed-none old ids = record { stay = λ id held. refl; freed = omega (arith, without-nothing 1 ids) }

  module _ (old new : Slab (Slot T)) (ids positions : List ℕ) (j : ℕ) (h : IsFreed old new ids (take j positions)) (rising : AreRising 1 positions) (short : j < length positions) where
    -- the id at the next position has its slot still
    pub freed-there : (id : ℕ) → id_at ids (get_or positions j 0) ≡ Some id → ((k : ℕ) → 0 < times k ids → ContainsKey old k) → ContainsKey new id
    freed-there id at held =
        let p = get_or positions j 0 in
        let ahead = rising-ahead 1 j positions 0 rising short in
        let one = without-one id 1 p ids (take j positions) ahead.1 (within ids p id ahead.1 at) ahead.0 in
        let there : 0 < times id (without_each ids (take j positions)) = omega (arith, one.0, ap (λ y. times id (y ∷ [])) (read-at ids p id at), times-self id []) in
        subst (λ (o : Option (Slot T)). IsSome o) (sym (h.stay id there)) (held id (omega (arith, there, times-without id 1 ids (take j positions))))

    pub freed-one : (next : Slab (Slot T)) (id : ℕ) → AreDistinct ids → id_at ids (get_or positions j 0) ≡ Some id → Updates new next id None → slab_len next + 1 ≡ slab_len new → IsFreed old next ids (take (j + 1) positions)
    freed-one next id distinct at up less =
        let p = get_or positions j 0 in
        let ahead = rising-ahead 1 j positions 0 rising short in
        let one = λ (k : ℕ). without-one k 1 p ids (take j positions) ahead.1 (within ids p id ahead.1 at) ahead.0 in
        let last : IsFreed old next ids (take j positions ++ p ∷ []) = record {
          stay = λ k there.
              let ne : k ≢ id = λ e. omega (arith, there, (one k).0, ap (λ y. times k (y ∷ [])) (read-at ids p id at ∙ sym e), times-self k [], times-without k 1 ids (take j positions), distinct k) in
              let was : 0 < times k (without_each ids (take j positions)) = omega (arith, there, (one k).0) in
              up.others k ne ∙ h.stay k was;
          freed = omega (arith, h.freed, less, (one 0).1);
        } in
        subst (λ (l : List ℕ). IsFreed old next ids l) (sym (next-take positions j 0 short)) last

    pub freed-past : id_at ids (get_or positions j 0) ≡ None → IsFreed old new ids (take (j + 1) positions)
    freed-past none =
        let p = get_or positions j 0 in
        let ahead = rising-ahead 1 j positions 0 rising short in
        let same : without_each ids (take (j + 1) positions) ≡ without_each ids (take j positions) = ap (without_each ids) (next-take positions j 0 short) ∙ without-past 1 p ids (take j positions) (behind ids p ahead.1 none) in
        record {
          stay = λ k there. h.stay k (omega (arith, there, ap (times k) same));
          freed = omega (arith, h.freed, ap (λ (l : List ℕ). length l) same);
        }

  pub held-without : (file : HeldBytes) (h : Head) (ids positions : List ℕ) (old new : Slab (Slot T)) → AreHeld file h ids old → ((id : ℕ) → 0 < times id (without_each ids positions) → get new id ≡ get old id) → AreHeld file h (without_each ids positions) new
  held-without file h ids positions old new held stay id there =
      subst (λ (o : Option (Slot T)). IsSomeAnd o (IsSlot file h)) (sym (stay id there)) (held id (omega (arith, there, times-without id 1 ids positions)))

  pub traces-without : (loaded ids positions : List ℕ) (old new : Slab (Slot T)) → ((id : ℕ) → 0 < times id (without_each ids positions) → get new id ≡ get old id) → map (bytes_under loaded new) (without_each ids positions) ≡ without_each (map (bytes_under loaded old) ids) positions
  traces-without loaded ids positions old new stay =
      map-held (bytes_under loaded new) (bytes_under loaded old) (without_each ids positions) (λ k there. ap (λ (o : Option (Slot T)). option_map_or (bytes_in loaded) o []) (stay k there))
      ∙ map-without (bytes_under loaded old) 1 ids positions
