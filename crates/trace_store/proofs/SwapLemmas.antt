-- Two slots in the place of one another: what it does to the traces and to their payloads.
use Rattle.std.proofs.Common.{◌≡◌, ◌≢◌, ℕ, ◌-◌, ◌<◌, List, [], length, map, get_or, sym, ap, ◌∙◌, arith, Option, Some, None, inl, inr, true, is_some}
use Rattle.std.specs.Prelude.{slice_get, slice_index_or, slice_set}
use Rattle.std.specs.List.{swap}
use Rattle.std.proofs.lemmas.Bool.{cases_eq}
use Rattle.std.proofs.lemmas.List.{length-map}
use Rattle.std.proofs.lemmas.List.Edits.{swap_is}
use Rattle.std.proofs.lemmas.Option.{slice_get_within, get_or_from_slice_get}
use Rattle.base_file.specs.HeldBytes.{HeldBytes}
use Rattle.slab.specs.Slab.{Slab, get, with_value, ContainsKey, Updates}
use Rattle.frame_cut.specs.declared.file_head.Head.{Head}
use Rattle.trace_seq.specs.Order.{id_at, AreDistinct}
use Rattle.trace_store.specs.declared.slot.Slot.{Slot}
use Rattle.trace_store.specs.Slots.{bytes_in, bytes_under, AreHeld}
use Rattle.trace_store.specs.Stores.{payloads_under}
use Rattle.trace_store.proofs.OrderLemmas.{place-of}
use Rattle.trace_store.proofs.SlotLemmas.{slot-found, trace-at, write-updates, traces-changed, held-changed}
use Rattle.trace_store.proofs.PayloadLemmas.{payloads-changed, payload-found}

module _ {T : Type 0} where
  -- the slots under two ids, which may be one
  pub record AreSwapped (old new : Slab (Slot T)) (id other : ℕ) (a b : Slot T) : Type 0 where
    pub was : get old id ≡ Some a
    pub was_other : get old other ≡ Some b
    pub is : get new id ≡ Some b
    pub is_other : get new other ≡ Some a
    pub rest : (k : ℕ) → k ≢ id → k ≢ other → get new k ≡ get old k

  module _ (file : HeldBytes) (h : Head) (ids : List ℕ) (old new : Slab (Slot T)) (p q id other : ℕ) (a b : Slot T) (held : AreHeld file h ids old) (distinct : AreDistinct ids)
      (at : id_at ids p ≡ Some id) (at_other : id_at ids q ≡ Some other) (s : AreSwapped old new id other a b) where
    -- one of them in both places
    half : Slab (Slot T)
    half = with_value old id b

    first : Updates old half id (Some b)
    unfolding half
    first = write-updates old id a b s.was

    second : Updates half new other (Some a)
    second = record {
      changed = s.is_other;
      others = λ k ne. elim (cases_eq k id) [
        | inl e ↦ ap (get new) e ∙ (s.is ∙ (sym first.changed ∙ ap (get half) (sym e)))
        | inr other_one ↦ s.rest k other_one ne ∙ sym (first.others k other_one)
      ];
    }

    half-held : AreHeld file h ids half
    half-held = held-changed file h ids old half id b held first (slot-found file h ids old q other b held at_other s.was_other)

    pub held-swapped : AreHeld file h ids new
    held-swapped = held-changed file h ids half new other a half-held second (slot-found file h ids old p id a held at s.was)

    pub traces-swapped : map (bytes_under file.bytes new) ids ≡ swap (map (bytes_under file.bytes old) ids) (p - 1) (q - 1)
    traces-swapped =
        let ts : List (List ℕ) = map (bytes_under file.bytes old) ids in
        let here : slice_index_or ts (p - 1) [] ≡ bytes_in file.bytes a = trace-at file.bytes ids old p id a at s.was in
        let there : slice_index_or ts (q - 1) [] ≡ bytes_in file.bytes b = trace-at file.bytes ids old q other b at_other s.was_other in
        let p_short : p - 1 < length ts = omega (arith, length-map ids (bytes_under file.bytes old), slice_get_within ids (p - 1) id (place-of ids id p at)) in
        let q_short : q - 1 < length ts = omega (arith, length-map ids (bytes_under file.bytes old), slice_get_within ids (q - 1) other (place-of ids other q at_other)) in
        traces-changed file.bytes ids half new q other a distinct at_other second
        ∙ (ap (λ (xs : List (List ℕ)). slice_set xs (q - 1) (bytes_in file.bytes a)) (traces-changed file.bytes ids old half p id b distinct at first)
        ∙ (ap (λ (t : List ℕ). slice_set (slice_set ts (p - 1) t) (q - 1) (bytes_in file.bytes a)) (sym there)
        ∙ (ap (λ (t : List ℕ). slice_set (slice_set ts (p - 1) (slice_index_or ts (q - 1) [])) (q - 1) t) (sym here)
        ∙ swap_is ts (p - 1) (q - 1) [] p_short q_short)))

    pub payloads-swapped : payloads_under new ids ≡ swap (payloads_under old ids) (p - 1) (q - 1)
    payloads-swapped =
        let ps : List T = payloads_under old ids in
        let found : slice_get ps (p - 1) ≡ Some a.payload = payload-found file h ids old held p id a at s.was in
        let found_other : slice_get ps (q - 1) ≡ Some b.payload = payload-found file h ids old held q other b at_other s.was_other in
        let here : get_or ps (p - 1) a.payload ≡ a.payload = get_or_from_slice_get ps (p - 1) a.payload a.payload found in
        let there : get_or ps (q - 1) a.payload ≡ b.payload = get_or_from_slice_get ps (q - 1) b.payload a.payload found_other in
        payloads-changed file h ids half half-held new q other a distinct at_other second
        ∙ (ap (λ (xs : List T). slice_set xs (q - 1) a.payload) (payloads-changed file h ids old held half p id b distinct at first)
        ∙ (ap (λ (t : T). slice_set (slice_set ps (p - 1) t) (q - 1) a.payload) (sym there)
        ∙ (ap (λ (t : T). slice_set (slice_set ps (p - 1) (get_or ps (q - 1) a.payload)) (q - 1) t) (sym here)
        ∙ swap_is ps (p - 1) (q - 1) a.payload (slice_get_within ps (p - 1) a.payload found) (slice_get_within ps (q - 1) b.payload found_other))))

module _ {T : Type 0} (old left new : Slab (Slot T)) (id other key : ℕ) (a : Slot T) (was : get old id ≡ Some a) (out : Updates old left id None) (is_id : key ≡ id) where
  -- the slots of two ids
  module _ (b put : Slot T) (found : get left other ≡ Some b) (put_is : put ≡ a) (back : Updates (with_value left other put) new key (Some b)) where
    apart : other ≢ id
    apart e = let here : get left other ≡ None = ap (get left) e ∙ out.changed in cc

    pub swapped-apart : AreSwapped old new id other a b
    swapped-apart =
        let written : Updates left (with_value left other put) other (Some put) = write-updates left other b put found in
        record {
          was = was;
          was_other = sym (out.others other apart) ∙ found;
          is = ap (get new) (sym is_id) ∙ back.changed;
          is_other = back.others other (λ e. apart (e ∙ is_id)) ∙ (written.changed ∙ ap (λ (x : Slot T). let o : Option (Slot T) = Some x in o) put_is);
          rest = λ k ne ne_other. back.others k (λ e. ne (e ∙ is_id)) ∙ (written.others k ne_other ∙ out.others k ne);
        }

  -- the slot of one id
  module _ (there : ContainsKey old other) (gone : get left other ≡ None) (back : Updates left new key (Some a)) where
    alone : other ≡ id
    alone = elim (cases_eq other id) [
      | inl e ↦ e
      | inr ne ↦ absurd (let none : get old other ≡ None = sym (out.others other ne) ∙ gone in let some : is_some (get old other) ≡ true = there in cc)
    ]

    pub swapped-alone : AreSwapped old new id other a a
    swapped-alone =
        let is : get new id ≡ Some a = ap (get new) (sym is_id) ∙ back.changed in
        record {
          was = was;
          was_other = ap (get old) alone ∙ was;
          is = is;
          is_other = ap (get new) alone ∙ is;
          rest = λ k ne ne_other. back.others k (λ e. ne (e ∙ is_id)) ∙ out.others k ne;
        }
