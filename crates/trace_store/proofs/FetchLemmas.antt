-- Traces whose bytes are at hand: that they are, and what they show then.
use Rattle.std.proofs.Common.{◌≡◌, ℕ, ◌+◌, ◌-◌, ◌<◌, ◌≤◌, List, [], ◌∷◌, length, get_or, refl, sym, ap, ◌∙◌, subst, arith, Option, Some, None, Bool, Bor, inl, inr}
use Rattle.std.specs.Prelude.{◌⊎◌, IsSomeAnd, option_and_then, option_copied, unwrap_or, slice_get, slice_index_or, IfSome, ◌==◌, if◌then◌else◌}
use Rattle.std.proofs.lemmas.Bool.{cases_lt, le-ltb, lt-ltb}
use Rattle.std.proofs.lemmas.Bool.Decides.{eqb_tells, nat_tests}
use Rattle.std.proofs.lemmas.List.{length-map}
use Rattle.std.proofs.lemmas.Option.{slice_get_cases, slice_get-get_or}
use Rattle.slab.specs.Slab.{get}
use Rattle.base_file.specs.HeldBytes.{HeldBytes, IsInMemory, IsSure}
use Rattle.base_file.proofs.HeldLemmas.{lent_in_memory, sure_in_memory, there_in_memory}
use Rattle.frame_cut.specs.declared.extent.Extent.{Extent}
use Rattle.frame_cut.specs.declared.file_head.Head.{Head}
use Rattle.frame_cut.specs.Layout.{bytes_at}
use Rattle.frame_cut.specs.Cuts.{IsTrace}
use Rattle.trace_seq.specs.Order.{id_at}
use Rattle.trace_view.specs.declared.run.Run.{Run}
use Rattle.trace_view.specs.Runs.{Fit, bytes_with_runs}
use Rattle.trace_view.proofs.WrittenLemmas.{length-written}
use Rattle.trace_store.specs.declared.prepared.Prepared.{Prepared}
use Rattle.trace_store.specs.declared.prepared.Prepared.TheVariants.{Put, Runs, Move}
use Rattle.trace_store.specs.declared.prepared.TraceMove.{TraceMove}
use Rattle.trace_store.specs.declared.prepared.TraceRuns.{TraceRuns}
use Rattle.trace_store.specs.declared.base.Base.{Base}
use Rattle.trace_store.specs.declared.base.Base.TheVariants.{Loaded, Added}
use Rattle.trace_store.specs.declared.slot.Slot.{Slot}
use Rattle.trace_store.specs.declared.store.TraceStore.{TraceStore}
use Rattle.trace_store.specs.Ahead.{traces_then, traces_with, AreRunsFrom, AreRunsOf, IsReady}
use Rattle.trace_store.specs.Fetched.{slot_of, trace_with, HasChangedWith, IsFetchedWith, MayLie}
use Rattle.trace_store.specs.Lent.{lent_base, IsBaseThere, IsBroken, IsLent}
use Rattle.trace_store.specs.Slots.{base_of, bytes_in, bytes_under, size_of, IsInside, IsSlot, IsWholeRange}
use Rattle.trace_store.specs.Stores.{bases_of, traces_of}
use Rattle.trace_store.specs.Then.{place_in_move, place_then, runs_over, runs_then}
use Rattle.trace_store.proofs.AheadLemmas.{behind, in_front, length-bases, runs-at, with-at}
use Rattle.trace_store.proofs.MoveLemmas.{moved-at, ComesFrom}
use Rattle.trace_store.proofs.SlotLemmas.{base-at, base-length, slot-at, trace-at}

-- ---- the slot of a trace

module _ {T : Type 0} (s : TraceStore T) (p id : ℕ) (slot : Slot T) (at : id_at s.order.ids p ≡ Some id) (found : get s.slots id ≡ Some slot) where
  slot_is : slot_of s p ≡ Some slot
  slot_is = ap (option_and_then (get s.slots)) at ∙ found

  pub fetched_at : (laid : Option (List Run)) → 1 ≤ p → p ≤ length (traces_of s) → IsLent s.loaded s.head slot.layers.base (unwrap_or laid slot.layers.runs) → IsFetchedWith s p laid
  fetched_at laid first last lent = record {
    first = first;
    last = last;
    lent = subst (λ (o : Option (Slot T)). IsSomeAnd o (λ x. IsLent s.loaded s.head x.layers.base (unwrap_or laid x.layers.runs))) (sym slot_is) lent;
  }

  pub lent_at : (laid : Option (List Run)) → IsFetchedWith s p laid → IsLent s.loaded s.head slot.layers.base (unwrap_or laid slot.layers.runs)
  lent_at laid fetched = subst (λ (o : Option (Slot T)). IsSomeAnd o (λ x. IsLent s.loaded s.head x.layers.base (unwrap_or laid x.layers.runs))) slot_is fetched.lent

  -- what is lent shows no whole trace; the trace with these runs is one, if the loaded bytes are sure: so they are not
  pub changed_at : (laid : Option (List Run)) → (IsSure s.loaded.standing → IsTrace s.head (bytes_with_runs (base_of s.loaded.bytes slot.layers.base) (unwrap_or laid slot.layers.runs)))
      → IsBroken s.loaded s.head slot.layers.base (unwrap_or laid slot.layers.runs) → HasChangedWith s p laid
  changed_at laid whole broken = record {
    lent = subst (λ (o : Option (Slot T)). IsSomeAnd o (λ x. IsBroken s.loaded s.head x.layers.base (unwrap_or laid x.layers.runs))) (sym slot_is) broken;
    unsure = λ sure. broken.broken (subst (λ (b : List ℕ). IsTrace s.head (bytes_with_runs b (unwrap_or laid slot.layers.runs))) (sym (broken.at_hand.same sure)) (whole sure));
  }

  -- runs that may lie over a trace fit its base
  pub laid-fit : (laid : Option (List Run)) → IsSlot s.loaded s.head slot → MayLie s p laid → Fit (unwrap_or laid slot.layers.runs) (size_of slot.layers.base)
  laid-fit None sound may = subst (λ (n : ℕ). Fit slot.layers.runs n) (base-length s.loaded.bytes slot.layers.base sound.inside) sound.fit
  laid-fit (Some runs) sound may = subst (λ (n : ℕ). Fit runs n) (ap length (base-at s.loaded.bytes s.order.ids s.slots p id slot at found) ∙ base-length s.loaded.bytes slot.layers.base sound.inside) may.fit

  -- and show a whole trace, if the loaded bytes are sure
  pub laid-whole : (laid : Option (List Run)) → IsSlot s.loaded s.head slot → MayLie s p laid → IsSure s.loaded.standing → IsTrace s.head (bytes_with_runs (base_of s.loaded.bytes slot.layers.base) (unwrap_or laid slot.layers.runs))
  laid-whole None sound may sure = sound.whole sure
  laid-whole (Some runs) sound may sure = subst (λ (b : List ℕ). IsTrace s.head (bytes_with_runs b runs)) (base-at s.loaded.bytes s.order.ids s.slots p id slot at found) (may.whole sure)

  -- what is lent is the trace with the runs, if the loaded bytes are sure
  pub lent-shows : (laid : Option (List Run)) → IsLent s.loaded s.head slot.layers.base (unwrap_or laid slot.layers.runs) → IsSure s.loaded.standing
      → bytes_with_runs (lent_base s.loaded slot.layers.base) (unwrap_or laid slot.layers.runs) ≡ trace_with s p laid
  lent-shows None lent sure = ap (λ (b : List ℕ). bytes_with_runs b slot.layers.runs) (lent.at_hand.same sure) ∙ sym (trace-at s.loaded.bytes s.order.ids s.slots p id slot at found)
  lent-shows (Some runs) lent sure = ap (λ (b : List ℕ). bytes_with_runs b runs) (lent.at_hand.same sure ∙ sym (base-at s.loaded.bytes s.order.ids s.slots p id slot at found))

  -- how long it is, sure or not
  pub length-lent : (runs : List Run) → IsSlot s.loaded s.head slot → IsLent s.loaded s.head slot.layers.base runs → length (bytes_with_runs (lent_base s.loaded slot.layers.base) runs) ≡ length (slice_index_or (bases_of s) (p - 1) [])
  length-lent runs sound lent =
      let fit : Fit runs (length (lent_base s.loaded slot.layers.base)) = subst (λ (n : ℕ). Fit runs n) (sym lent.at_hand.size) lent.fit in
      length-written (lent_base s.loaded slot.layers.base) runs fit ∙ lent.at_hand.size ∙ sym (base-length s.loaded.bytes slot.layers.base sound.inside)
      ∙ ap length (sym (base-at s.loaded.bytes s.order.ids s.slots p id slot at found))

  -- a trace is as long as its base
  pub trace-size : IsSlot s.loaded s.head slot → length (slice_index_or (traces_of s) (p - 1) []) ≡ size_of slot.layers.base
  trace-size sound =
      ap length (trace-at s.loaded.bytes s.order.ids s.slots p id slot at found)
      ∙ length-written (base_of s.loaded.bytes slot.layers.base) slot.layers.runs sound.fit ∙ base-length s.loaded.bytes slot.layers.base sound.inside

  same-length : IsSlot s.loaded s.head slot → length (slice_index_or (traces_of s) (p - 1) []) ≡ length (slice_index_or (bases_of s) (p - 1) [])
  same-length sound =
      trace-size sound ∙ sym (base-length s.loaded.bytes slot.layers.base sound.inside)
      ∙ ap length (sym (base-at s.loaded.bytes s.order.ids s.slots p id slot at found))

-- ---- in memory

base_there : (loaded : HeldBytes) (base : Base) → IsInMemory loaded.standing → IsInside loaded.bytes base → IsBaseThere loaded base
base_there loaded (Loaded extent) memory inside = there_in_memory loaded extent.start extent.length memory inside
base_there loaded (Added bytes) memory inside = tt

base_lent : (loaded : HeldBytes) (base : Base) → IsInMemory loaded.standing → lent_base loaded base ≡ base_of loaded.bytes base
base_lent loaded (Loaded extent) memory = lent_in_memory loaded extent.start extent.length memory
base_lent loaded (Added bytes) memory = refl

-- the slot that an id has
module _ {T : Type 0} where
  slot_there : (loaded : HeldBytes) (h : Head) (o : Option (Slot T)) → IsSomeAnd o (IsSlot loaded h) → (slot : Slot T) × (o ≡ Some slot) × IsSlot loaded h slot
  slot_there loaded h None held = absurd held
  slot_there loaded h (Some slot) held = (slot, refl, held)

module _ {T : Type 0} (s : TraceStore T) (p : ℕ) (first : 1 ≤ p) (last : p ≤ length (traces_of s)) where
  place_short : p - 1 < length s.order.ids
  place_short = omega (arith, first, last, length-map s.order.ids (bytes_under s.loaded.bytes s.slots))

  abbrev id : ℕ
  id = get_or s.order.ids (p - 1) 0

  id-there : id_at s.order.ids p ≡ Some id
  id-there = elim (eqb_tells p 0) [
    | inl none ↦ absurd (omega (arith, first, none.1))
    | inr some ↦ ap (λ (b : Bool). if b then None else slice_get s.order.ids (p - 1)) some.0 ∙ slice_get-get_or s.order.ids (p - 1) 0 place_short
  ]

  there : (slot : Slot T) × (get s.slots id ≡ Some slot) × IsSlot s.loaded s.head slot
  there = slot_there s.loaded s.head (get s.slots id) (slot-at s.loaded s.head s.order.ids s.slots p id s.sound.held id-there)

  -- in memory the bytes of each trace are at hand
  pub fetched_in_memory : (laid : Option (List Run)) → IsInMemory s.loaded.standing → MayLie s p laid → IsFetchedWith s p laid
  fetched_in_memory laid memory may =
      let slot : Slot T = there.0 in
      let sound = there.2 in
      let same = base_lent s.loaded slot.layers.base memory in
      let runs = unwrap_or laid slot.layers.runs in
      fetched_at s p id slot id-there there.1 laid first last (record {
        at_hand = record {
          there = base_there s.loaded slot.layers.base memory sound.inside;
          size = ap length same ∙ base-length s.loaded.bytes slot.layers.base sound.inside;
          same = λ sure. same;
        };
        fit = laid-fit s p id slot id-there there.1 laid sound may;
        whole = subst (λ (b : List ℕ). IsTrace s.head (bytes_with_runs b runs)) (sym same) (laid-whole s p id slot id-there there.1 laid sound may (sure_in_memory s.loaded.standing memory));
      })

  -- a trace is as long as its base
  pub length-at : length (slice_index_or (traces_of s) (p - 1) []) ≡ length (slice_index_or (bases_of s) (p - 1) [])
  length-at = same-length s p id there.0 id-there there.1 there.2

  -- also with other runs
  pub length-with_laid : (laid : Option (List Run)) → MayLie s p laid → length (trace_with s p laid) ≡ length (slice_index_or (bases_of s) (p - 1) [])
  length-with_laid None may = length-at
  length-with_laid (Some runs) may = length-written (slice_index_or (bases_of s) (p - 1) []) runs may.fit

-- ---- an edit that is prepared

-- where a trace comes from
pub comes_from : (m : TraceMove) (p : ℕ) → ComesFrom m.from m.to p (place_in_move m p)
comes_from m p = record {
  moved = λ h. grind (arith, nat_tests);
  forth = λ h l. grind (arith, nat_tests);
  back = λ h l. grind (arith, nat_tests);
  in_front = λ h l. grind (arith, nat_tests);
  behind = λ h l. grind (arith, nat_tests);
}

from_some : (m : TraceMove) (p n : ℕ) → 1 ≤ m.from → m.from ≤ n → 1 ≤ m.to → m.to ≤ n → 1 ≤ p → p ≤ n → (1 ≤ place_in_move m p) × (place_in_move m p ≤ n)
from_some m p n from_first from_last to_first to_last first last = (grind (arith, nat_tests), grind (arith, nat_tests))

-- runs for traces that follow one another: those of one trace, or none
over_cases : (runs : TraceRuns) (i : ℕ) → ((v : List Run) × ((runs.place ≤ i) × (i - runs.place < length runs.lists.items) × (get_or runs.lists.items (i - runs.place) v ≡ v) × (runs_over runs i ≡ Some v)))
    ⊎ ((runs_over runs i ≡ None) × ((i < runs.place) ⊎ (runs.place + length runs.lists.items ≤ i)))
over_cases runs i =
    let k : ℕ = i - runs.place in
    elim (cases_lt i runs.place) [
      | inl before ↦
          let none : runs_over runs i ≡ None = ap (λ (b : Bool). if b then None else slice_get runs.lists.items k) (lt-ltb i runs.place before) in
          inr (none, inl before)
      | inr from ↦
          let here : runs_over runs i ≡ slice_get runs.lists.items k = ap (λ (b : Bool). if b then None else slice_get runs.lists.items k) (le-ltb i runs.place from) in
          elim (slice_get_cases runs.lists.items k).1 [
            | inl found ↦ inl (found.0, (from, found.1, found.3, here ∙ found.2))
            | inr past ↦ let after : runs.place + length runs.lists.items ≤ i = omega (arith, from, past.0) in inr (here ∙ past.1, inr after)
          ]
    ]

module _ {T : Type 0} (s : TraceStore T) (p : ℕ) (first : 1 ≤ p) (last : p ≤ length (traces_of s)) where
  -- it is one of the traces
  pub place-there : (prepared : Prepared) → IsReady s prepared → (1 ≤ place_then prepared p) × (place_then prepared p ≤ length (traces_of s))
  place-there (Put put) ready = (first, last)
  place-there (Runs runs) ready = (first, last)
  place-there (Move m) ready = from_some m p (length (traces_of s)) ready.fit.from_first ready.fit.from_last ready.fit.to_first ready.fit.to_last first last

  -- the runs of one trace
  put-may : (place : ℕ) (runs : List Run) → AreRunsOf s.loaded.standing s.head (bases_of s) place runs → MayLie s p (if p - 1 == place then Some runs else None)
  put-may place runs one = elim (eqb_tells (p - 1) place) [
    | inl same ↦ subst (λ (b : Bool). MayLie s p (if b then Some runs else None)) (sym same.0) (subst (λ (i : ℕ). AreRunsOf s.loaded.standing s.head (bases_of s) i runs) (sym same.1) one)
    | inr other ↦ subst (λ (b : Bool). MayLie s p (if b then Some runs else None)) (sym other.0) tt
  ]

  put-at : (place : ℕ) (runs : List Run) → AreRunsOf s.loaded.standing s.head (bases_of s) place runs
      → slice_index_or (traces_with (bases_of s) (traces_of s) place (runs ∷ [])) (p - 1) [] ≡ trace_with s p (if p - 1 == place then Some runs else None)
  put-at place runs one = elim (eqb_tells (p - 1) place) [
    | inl same ↦
        let here : p - 1 ≡ place + 0 = omega (arith, same.1) in
        with-at s.loaded.standing s.head (bases_of s) (traces_of s) place (p - 1) 0 (runs ∷ []) runs (one, tt) (length-bases s) (omega arith) refl here
        ∙ ap (λ (b : Bool). trace_with s p (if b then Some runs else None)) (sym same.0)
    | inr other ↦ elim (cases_lt (p - 1) place) [
      | inl before ↦
          in_front (bases_of s) (traces_of s) place (p - 1) (runs ∷ []) before
          ∙ ap (λ (b : Bool). trace_with s p (if b then Some runs else None)) (sym other.0)
      | inr after ↦
          behind (bases_of s) (traces_of s) place (p - 1) (runs ∷ []) (omega (arith, after, other.1))
          ∙ ap (λ (b : Bool). trace_with s p (if b then Some runs else None)) (sym other.0)
    ]
  ]

  -- the runs of traces that follow one another
  runs-may : (runs : TraceRuns) → AreRunsFrom s.loaded.standing s.head (bases_of s) runs.place runs.lists.items → MayLie s p (runs_over runs (p - 1))
  runs-may runs all = elim (over_cases runs (p - 1)) [
    | inl there ↦
        let here : p - 1 ≡ runs.place + (p - 1 - runs.place) = omega (arith, there.1.0) in
        subst (λ (o : Option (List Run)). MayLie s p o) (sym there.1.3)
        (runs-at s.loaded.standing s.head (bases_of s) runs.place (p - 1) (p - 1 - runs.place) runs.lists.items there.0 all there.1.1 there.1.2 here)
    | inr past ↦ subst (λ (o : Option (List Run)). MayLie s p o) (sym past.0) tt
  ]

  runs-trace : (runs : TraceRuns) → AreRunsFrom s.loaded.standing s.head (bases_of s) runs.place runs.lists.items
      → slice_index_or (traces_with (bases_of s) (traces_of s) runs.place runs.lists.items) (p - 1) [] ≡ trace_with s p (runs_over runs (p - 1))
  runs-trace runs all = elim (over_cases runs (p - 1)) [
    | inl there ↦
        let here : p - 1 ≡ runs.place + (p - 1 - runs.place) = omega (arith, there.1.0) in
        with-at s.loaded.standing s.head (bases_of s) (traces_of s) runs.place (p - 1) (p - 1 - runs.place) runs.lists.items there.0 all (length-bases s) there.1.1 there.1.2 here
        ∙ ap (λ (o : Option (List Run)). trace_with s p o) (sym there.1.3)
    | inr past ↦
        elim past.1 [
          | inl before ↦ in_front (bases_of s) (traces_of s) runs.place (p - 1) runs.lists.items before
          | inr after ↦ behind (bases_of s) (traces_of s) runs.place (p - 1) runs.lists.items after
        ]
        ∙ ap (λ (o : Option (List Run)). trace_with s p o) (sym past.0)
  ]

  -- the runs of an edit that is prepared may lie over the trace
  pub then-may : (prepared : Prepared) → IsReady s prepared → MayLie s (place_then prepared p) (runs_then prepared p)
  then-may (Put put) ready = put-may put.place put.runs ready.fit.0
  then-may (Runs runs) ready = runs-may runs ready.fit
  then-may (Move m) ready = tt

  -- and the trace is as it would be
  pub then-at : (prepared : Prepared) → IsReady s prepared → slice_index_or (traces_then s prepared) (p - 1) [] ≡ trace_with s (place_then prepared p) (runs_then prepared p)
  then-at (Put put) ready = put-at put.place put.runs ready.fit.0
  then-at (Runs runs) ready = runs-trace runs ready.fit
  then-at (Move m) ready =
      moved-at (traces_of s) m.from m.to p (place_in_move m p)
      (record { from_first = ready.fit.from_first; from_last = ready.fit.from_last; to_first = ready.fit.to_first; to_last = ready.fit.to_last })
      (comes_from m p) first

-- ---- a trace without runs in the loaded file

module _ {T : Type 0} where
  pub range_inside : (loaded : List ℕ) (slot : Slot T) (o : Option Extent) → IsInside loaded slot.layers.base → IfSome o (IsWholeRange slot.layers) → IfSome o (λ e. e.start + e.length ≤ length loaded)
  range_inside loaded slot None inside range = tt
  range_inside loaded slot (Some extent) inside range = subst (λ (b : Base). IsInside loaded b) range.base inside

  pub range_bytes : (loaded : List ℕ) (slot : Slot T) (trace : List ℕ) (o : Option Extent) → trace ≡ bytes_in loaded slot → IfSome o (IsWholeRange slot.layers) → IfSome o (λ e. bytes_at loaded e ≡ trace)
  range_bytes loaded slot trace None is range = tt
  range_bytes loaded slot trace (Some extent) is range = sym (is ∙ ap (bytes_with_runs (base_of loaded slot.layers.base)) range.plain ∙ ap (base_of loaded) range.base)

-- ---- the runs that are chosen

-- those that are laid, or else the trace's own
pub chosen_runs : (laid : Option (Bor (List Run))) (own chosen : Bor (List Run)) (runs : List Run) → chosen ≡ unwrap_or laid own → own.now ≡ runs → chosen.now ≡ unwrap_or (option_copied laid) runs
chosen_runs None own chosen runs is e = ap (λ (x : Bor (List Run)). x.now) is ∙ e
chosen_runs (Some runs) own chosen others is e = ap (λ (x : Bor (List Run)). x.now) is
