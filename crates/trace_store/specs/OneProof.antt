-- That the parts of a store fit has at most one proof: a store with the same parts is the same store.
use Rattle.std.specs.Prelude.{ℕ, List, length, Option, Some, None, IsSomeAnd}
use Rattle.std.specs.Coded.{Coded-set, coded_ℕ, coded_option, le_prop, Π_prop, Unit-prop}
use mathlib.Core.HLevel.{⊥_prop}
use Rattle.slab.specs.Slab.{Slab, get}
use Rattle.base_file.specs.HeldBytes.{HeldBytes}
use Rattle.frame_cut.specs.declared.file_head.Head.{Head}
use Rattle.frame_cut.specs.Cuts.{IsTrace}
use Rattle.trace_view.specs.Runs.{FitFrom-prop}
use Rattle.trace_store.specs.declared.base.Base.{Base}
use Rattle.trace_store.specs.declared.base.Base.TheVariants.{Loaded, Added}
use Rattle.trace_store.specs.declared.slot.Slot.{Slot}
use Rattle.trace_store.specs.Slots.{base_of, bytes_in, HasRoomFor, IsInside, IsSlot, IsStore}

IsInside-prop : (loaded : List ℕ) (base : Base) → IsProp (IsInside loaded base)
IsInside-prop loaded (Loaded extent) = le_prop
IsInside-prop loaded (Added bytes) = Unit-prop

HasRoomFor-prop : (loaded : HeldBytes) (base : Base) → IsProp (HasRoomFor loaded base)
HasRoomFor-prop loaded (Loaded extent) = Π_prop (λ _. le_prop)
HasRoomFor-prop loaded (Added bytes) = Unit-prop

IsTrace-prop : (h : Head) (t : List ℕ) → IsProp (IsTrace h t)
IsTrace-prop h t = λ a b i. record {
  whole = le_prop a.whole b.whole i;
  exact = Coded-set (coded_option coded_ℕ) _ _ a.exact b.exact i;
}

IsSlot-prop : {T : Type 0} (loaded : HeldBytes) (h : Head) (slot : Slot T) → IsProp (IsSlot loaded h slot)
IsSlot-prop loaded h slot = λ a b i. record {
  inside = IsInside-prop loaded.bytes slot.layers.base a.inside b.inside i;
  room = HasRoomFor-prop loaded slot.layers.base a.room b.room i;
  fit = FitFrom-prop 0 slot.layers.runs (length (base_of loaded.bytes slot.layers.base)) a.fit b.fit i;
  whole = Π_prop (λ _. IsTrace-prop h (bytes_in loaded.bytes slot)) a.whole b.whole i;
}

IsSomeAnd-prop : {A : Type 0} (P : A → Type 0) (o : Option A) → ((x : A) → IsProp (P x)) → IsProp (IsSomeAnd o P)
IsSomeAnd-prop P None each = ⊥_prop
IsSomeAnd-prop P (Some x) each = each x

pub IsStore-prop : {T : Type 0} (loaded : HeldBytes) (h : Head) (ids : List ℕ) (slots : Slab (Slot T)) → IsProp (IsStore loaded h ids slots)
IsStore-prop loaded h ids slots = λ a b i. record {
  held = Π_prop (λ id. Π_prop (λ _. IsSomeAnd-prop (IsSlot loaded h) (get slots id) (IsSlot-prop loaded h))) a.held b.held i;
  distinct = Π_prop (λ _. le_prop) a.distinct b.distinct i;
  no_more = Coded-set coded_ℕ _ _ a.no_more b.no_more i;
  few = le_prop a.few b.few i;
}
