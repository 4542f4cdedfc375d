-- No rule of binding a name tells that memory ran out.
use Rattle.std.proofs.Common.{◌≡◌, ℕ, Bool, true, false, List}
use Rattle.std.specs.Prelude.{Option, Some, None, not, if◌then◌else◌}
use Rattle.field_map.specs.declared.place.Place.{Place}
use Rattle.field_map.specs.declared.map_fault.MapFault.{MapFault}
use Rattle.field_map.specs.declared.map_fault.MapFault.TheVariants.{BadName, OutsideHeader, BadKind, Full, Standard, OutOfMemory}
use Rattle.field_map.specs.Pairs.{Pairs}
use Rattle.field_map.specs.Binding.{bind_fault, is_name, is_outside, is_bad_kind, is_full, is_standard}

first_fault : (a b c d e : Bool) → (if a then Some BadName else (if b then Some OutsideHeader else (if c then Some BadKind else (if d then Some Full else (if e then Some Standard else None))))) ≡ Some OutOfMemory → ⊥
first_fault true b c d e h = cc
first_fault false true c d e h = cc
first_fault false false true d e h = cc
first_fault false false false true e h = cc
first_fault false false false false true h = cc
first_fault false false false false false h = cc

pub bind_fault-memory : (extensions : ℕ) (pairs : Pairs) (name : List ℕ) (place : Place) → bind_fault extensions pairs name place ≡ Some OutOfMemory → ⊥
bind_fault-memory extensions pairs name place h = first_fault (not (is_name name)) (is_outside extensions name place) (is_bad_kind name place.kind) (is_full pairs name) (is_standard name) h
