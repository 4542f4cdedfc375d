-- A fault of the field map as the refusal of an edit.
use Rattle.field_map.specs.declared.map_fault.MapFault.{MapFault}
use Rattle.field_map.specs.declared.map_fault.MapFault.TheVariants as faults
use Rattle.bench_rules.specs.declared.refusal.Refusal.{Refusal}
use Rattle.bench_rules.specs.declared.refusal.Refusal.TheVariants.{Map, OutOfMemory}

-- want of memory is the edit's own, every other fault is E08
abbrev pub refusal_of : MapFault → Refusal
refusal_of faults.BadName = Map faults.BadName
refusal_of faults.OutsideHeader = Map faults.OutsideHeader
refusal_of faults.BadKind = Map faults.BadKind
refusal_of faults.Full = Map faults.Full
refusal_of faults.Geometry = Map faults.Geometry
refusal_of faults.Unknown = Map faults.Unknown
refusal_of faults.Standard = Map faults.Standard
refusal_of faults.OutOfMemory = OutOfMemory
