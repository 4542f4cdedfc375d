use Rattle.std.proofs.Common.{◌≡◌, ◌++◌, drop, ◌≤◌}
use Rattle.std.specs.Prelude.{option_map}
use Rattle.bench_rules.specs.ManyTraces.{each_of}
use Rattle.bench_rules.specs.Places.{place_in_trace}
use Rattle.many_traces.proofs.places.places_of.Given as goal

-- the places so far, and those of the fields that are left
abbrev pub invariant-loop-field : goal.invariant-loop-field
invariant-loop-field l = (each_of (place_in_trace l.map.pairs) l.fields ≡ option_map (λ places. l.places.items ++ places) (each_of (place_in_trace l.map.pairs) (drop l.field-index l.fields))) × (l.initial.room ≤ l.room)
