use Rattle.std.proofs.Common.{◌≡◌, drop}
use Rattle.std.specs.Prelude.{is_some}
use Rattle.bench_rules.specs.ManyTraces.{each_of}
use Rattle.bench_rules.specs.Places.{place_in_trace}
use Rattle.many_traces.proofs.places.have_places.Given as goal

-- the fields that are left decide
abbrev pub invariant-loop-field : goal.invariant-loop-field
invariant-loop-field l = is_some (each_of (place_in_trace l.map.pairs) l.fields) ≡ is_some (each_of (place_in_trace l.map.pairs) (drop l.field-index l.fields))
