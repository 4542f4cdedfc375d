use Rattle.std.proofs.Common.{◌≡◌, drop}
use Rattle.field_map.specs.Pairs.{place_of, rows_shown}
use Rattle.field_map.proofs.known_names.place_in.Given as goal

abbrev pub invariant-loop-known : goal.invariant-loop-known
invariant-loop-known l = place_of (rows_shown (drop l.known-index l.table)) l.name ≡ place_of (rows_shown l.table) l.name
