use Rattle.std.proofs.Common.{◌≡◌, drop}
use Rattle.std.specs.Str.{str_to_ascii_lowercase}
use Rattle.field_map.specs.Pairs.{place_of, rows_in_lower_case}
use Rattle.field_map.proofs.known_names.place_in_any_case.Given as goal

abbrev pub invariant-loop-known : goal.invariant-loop-known
invariant-loop-known l =
    place_of (rows_in_lower_case (drop l.known-index l.table)) (str_to_ascii_lowercase l.name) ≡ place_of (rows_in_lower_case l.table) (str_to_ascii_lowercase l.name)
