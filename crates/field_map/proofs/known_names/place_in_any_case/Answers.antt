use Rattle.std.proofs.Common.{◌∙◌, sym}
use Rattle.std.specs.Str.{str_to_ascii_lowercase}
use Rattle.field_map.proofs.RowLemmas.{place_of-here, place_of-behind}
use Rattle.field_map.proofs.known_names.place_in_any_case.Goals as goal

pub returns-then-is_same_in_any_case : goal.returns-then-is_same_in_any_case
returns-then-is_same_in_any_case c =
    sym (place_of-here str_to_ascii_lowercase c.args.table.now c.loop-known.known-index _ (str_to_ascii_lowercase c.args.name.now) c.loop-known-test.true
    (sym c.is_same_in_any_case.ensures ∙ c.if-is_same_in_any_case.true))
    ∙ c.loop-known.invariant

pub loop-known-preserved : goal.loop-known-preserved
loop-known-preserved c =
    sym (place_of-behind str_to_ascii_lowercase c.args.table.now c.loop-known.known-index _ (str_to_ascii_lowercase c.args.name.now) c.loop-known-test.true
    (sym c.is_same_in_any_case.ensures ∙ c.if-is_same_in_any_case.false))
    ∙ c.loop-known.invariant
