-- Tables, finds, all headers of a trace and extremes, worked by hand.
use Rattle.std.specs.Prelude.{◌≡◌, pos, [], ◌∷◌, Ok, Err, codes, refl, false}
use Rattle.field_map.specs.Binding.{geometry_at_load}
use Rattle.field_map.specs.KnownNames.{named_place}
use Rattle.field_map.specs.Pairs.{Pairs, signed_at, unsigned_at, unsigned_in_first_extension}
use Rattle.frame_cut.specs.Readings.{as_written}
use Rattle.frame_cut.specs.SmallFiles.{wide_limits, head_plain, volume_plain, trace_plain_2}
use Rattle.bench_rules.specs.declared.field.Field.TheVariants as field
use Rattle.bench_rules.specs.declared.query.Query.TheVariants.{Table, Find}
use Rattle.bench_rules.specs.declared.answer.Answer.TheVariants as answers
use Rattle.bench_rules.specs.declared.ask_fault.AskFault.TheVariants as faults
use Rattle.bench_rules.specs.Answer.{answer}
use Rattle.bench_rules.specs.Headers.{header_of, extremes_in}
use Rattle.bench_rules.specs.Looks.{query_looks}
use Rattle.bench_rules.specs.State.{State}
use Rattle.bench_rules.specs.Tables.{rows_from}

-- three traces of inline 10 and crosslines 21 to 23, as they were loaded
abbrev loaded : State
loaded = record { volume = volume_plain; fields = geometry_at_load; reading = as_written; limits = wide_limits; on_disk = false }

-- two rows of two numbers, counted from position 4
pub rows-two : rows_from 4 2 2 (pos 1 ∷ pos 2 ∷ pos 3 ∷ pos 4 ∷ []) ≡ (4, pos 1 ∷ pos 2 ∷ []) ∷ (5, pos 3 ∷ pos 4 ∷ []) ∷ []
rows-two = refl

pub table-two : answer loaded (Table 2 3 (field.Name (codes "inline") ∷ field.Place (signed_at 193 4) ∷ [])) ≡ Ok (answers.Table ((2, pos 10 ∷ pos 22 ∷ []) ∷ (3, pos 10 ∷ pos 23 ∷ []) ∷ []))
table-two = refl

-- trace 4 comes before the unknown name, and the name before the place that no trace has
pub table-no_trace : answer loaded (Table 1 4 (field.Name (codes "nothing") ∷ [])) ≡ Err (faults.NoTrace 4 3)
unfolding named_place
table-no_trace = refl

pub table-behind : answer loaded (Table 3 2 (field.Name (codes "nothing") ∷ [])) ≡ Err (faults.NoTrace 2 3)
unfolding named_place
table-behind = refl

pub table-no_field : answer loaded (Table 1 3 (field.Name (codes "ext_count") ∷ field.Name (codes "nothing") ∷ [])) ≡ Err faults.NoField
unfolding named_place
table-no_field = refl

pub table-no_place : answer loaded (Table 1 3 (field.Name (codes "inline") ∷ field.Name (codes "ext_count") ∷ [])) ≡ Err faults.NoPlace
unfolding named_place
table-no_place = refl

-- three traces are looked at once, and none for a name that is not there
pub table-looks : query_looks loaded [] (Table 1 3 (field.Name (codes "inline") ∷ [])) ≡ 3
table-looks = refl

pub table-no_looks : query_looks loaded [] (Table 1 3 (field.Name (codes "nothing") ∷ [])) ≡ 0
unfolding named_place
table-no_looks = refl

pub find-some : answer loaded (Find 1 3 (field.Name (codes "crossline")) (pos 22) (pos 1000)) ≡ Ok (answers.Found ((2, pos 22) ∷ (3, pos 23) ∷ []))
find-some = refl

-- no number is at least 23 and at most 22
pub find-none : answer loaded (Find 1 3 (field.Name (codes "crossline")) (pos 23) (pos 22)) ≡ Ok (answers.Found [])
find-none = refl

-- two names of the trace, and one in a header extension that it lacks
abbrev three_names : Pairs
three_names = (codes "x", signed_at 181 4) ∷ (codes "count", unsigned_in_first_extension 157 2) ∷ (codes "interval", unsigned_at 117 2) ∷ []

pub header-two : header_of head_plain three_names trace_plain_2 ≡ (codes "x", pos 2000) ∷ (codes "interval", pos 4000) ∷ []
header-two = refl

-- the day of year is 0 in all of them
pub extremes-two : extremes_in volume_plain ((codes "day", signed_at 159 2) ∷ three_names) 2 3
    ≡ (codes "x", record { least = pos 2000; greatest = pos 3000; first = pos 2000; last = pos 3000 })
    ∷ (codes "interval", record { least = pos 4000; greatest = pos 4000; first = pos 4000; last = pos 4000 }) ∷ []
extremes-two = refl
