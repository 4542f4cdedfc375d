-- Edits and queries of small files, worked by hand.
use Rattle.std.specs.Prelude.{◌≡◌, [], ◌∷◌, pos, Some, None, Ok, Err, codes, refl, false}
use Rattle.std.specs.Str.{chars}
use Rattle.field_map.specs.declared.map_fault.MapFault.TheVariants as map_faults
use Rattle.field_map.specs.Binding.{geometry_at_load}
use Rattle.field_map.specs.KnownNames.{named_place}
use Rattle.field_map.specs.Pairs.{bound, signed_at, unsigned_at}
use Rattle.text_block.specs.declared.text_fault.TextFault.TheVariants as text_faults
use Rattle.frame_cut.specs.Readings.{as_written}
use Rattle.frame_cut.specs.SmallFiles.{with_bytes_at, wide_limits, file_plain, volume_plain, volume_extended, volume_counted}
use Rattle.frame_cut.specs.Volume.{Volume}
use Rattle.bench_rules.specs.declared.edit.Edit.TheVariants.{Set, SetBin, SetText, Map, Unmap}
use Rattle.bench_rules.specs.declared.field.Field.TheVariants as field
use Rattle.bench_rules.specs.declared.query.Query.TheVariants as queries
use Rattle.bench_rules.specs.declared.answer.Answer.TheVariants as answers
use Rattle.bench_rules.specs.declared.ask_fault.AskFault.TheVariants as faults
use Rattle.bench_rules.specs.declared.refusal.Refusal.TheVariants as refusals
use Rattle.bench_rules.specs.After.{bytes_after, fields_after}
use Rattle.bench_rules.specs.Answer.{answer}
use Rattle.bench_rules.specs.Refused.{first_refusal}
use Rattle.bench_rules.specs.State.{State}

-- a volume as it was loaded
abbrev loaded : Volume → State
loaded v = record { volume = v; fields = geometry_at_load; reading = as_written; limits = wide_limits; on_disk = false }

-- 07 in place of 0A at byte 4036 of the file: the inline number of trace 2
pub set-inline : bytes_after (loaded volume_plain) (Set 2 (field.Name (codes "inline")) (pos 7)) ≡ with_bytes_at 4036 (7 ∷ []) file_plain
set-inline = refl

pub set-accepted : first_refusal (loaded volume_plain) (Set 2 (field.Name (codes "inline")) (pos 7)) ≡ None
set-accepted = refl

pub set-no_trace : first_refusal (loaded volume_plain) (Set 4 (field.Name (codes "nothing")) (pos 7)) ≡ Some (refusals.NoTrace 4 3)
set-no_trace = refl

-- a name whose place stands in an extension that the trace lacks
pub set-no_extension : first_refusal (loaded volume_plain) (Set 1 (field.Name (codes "ext_count")) (pos 7)) ≡ Some refusals.NoPlace
unfolding named_place
set-no_extension = refl

-- the number of samples of a trace whose length it gives
pub set-frame : first_refusal (loaded volume_counted) (Set 1 (field.Place (unsigned_at 115 2)) (pos 3)) ≡ Some refusals.Frame
set-frame = refl

-- bytes 3494-3501 of the file, of which the last says the revision
pub bin-frame : first_refusal (loaded volume_extended) (SetBin (field.Place (unsigned_at 3494 8)) (pos 0)) ≡ Some refusals.Frame
bin-frame = refl

pub text-no_code : first_refusal (loaded volume_plain) (SetText 1 (codes "C 1 LINE[")) ≡ Some (refusals.Text (text_faults.NoCode 9))
unfolding chars
text-no_code = refl

pub unmap-geometry : first_refusal (loaded volume_plain) (Unmap (codes "inline")) ≡ Some (refusals.Map map_faults.Geometry)
unmap-geometry = refl

-- x at the place of a field of another name, which needs not be bound
pub map-source : fields_after geometry_at_load (Map (codes "x") (field.Name (codes "source_x"))) ≡ bound geometry_at_load (codes "x") (signed_at 73 4)
unfolding named_place
map-source = refl

-- a field without a place comes before a name that is none
pub map-no_field : first_refusal (loaded volume_plain) (Map (codes "1") (field.Name (codes "nothing"))) ≡ Some refusals.NoField
unfolding named_place
map-no_field = refl

pub get-inline : answer (loaded volume_plain) (queries.Get 2 (field.Name (codes "inline"))) ≡ Ok (answers.Value (pos 10))
get-inline = refl

pub sample-first : answer (loaded volume_plain) (queries.Sample 2 0) ≡ Ok (answers.Value (pos 3))
sample-first = refl

-- a sample behind the last is named as it was asked
pub sample-behind : answer (loaded volume_plain) (queries.Sample 2 5) ≡ Err (faults.NoSample 5 2)
sample-behind = refl
