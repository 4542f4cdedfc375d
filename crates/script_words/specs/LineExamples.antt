-- Worked lines of the reports, and of the edits of numbers of samples and of many traces.
use Rattle.std.specs.Prelude.{◌≡◌, pos, negsuc, codes, Some, Ok, Err, refl, None}
use Rattle.std.specs.Str.{is_utf8, chars}
use Rattle.std.specs.Char.{encode_utf8}
use Rattle.field_map.specs.Pairs.{signed_at}
use Rattle.range_stats.specs.declared.quantity.Quantity.TheVariants.{X}
use Rattle.bench_rules.specs.declared.field.Field.TheVariants as fields
use Rattle.bench_rules.specs.declared.edit.Edit.TheVariants as edits
use Rattle.bench_rules.specs.declared.query.Query.TheVariants as queries
use Rattle.script_words.specs.declared.command.Command.TheVariants.{Apply, Ask}
use Rattle.script_words.specs.declared.line_fault.LineFault.TheVariants.{Unknown, Words, Number}
use Rattle.script_words.specs.declared.session_words.SessionWord.TheVariants.{Save, SaveWithMore, Other}
use Rattle.script_words.specs.Commands.{line_result}
use Rattle.script_words.specs.SessionWords.{session_word_of}
use Rattle.std.specs.Prelude.{[], ◌∷◌}
use Rattle.std.specs.Float.{float_is_finite}
use Rattle.std.proofs.lemmas.Float.Parse.{parse_float_on_literals}
use lib.Ieee.{to_bits}
use Rattle.float_codes.specs.declared.float_format.FloatFormat.TheVariants.{Ieee32}

-- ---- reports

pub line-range : line_result None 9 (codes "range x") ≡ Ok (Some (Ask (queries.Range X)))
unfolding is_utf8 chars encode_utf8
line-range = refl

-- the inline stands first
pub line-fold : line_result None 9 (codes "fold 10 -1") ≡ Ok (Some (Ask (queries.Fold (pos 10) (negsuc 0))))
unfolding is_utf8 chars encode_utf8
line-fold = refl

-- a sample behind the greatest position
pub line-slice : line_result None 9 (codes "slice 4294967296") ≡ Err Number
unfolding is_utf8 chars encode_utf8
line-slice = refl

-- a kind of value that has no range
pub line-which : line_result None 9 (codes "range z") ≡ Err Number
unfolding is_utf8 chars encode_utf8
line-which = refl

pub line-many : line_result None 9 (codes "grid 1") ≡ Err Words
unfolding is_utf8 chars encode_utf8
line-many = refl

pub line-few : line_result None 9 (codes "geometry") ≡ Err Words
unfolding is_utf8 chars encode_utf8
line-few = refl

pub line-unknown : line_result None 9 (codes "grids") ≡ Err Unknown
unfolding is_utf8 chars encode_utf8
line-unknown = refl

-- ---- the tail

pub line-drop : line_result None 9 (codes "drop tail") ≡ Ok (Some (Apply edits.DropTail))
unfolding is_utf8 chars encode_utf8
line-drop = refl

pub line-drop-other : line_result None 9 (codes "drop 1") ≡ Err Number
unfolding is_utf8 chars encode_utf8
line-drop-other = refl

pub line-drop-alone : line_result None 9 (codes "drop") ≡ Err Words
unfolding is_utf8 chars encode_utf8
line-drop-alone = refl

-- ---- edits of numbers of samples, and of a field of many traces

pub line-resize : line_result None 9 (codes "resize 2 65536") ≡ Ok (Some (Apply (edits.Resize 2 (pos 65536))))
unfolding is_utf8 chars encode_utf8
line-resize = refl

pub line-renumber : line_result None 9 (codes "renumber 1 3 crossline 100 -5") ≡ Ok (Some (Apply (edits.Renumber 1 3 (fields.Name (codes "crossline")) (pos 100) (negsuc 4))))
unfolding is_utf8 chars encode_utf8
line-renumber = refl

-- the step is missing
pub line-renumber_few : line_result None 9 (codes "renumber 1 3 crossline 100") ≡ Err Words
unfolding is_utf8 chars encode_utf8
line-renumber_few = refl

-- a step that is no number of 128 bits
pub line-renumber_step : line_result None 9 (codes "renumber 1 3 crossline 1 170141183460469231731687303715884105728") ≡ Err Number
unfolding is_utf8 chars encode_utf8
line-renumber_step = refl

-- ---- names bound to places

-- a name may be bound to the place of another
pub line-map : line_result None 9 (codes "map x source_x") ≡ Ok (Some (Apply (edits.Map (codes "x") (fields.Name (codes "source_x")))))
unfolding is_utf8 chars encode_utf8
line-map = refl

pub line-map-place : line_result None 9 (codes "map shot @9:4") ≡ Ok (Some (Apply (edits.Map (codes "shot") (fields.Place (signed_at 9 4)))))
unfolding is_utf8 chars encode_utf8
line-map-place = refl

-- but none that begins as a number does
pub line-map-number : line_result None 9 (codes "map x 189") ≡ Err Number
unfolding is_utf8 chars encode_utf8
line-map-number = refl

-- ---- a session's own word

pub word-save : session_word_of (codes " save\t") ≡ Save
unfolding is_utf8 chars encode_utf8
word-save = refl

pub word-save-more : session_word_of (codes "save it now") ≡ SaveWithMore
unfolding is_utf8 chars encode_utf8
word-save-more = refl

pub word-other : session_word_of (codes "count save") ≡ Other
unfolding is_utf8 chars encode_utf8
word-other = refl

-- it is no command of a script
pub line-save : line_result None 9 (codes "save") ≡ Err Unknown
unfolding is_utf8 chars encode_utf8
line-save = refl

-- a sample of floats may be a decimal, whose rank is that of the nearest binary32; in a file of whole numbers it is none
pub line-patch_float : line_result (Some Ieee32) 9 (codes "patch 1 0 -2.5e0 inf") ≡ Ok (Some (Apply (edits.Patch 1 0 (negsuc 0x4004000000000000 ∷ pos 0x7FF0000000000000 ∷ []))))
unfolding is_utf8 chars encode_utf8 parse_float_on_literals float_is_finite to_bits
line-patch_float = refl

pub line-patch_point : line_result None 9 (codes "patch 1 0 2.5") ≡ Err Number
unfolding is_utf8 chars encode_utf8
line-patch_point = refl

-- ---- words for traces, in a file of 9

pub line-last : line_result None 9 (codes "header last") ≡ Ok (Some (Ask (queries.Header 9)))
unfolding is_utf8 chars encode_utf8
line-last = refl

pub line-end : line_result None 9 (codes "copy last end") ≡ Ok (Some (Apply (edits.Copy 9 10)))
unfolding is_utf8 chars encode_utf8
line-end = refl

-- no trace can be behind the last
pub line-end_of_delete : line_result None 9 (codes "delete end") ≡ Err Number
unfolding is_utf8 chars encode_utf8
line-end_of_delete = refl

-- behind the greatest number of traces none is put in: the place is the last, and the edit is refused all the same
pub line-end_of_all : line_result None 4294967295 (codes "blank end") ≡ Ok (Some (Apply (edits.Blank 4294967295)))
unfolding is_utf8 chars encode_utf8
line-end_of_all = refl

pub line-set_each : line_result None 9 (codes "set 2 last offset 7") ≡ Ok (Some (Apply (edits.Renumber 2 9 (fields.Name (codes "offset")) (pos 7) (pos 0))))
unfolding is_utf8 chars encode_utf8
line-set_each = refl
