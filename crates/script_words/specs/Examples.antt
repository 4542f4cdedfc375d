-- Worked examples of lines, words, numbers and places.
use Rattle.std.specs.Prelude.{◌≡◌, ◌^◌, ◌-◌, negsuc, [], ◌∷◌, ◌++◌, codes, Some, None, Ok, Err, refl}
use Rattle.std.specs.Str.{is_utf8, chars}
use Rattle.std.specs.Char.{encode_utf8}
use Rattle.field_map.specs.Pairs.{signed_at, unsigned_in_first_extension}
use Rattle.bench_rules.specs.declared.field.Field.TheVariants as fields
use Rattle.bench_rules.specs.declared.edit.Edit.TheVariants as edits
use Rattle.script_words.specs.declared.command.Command.TheVariants.{Apply}
use Rattle.script_words.specs.declared.line_fault.LineFault.TheVariants.{Words, NotText}
use Rattle.script_words.specs.Words.{script_lines}
use Rattle.script_words.specs.Numbers.{number_of, position_of, place_of_word}
use Rattle.script_words.specs.Commands.{line_result}

-- one carriage return is dropped at the end of a line, with a line feed behind it or not
pub lines-returns : script_lines (codes "count\r\n\ninfo\r\r\nfaults\r") ≡ codes "count" ∷ [] ∷ codes "info\r" ∷ codes "faults" ∷ []
lines-returns = refl

pub number-least : number_of (codes "-170141183460469231731687303715884105728") ≡ Some (negsuc (2 ^ 127 - 1))
number-least = refl

pub number-above : number_of (codes "170141183460469231731687303715884105728") ≡ None
number-above = refl

pub position-minus_zero : position_of (codes "-0") ≡ Some 0
position-minus_zero = refl

pub place-extension : place_of_word (codes "@1.157:2u") ≡ Some (unsigned_in_first_extension 157 2)
place-extension = refl

pub place-late_dot : place_of_word (codes "@189:4.1") ≡ None
place-late_dot = refl

pub line-set : line_result None 9 (codes "\tset\t2  @0189:4 -100 ") ≡ Ok (Some (Apply (edits.Set 2 (fields.Place (signed_at 189 4)) (negsuc 99))))
unfolding is_utf8 chars encode_utf8
line-set = refl

pub line-note : line_result None 9 (codes " # set 1") ≡ Ok None
unfolding is_utf8 chars encode_utf8
line-note = refl

-- too few words are told before a word that is no number
pub line-few : line_result None 9 (codes "set a @189:4") ≡ Err Words
unfolding is_utf8 chars encode_utf8
line-few = refl

-- a note is told as no text before it is a note
pub line-no_text : line_result None 9 (codes "# note " ++ 0xFF ∷ []) ≡ Err NotText
unfolding is_utf8 chars encode_utf8
line-no_text = refl
