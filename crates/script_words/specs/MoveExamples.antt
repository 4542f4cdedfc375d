-- Lines that move traces or bind names at once, worked by hand.
use Rattle.std.specs.Prelude.{◌≡◌, codes, Some, None, Ok, Err, refl}
use Rattle.std.specs.Str.{is_utf8, chars}
use Rattle.std.specs.Char.{encode_utf8}
use Rattle.bench_rules.specs.declared.edit.Edit.TheVariants as edits
use Rattle.bench_rules.specs.declared.mapping.Mapping.TheVariants.{Shot, Usual}
use Rattle.script_words.specs.declared.command.Command.TheVariants.{Apply}
use Rattle.script_words.specs.declared.line_fault.LineFault.TheVariants.{Words, Number}
use Rattle.script_words.specs.Commands.{line_result}

-- ---- in a file of nine traces

pub line-move : line_result None 9 (codes "move 2 last") ≡ Ok (Some (Apply (edits.Move 2 9)))
unfolding is_utf8 chars encode_utf8
line-move = refl

pub line-block : line_result None 9 (codes "move 2 4 1") ≡ Ok (Some (Apply (edits.MoveBlock 2 4 1)))
unfolding is_utf8 chars encode_utf8
line-block = refl

-- without three traces six are left, so that the block can begin at 7
pub line-block-last : line_result None 9 (codes "move 2 4 last") ≡ Ok (Some (Apply (edits.MoveBlock 2 4 7)))
unfolding is_utf8 chars encode_utf8
line-block-last = refl

-- `last` of the range is the last trace
pub line-block-range : line_result None 9 (codes "move last last last") ≡ Ok (Some (Apply (edits.MoveBlock 9 9 9)))
unfolding is_utf8 chars encode_utf8
line-block-range = refl

-- a range that is none is told as it is judged, whatever `last` would be
pub line-block-none : line_result None 9 (codes "move 4 2 last") ≡ Ok (Some (Apply (edits.MoveBlock 4 2 9)))
unfolding is_utf8 chars encode_utf8
line-block-none = refl

-- `end` is one behind the last trace, and no number of one
pub line-block-end : line_result None 9 (codes "move 2 4 end") ≡ Err Number
unfolding is_utf8 chars encode_utf8
line-block-end = refl

-- all traces have no other place, and a block has no conditions
pub line-block-all : line_result None 9 (codes "move all 1 2") ≡ Err Words
unfolding is_utf8 chars encode_utf8
line-block-all = refl

pub line-block-where : line_result None 9 (codes "move 2 4 1 where cdp = 3") ≡ Err Words
unfolding is_utf8 chars encode_utf8
line-block-where = refl

-- ---- several names at once

pub line-map-shot : line_result None 9 (codes "map shot") ≡ Ok (Some (Apply (edits.MapAs Shot)))
unfolding is_utf8 chars encode_utf8
line-map-shot = refl

pub line-map-usual : line_result None 9 (codes "map usual") ≡ Ok (Some (Apply (edits.MapAs Usual)))
unfolding is_utf8 chars encode_utf8
line-map-usual = refl

-- a word alone that is no mapping is too few, as before
pub line-map-one : line_result None 9 (codes "map inline") ≡ Err Words
unfolding is_utf8 chars encode_utf8
line-map-one = refl

pub line-map-three : line_result None 9 (codes "map shot inline @9:4") ≡ Err Words
unfolding is_utf8 chars encode_utf8
line-map-three = refl
