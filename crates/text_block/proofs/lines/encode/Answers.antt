use Rattle.std.proofs.Common.{◌+◌, sym, ◌∙◌, ap, chars, length, arith}
use Rattle.std.proofs.lemmas.List.{length-set}
use Rattle.std.proofs.lemmas.Str.{IsUtf8-past_char, chars_past_char}
use Rattle.text_block.specs.Characters.{byte_of}
use Rattle.text_block.proofs.LineLemmas.{chars_of_empty, column-passed, column-found, front-more, behind-more, line-whole}
use Rattle.text_block.proofs.lines.encode.Goals as goal

pub returns-in_default-clause-column : goal.returns-in_default-clause-column
returns-in_default-clause-column c =
    let held = c.loop-character.invariant in
    let step = chars_past_char _ _ c.in-Some.character held.utf8 c.in-Some.ensures.steps.0 in
    sym (rw step at held.column) ∙ column-found (byte_of c.args.code) (c.loop-character.count + 1) c.in-Some.character _ (sym c.in_default.ensures)

pub loop-character-preserved : goal.loop-character-preserved
loop-character-preserved c =
    let held = c.loop-character.invariant in
    let parts = c.in-Some.ensures.steps.0 in
    let step = chars_past_char _ _ c.in-Some.character held.utf8 parts in
    let known = sym c.in-Some-byte_of.ensures in
    record {
      utf8 = IsUtf8-past_char _ _ c.in-Some.character held.utf8 parts;
      count = omega (arith, ap length step, held.count);
      long = length-set _ _ _ ∙ held.long;
      column = sym (column-passed (byte_of c.args.code) (c.loop-character.count + 1) c.in-Some.character c.in-Some-byte_of.byte _ known) ∙ (rw step at held.column);
      front = front-more (byte_of c.args.code) c.loop-character.line _ _ c.loop-character.count c.in-Some.character c.in-Some-byte_of.byte (omega (arith, held.count, held.long, ap length step, c.requires)) known (rw step at held.front);
      behind = behind-more c.loop-character.line c.loop-character.count c.in-Some-byte_of.byte _ (omega (arith, held.count, held.long, ap length step, c.requires)) held.behind;
    }

pub returns-clause-ok : goal.returns-clause-ok
returns-clause-ok c =
    let held = c.loop-character.invariant in
    sym (rw (chars_of_empty _ c.in-None.ensures.steps.0.0) at held.column)

pub returns-clause-line : goal.returns-clause-line
returns-clause-line c =
    let held = c.loop-character.invariant in
    let none = chars_of_empty _ c.in-None.ensures.steps.0.0 in
    line-whole c.args.code c.loop-character.line (chars c.args.text.now) c.loop-character.count (omega (arith, ap length none, held.count)) (rw none at held.front) held.behind
