use Rattle.std.proofs.Common.{sym, ap, length, arith}
use Rattle.std.proofs.lemmas.Str.{IsUtf8-past_char, chars_past_char}
use Rattle.std.proofs.lemmas.Bool.{lt-ltb, le-ltb}
use Rattle.text_block.proofs.LineLemmas.{chars_of_empty}
use Rattle.text_block.proofs.lines.is_too_long.Goals as goal

pub returns-then-count-eq80 : goal.returns-then-count-eq80
returns-then-count-eq80 c =
    let held = c.loop-character.invariant in
    let step = ap length (chars_past_char _ _ c.in-Some._character held.utf8 c.in-Some.ensures.steps.0) in
    sym (lt-ltb _ _ (omega (arith, step, held.count, c.if-count-eq80.true)))

pub loop-character-preserved : goal.loop-character-preserved
loop-character-preserved c =
    let held = c.loop-character.invariant in
    let parts = c.in-Some.ensures.steps.0 in
    let step = ap length (chars_past_char _ _ c.in-Some._character held.utf8 parts) in
    record {
      utf8 = IsUtf8-past_char _ _ c.in-Some._character held.utf8 parts;
      count = omega (arith, step, held.count);
      within = omega (arith, held.within, c.if-count-eq80.false);
    }

pub returns : goal.returns
returns c =
    let held = c.loop-character.invariant in
    let none = ap length (chars_of_empty _ c.in-None.ensures.steps.0.0) in
    sym (le-ltb _ _ (omega (arith, none, held.count, held.within)))
