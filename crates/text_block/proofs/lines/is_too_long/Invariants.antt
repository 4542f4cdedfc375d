use Rattle.std.proofs.Common.{◌≡◌, ◌≤◌, ◌+◌, IsUtf8, chars, length}
use Rattle.std.specs.Str.Iter.{chars_rest}
use Rattle.text_block.proofs.lines.is_too_long.Given as goal

abbrev pub invariant-loop-character : goal.invariant-loop-character
invariant-loop-character l = record {
  utf8 : IsUtf8 (chars_rest l._character-iterator);
  count : l.count + length (chars (chars_rest l._character-iterator)) ≡ length (chars l.fn.text);
  within : l.count ≤ 80;
}
