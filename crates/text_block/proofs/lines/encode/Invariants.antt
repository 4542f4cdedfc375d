use Rattle.std.proofs.Common.{◌≡◌, ◌+◌, ◌-◌, ◌++◌, IsUtf8, chars, length, take, drop, replicate, filter_map, is_none}
use Rattle.std.specs.Str.Iter.{chars_rest}
use Rattle.std.specs.List.{position_from}
use Rattle.text_block.specs.Characters.{byte_of, blank}
use Rattle.text_block.specs.Lines.{column_without_byte}
use Rattle.text_block.proofs.lines.encode.Given as goal

abbrev pub invariant-loop-character : goal.invariant-loop-character
invariant-loop-character l = record {
  utf8 : IsUtf8 (chars_rest l.character-iterator);
  count : l.count + length (chars (chars_rest l.character-iterator)) ≡ length (chars l.fn.text);
  long : length l.line ≡ 80;
  column : position_from (λ c. is_none (byte_of l.code c)) (l.count + 1) (chars (chars_rest l.character-iterator)) ≡ column_without_byte l.code (chars l.fn.text);
  front : take l.count l.line ++ filter_map (byte_of l.code) (chars (chars_rest l.character-iterator)) ≡ filter_map (byte_of l.code) (chars l.fn.text);
  behind : drop l.count l.line ≡ replicate (80 - l.count) (blank l.code);
}
