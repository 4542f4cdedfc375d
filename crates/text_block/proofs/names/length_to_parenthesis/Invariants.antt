use Rattle.std.proofs.Common.{◌≡◌, ◌+◌, drop, not}
use Rattle.std.specs.List.{prefix_len}
use Rattle.text_block.specs.Stanzas.{is_parenthesis}
use Rattle.text_block.proofs.names.length_to_parenthesis.Given as goal

abbrev pub invariant-loop-character : goal.invariant-loop-character
invariant-loop-character l = record {
  index : l.length ≡ l.character-index;
  length : l.length + prefix_len (λ c. not (is_parenthesis c)) (drop l.character-index l.text) ≡ prefix_len (λ c. not (is_parenthesis c)) l.text;
}
