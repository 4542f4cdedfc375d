use Rattle.script_words.specs.Words.{is_gap}
use Rattle.script_words.proofs.PositionLemmas.{or_length}
use Rattle.script_words.proofs.words.word_length.Goals as goal

pub returns : goal.returns
returns c = rw (c.unwrap_or.ensures, c.first_gap.ensures) (or_length is_gap c.args.text.now)
