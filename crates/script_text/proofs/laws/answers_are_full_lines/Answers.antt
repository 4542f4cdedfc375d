use Rattle.script_text.proofs.AnswerLineLemmas as lemmas
use Rattle.script_text.proofs.laws.answers_are_full_lines.Goals as goal

pub returns : goal.returns
returns c = lemmas.answers_are_full_lines
