use Rattle.script_words.proofs.PlaceLemmas.{no_colon}
use Rattle.script_words.proofs.fields.place_from.Goals as goal

pub returns-in_err-first : goal.returns-in_err-first
returns-in_err-first c = rw c.from_residual-in_err-first.ensures (no_colon c.args.extension.now c.args.text.now c.in_err-first.ensures.none)
