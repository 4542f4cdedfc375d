use Rattle.text_block.proofs.EncodedLemmas.{shows_encoded, both_ways}
use Rattle.text_block.proofs.laws.shows_encoded.Goals as goal

pub returns : goal.returns
returns c = record { text = shows_encoded; characters = both_ways }
