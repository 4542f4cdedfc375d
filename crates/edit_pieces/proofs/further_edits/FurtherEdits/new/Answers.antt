use Rattle.edit_pieces.proofs.FurtherLemmas.{further-law}
use Rattle.edit_pieces.proofs.further_edits.FurtherEdits.new.Goals as goal

pub returns-clause-law : goal.returns-clause-law
returns-clause-law g c = λ held same. further-law c.args.loaded.now held c.args.written.now c.args.edits.all c.requires.within same
