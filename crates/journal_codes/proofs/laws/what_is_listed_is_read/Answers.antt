use Rattle.journal_codes.proofs.Reading.{read_again}
use Rattle.journal_codes.proofs.laws.what_is_listed_is_read.Goals as goal

pub returns : goal.returns
returns c = read_again
