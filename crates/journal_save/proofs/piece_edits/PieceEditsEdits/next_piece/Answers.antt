use Rattle.std.proofs.Common.{rules, arith}
use Rattle.journal_save.proofs.PieceLemmas.{next_of}
use Rattle.journal_save.proofs.piece_edits.PieceEditsEdits.next_piece.Goals as goal

pub returns-clause-piece : goal.returns-clause-piece
returns-clause-piece c = (omega arith, next_of c.args.self.now.pieces.now c.args.self.now.given c.len-size.result c.index-self-self.result c.copy_from_slice.new.self _ (search rules) (search rules) (search rules))
