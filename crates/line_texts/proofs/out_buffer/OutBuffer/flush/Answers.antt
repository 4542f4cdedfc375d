use Rattle.std.proofs.Common.{arith, append-nil}
use Rattle.line_texts.proofs.out_buffer.OutBuffer.flush.Goals as goal

pub returns-in-Err-clause-pushed : goal.returns-in-Err-clause-pushed
returns-in-Err-clause-pushed g c = record {
  taken = c.in-Err.fault.written;
  takes = rw (← c.self.view_is, append-nil _) c.in-Err.ensures;
  counted = rw (← c.self.view_is) (omega (arith, c.saturating_add.ensures));
}
