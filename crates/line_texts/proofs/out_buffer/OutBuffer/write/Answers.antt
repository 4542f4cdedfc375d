use Rattle.std.proofs.Common.{arith}
use Rattle.line_texts.proofs.out_buffer.OutBuffer.write.Goals as goal

pub returns-in-Err : goal.returns-in-Err
returns-in-Err g c = record {
  taken = c.in-Err.fault.written;
  takes = rw c.requires c.in-Err.ensures;
  counted = rw (← c.self.view_is) (omega (arith, c.saturating_add.ensures));
}
