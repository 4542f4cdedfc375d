use Rattle.std.proofs.Common.{arith}
use Rattle.trace_seq.proofs.counted_chunks.CountedChunks.recount.Goals as goal

pub returns-clause-counted : goal.returns-clause-counted
returns-clause-counted c = record {
  whole = c.requires.whole;
  fronts = rw c.deref.ensures.value at c.count.ensures.fronts;
  groups = omega (arith, c.count.ensures.length, c.in-Ok.ensures.len, c.div_ceil-groups.ensures, c.len.ensures, c.args.self.now.list.chunks.ok, c.resize.new.self.ok);
  room = omega (arith, c.requires.room, c.count.ensures.capacity, c.in-Ok.ensures.capacity);
  even = rw c.deref-2.ensures.value at c.even_chunks-self.ensures;
}
