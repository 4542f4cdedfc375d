use Rattle.std.proofs.Common.{arith}
use Rattle.trace_seq.proofs.FrontLemmas.{even-then, fronts-kept}
use Rattle.trace_seq.proofs.counted_chunks.CountedChunks.append.Goals as goal

pub returns-else-len-clause-counted : goal.returns-else-len-clause-counted
returns-else-len-clause-counted c =
    let held = c.requires.counted in
    let cs = c.args.self.now.list.chunks.items in
    let ds = c.append.new.self.chunks in
    let fs = c.args.self.now.fronts in
    record {
      whole = c.append.ensures.whole;
      fronts = fronts-kept cs ds.items fs.items c.append.ensures.fronts (omega (arith, held.groups, c.append.ensures.no_fewer)) held.fronts;
      groups = omega (arith, held.groups, c.append.ensures.no_fewer, c.append.ensures.chunks, c.if-len.false, c.len.ensures, c.len-2.ensures, ds.ok, fs.ok);
      room = rw c.append.ensures.all held.room;
      even = even-then cs ds.items c.args.self.now.even c.even_then-self.result c.len-chunks.result c.len.result c.args.self.now.list.count c.append.ensures.fronts held.even (omega (arith, c.len-chunks.ensures, c.args.self.now.list.chunks.ok)) (omega (arith, c.len.ensures, ds.ok)) held.whole.count c.even_then-self.ensures;
    }
