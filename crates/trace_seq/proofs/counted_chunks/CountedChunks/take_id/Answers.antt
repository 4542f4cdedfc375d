use Rattle.std.proofs.Common.{arith, ap, sym, ◌∙◌}
use Rattle.trace_seq.specs.Fronts.{groups_of}
use Rattle.trace_seq.proofs.FrontLemmas.{even-lowered, fronts-lowered}
use Rattle.trace_seq.proofs.counted_chunks.CountedChunks.take_id.Goals as goal

pub returns-clause-counted : goal.returns-clause-counted
returns-clause-counted c =
    let cs = c.args.self.now.list.chunks.items in
    let held = c.requires.counted in
    record {
      whole = c.take_id.ensures.whole;
      fronts = fronts-lowered cs c.take_id.new.self.chunks.items c.args.spot.chunk c.args.self.now.fronts.items c.lower.new.fronts.items c.take_id.ensures.fronts held.fronts c.lower.ensures.length c.lower.ensures.below c.lower.ensures.above;
      groups = c.lower.ensures.length ∙ held.groups ∙ ap groups_of (sym c.take_id.ensures.chunks);
      room = rw c.take_id.ensures.spares (omega (arith, held.room, c.take_id.ensures.chunks, c.lower.ensures.capacity));
      even = even-lowered cs c.take_id.new.self.chunks.items c.args.spot.chunk c.args.self.now.even c.min-self.result (omega (arith, c.min-self.ensures)) (omega (arith, c.min-self.ensures)) c.take_id.ensures.fronts held.even;
    }
