use Rattle.std.proofs.Common.{arith, ap, sym, ◌∙◌}
use Rattle.trace_seq.specs.Fronts.{groups_of}
use Rattle.trace_seq.proofs.FrontLemmas.{even-raised, fronts-few, fronts-raised}
use Rattle.trace_seq.proofs.counted_chunks.CountedChunks.put.Goals as goal

pub raise-requires : goal.raise-requires
raise-requires c = λ g within. omega (arith, fronts-few c.args.self.now.list.chunks.items g c.args.self.now.fronts.items c.requires.counted.fronts within, c.requires.few, c.requires.counted.whole.count)

pub returns-clause-counted : goal.returns-clause-counted
returns-clause-counted c =
    let cs = c.args.self.now.list.chunks.items in
    let held = c.requires.counted in
    record {
      whole = c.put.ensures.whole;
      fronts = fronts-raised cs c.put.new.self.chunks.items c.args.spot.chunk c.args.self.now.fronts.items c.raise.new.fronts.items c.put.ensures.fronts held.fronts c.raise.ensures.length c.raise.ensures.below c.raise.ensures.above;
      groups = c.raise.ensures.length ∙ held.groups ∙ ap groups_of (sym c.put.ensures.chunks);
      room = rw c.put.ensures.spares (omega (arith, held.room, c.put.ensures.chunks, c.raise.ensures.capacity));
      even = even-raised cs c.put.new.self.chunks.items c.args.spot.chunk c.args.self.now.even c.min-self.result (omega (arith, c.min-self.ensures)) (omega (arith, c.min-self.ensures)) c.put.ensures.fronts held.even;
    }
