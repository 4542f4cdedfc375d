use Rattle.std.proofs.Common.{arith, length, ap}
use Rattle.trace_seq.specs.Order.{ChunkOrder}
use Rattle.trace_seq.proofs.ChunkIdLemmas.{chunks-number}
use Rattle.trace_seq.proofs.chunk_seq.ChunkSeq.chunks.Goals as goal

pub returns-clause-few : goal.returns-clause-few
returns-clause-few c = omega (arith, ap (λ (o : ChunkOrder). length o.ids) c.self.view_is, chunks-number 257 c.self.inside.chunks.list.chunks.items c.self.invariant.whole.sound.filled c.self.invariant.whole.sound.thick)
