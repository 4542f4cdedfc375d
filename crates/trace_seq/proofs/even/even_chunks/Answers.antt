use Rattle.std.proofs.Common.{arith, ap, vec_len}
use Rattle.trace_seq.specs.declared.chunk.Chunk.{Chunk}
use Rattle.trace_seq.proofs.ChunkIdLemmas.{size-read}
use Rattle.trace_seq.proofs.FrontLemmas.{even-longer}
use Rattle.trace_seq.proofs.even.even_chunks.Goals as goal

pub loop-k-preserved : goal.loop-k-preserved
loop-k-preserved c =
    let cs = c.args.chunks.now in
    even-longer cs c.loop-k.k c.loop-k-test.true c.loop-k.invariant (omega (arith, c.if-len-ne-FILL.false, c.len.ensures, c.index-chunks-k.result.ids.ok, ap (λ (x : Chunk). vec_len x.ids) c.index-chunks-k.is, size-read cs c.loop-k.k c.index-chunks-k.result c.loop-k-test.true c.index-chunks-k.is))
