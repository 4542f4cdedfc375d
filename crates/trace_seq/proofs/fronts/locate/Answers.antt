use Rattle.std.proofs.Common.{arith, ap, vec_len}
use Rattle.trace_seq.specs.declared.chunk.Chunk.{Chunk}
use Rattle.trace_seq.proofs.ChunkIdLemmas.{size-read}
use Rattle.trace_seq.proofs.FrontLemmas.{front-more}
use Rattle.trace_seq.proofs.fronts.locate.Goals as goal

pub returns-then-left-size-clause-offset : goal.returns-then-left-size-clause-offset
returns-then-left-size-clause-offset c = omega (arith, c.if-left-size.true, c.len-size.ensures, c.index-chunks-k.result.ids.ok, ap (λ (x : Chunk). vec_len x.ids) c.index-chunks-k.is, size-read c.args.chunks.now c.loop-k.k c.index-chunks-k.result c.loop-k-test.true c.index-chunks-k.is)

pub loop-k-preserved : goal.loop-k-preserved
loop-k-preserved c =
    omega (arith, c.if-left-size.false, c.len-size.ensures, c.index-chunks-k.result.ids.ok, ap (λ (x : Chunk). vec_len x.ids) c.index-chunks-k.is, c.loop-k.invariant, size-read c.args.chunks.now c.loop-k.k c.index-chunks-k.result c.loop-k-test.true c.index-chunks-k.is, front-more c.args.chunks.now c.loop-k.k c.loop-k-test.true)
