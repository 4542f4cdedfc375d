use Rattle.std.proofs.Common.{◌/◌, arith, ap, vec_len}
use Rattle.trace_seq.specs.declared.chunk.Chunk.{Chunk}
use Rattle.trace_seq.proofs.ChunkIdLemmas.{size-read}
use Rattle.trace_seq.proofs.even.find_even.Goals as goal

pub returns-clause-offset : goal.returns-clause-offset
returns-clause-offset c =
    omega (arith, c.if-offset-len.false, c.len.ensures, c.index-chunks-chunk.result.ids.ok, ap (λ (x : Chunk). vec_len x.ids) c.index-chunks-chunk.is, size-read c.args.chunks.now (c.args.place / 384) c.index-chunks-chunk.result (omega (arith, c.if-chunk-chunks.false)) c.index-chunks-chunk.is)
