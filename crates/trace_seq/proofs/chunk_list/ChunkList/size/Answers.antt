use Rattle.std.proofs.Common.{arith}
use Rattle.trace_seq.proofs.ChunkIdLemmas.{size-read}
use Rattle.trace_seq.proofs.chunk_list.ChunkList.size.Goals as goal

pub returns-clause-size : goal.returns-clause-size
returns-clause-size c = omega (arith, size-read c.args.self.now.chunks.items c.args.k c.index.result.now c.requires.chunk c.index.ensures)
