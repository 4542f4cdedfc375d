use Rattle.std.proofs.Common.{arith, ap, sym, ◌∙◌, ◌<◌, Some}
use Rattle.std.proofs.lemmas.Option.{slice_get-get_or}
use Rattle.trace_seq.specs.Chunks.{size}
use Rattle.trace_seq.proofs.ChunkIdLemmas.{size-read, get-joined}
use Rattle.trace_seq.proofs.chunk_list.ChunkList.id_at.Goals as goal

pub index-requires-2 : goal.index-requires-2
index-requires-2 c = omega (arith, c.requires.offset, size-read c.args.self.now.chunks.items c.args.spot.chunk c.index.result.now c.requires.chunk c.index.ensures)

pub returns : goal.returns
returns c =
    let cs = c.args.self.now.chunks.items in
    let chunk = c.index.result.now in
    let fits : c.args.spot.offset < size chunk = omega (arith, c.requires.offset, size-read cs c.args.spot.chunk chunk c.requires.chunk c.index.ensures) in
    get-joined cs c.args.spot.chunk c.args.spot.offset chunk c.requires.chunk c.index.ensures fits
    ∙ slice_get-get_or chunk.ids.items c.args.spot.offset c.index-2.result.now fits
    ∙ ap Some (sym c.index-2.ensures)
