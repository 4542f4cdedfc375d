use Rattle.std.proofs.Common.{arith, ℕ, ◌+◌, ◌≤◌, List, length, take, ap}
use Rattle.std.proofs.lemmas.List.{length-set}
use Rattle.std.proofs.lemmas.List.Edits.{length-insert}
use Rattle.trace_seq.specs.Chunks.{ids_of, size}
use Rattle.trace_seq.proofs.ChunkIdLemmas.{size-read, place-within}
use Rattle.trace_seq.proofs.FrontLemmas.{set-raised}
use Rattle.trace_seq.proofs.SoundLemmas.{put-at, put-ids}
use Rattle.trace_seq.proofs.chunk_list.ChunkList.put.Goals as goal

pub insert-requires-clause-within : goal.insert-requires-clause-within
insert-requires-clause-within c = omega (arith, c.requires.offset, size-read c.args.self.now.chunks.items c.args.spot.chunk c.index_mut-chunk.result.now c.requires.chunk c.index_mut-chunk.ensures.value)

pub insert-requires-clause-few : goal.insert-requires-clause-few
insert-requires-clause-few c = omega (arith, c.requires.room, size-read c.args.self.now.chunks.items c.args.spot.chunk c.index_mut-chunk.result.now c.requires.chunk c.index_mut-chunk.ensures.value)

pub returns-clause-whole : goal.returns-clause-whole
returns-clause-whole c =
    let cs = c.args.self.now.chunks.items in
    let ids = put-ids cs c.args.spot.chunk c.index_mut-chunk.result.now c.insert.new.self c.args.spot.offset c.args.id c.requires.chunk c.index_mut-chunk.ensures.value c.requires.offset c.insert.ensures.ids in
    record {
      sound = put-at cs c.args.spot.chunk c.index_mut-chunk.result.now c.insert.new.self c.args.self.now.spares.items c.args.spot.offset c.args.id c.requires.chunk c.index_mut-chunk.ensures.value c.requires.whole.sound c.requires.offset c.requires.room c.insert.ensures.ids c.insert.ensures.room;
      chunk_room = omega (arith, c.requires.whole.chunk_room, length-set cs c.args.spot.chunk c.insert.new.self);
      spare_room = omega (arith, c.requires.whole.spare_room, length-set cs c.args.spot.chunk c.insert.new.self);
      count = rw ids (omega (arith, c.requires.whole.count, length-insert (ids_of cs) (length (ids_of (take c.args.spot.chunk cs)) + c.args.spot.offset) c.args.id (place-within cs c.args.spot.chunk c.args.spot.offset c.requires.offset)));
    }

pub returns-clause-ids : goal.returns-clause-ids
returns-clause-ids c = put-ids c.args.self.now.chunks.items c.args.spot.chunk c.index_mut-chunk.result.now c.insert.new.self c.args.spot.offset c.args.id c.requires.chunk c.index_mut-chunk.ensures.value c.requires.offset c.insert.ensures.ids

pub returns-clause-fronts : goal.returns-clause-fronts
returns-clause-fronts c =
    let cs = c.args.self.now.chunks.items in
    let old = c.index_mut-chunk.result.now in
    let within : c.args.spot.offset ≤ size old = omega (arith, c.requires.offset, size-read cs c.args.spot.chunk old c.requires.chunk c.index_mut-chunk.ensures.value) in
    set-raised cs c.args.spot.chunk old c.insert.new.self c.requires.chunk c.index_mut-chunk.ensures.value (omega (arith, ap (λ (l : List ℕ). length l) c.insert.ensures.ids, length-insert old.ids.items c.args.spot.offset c.args.id within))
