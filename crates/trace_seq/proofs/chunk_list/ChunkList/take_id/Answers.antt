use Rattle.std.proofs.Common.{arith, ℕ, ◌+◌, ◌<◌, List, length, take, ap}
use Rattle.std.proofs.lemmas.List.{length-set}
use Rattle.std.proofs.lemmas.List.Edits.{length-remove}
use Rattle.trace_seq.specs.Chunks.{ids_of, size}
use Rattle.trace_seq.proofs.ChunkIdLemmas.{size-read, place-inside}
use Rattle.trace_seq.proofs.FrontLemmas.{set-lowered}
use Rattle.trace_seq.proofs.SoundLemmas.{take-at, take-ids}
use Rattle.trace_seq.proofs.chunk_list.ChunkList.take_id.Goals as goal

pub remove-requires-clause-within : goal.remove-requires-clause-within
remove-requires-clause-within c = omega (arith, c.requires.offset, size-read c.args.self.now.chunks.items c.args.spot.chunk c.index_mut-chunk.result.now c.requires.chunk c.index_mut-chunk.ensures.value)

pub overflow_sub-self : goal.overflow_sub-self
overflow_sub-self c = omega (arith, c.requires.whole.count, place-inside c.args.self.now.chunks.items c.args.spot.chunk c.args.spot.offset c.requires.offset)

pub returns-clause-whole : goal.returns-clause-whole
returns-clause-whole c =
    let cs = c.args.self.now.chunks.items in
    let ids = take-ids cs c.args.spot.chunk c.index_mut-chunk.result.now c.remove.new.self c.args.spot.offset c.requires.chunk c.index_mut-chunk.ensures.value c.requires.offset c.remove.ensures.ids in
    record {
      sound = take-at cs c.args.spot.chunk c.index_mut-chunk.result.now c.remove.new.self c.args.self.now.spares.items c.args.spot.offset c.requires.chunk c.index_mut-chunk.ensures.value c.requires.whole.sound c.requires.offset c.requires.others c.requires.front c.requires.back c.remove.ensures.ids c.remove.ensures.room;
      chunk_room = omega (arith, c.requires.whole.chunk_room, length-set cs c.args.spot.chunk c.remove.new.self);
      spare_room = omega (arith, c.requires.whole.spare_room, length-set cs c.args.spot.chunk c.remove.new.self);
      count = rw ids (omega (arith, c.requires.whole.count, length-remove (ids_of cs) (length (ids_of (take c.args.spot.chunk cs)) + c.args.spot.offset) (place-inside cs c.args.spot.chunk c.args.spot.offset c.requires.offset)));
    }

pub returns-clause-ids : goal.returns-clause-ids
returns-clause-ids c = take-ids c.args.self.now.chunks.items c.args.spot.chunk c.index_mut-chunk.result.now c.remove.new.self c.args.spot.offset c.requires.chunk c.index_mut-chunk.ensures.value c.requires.offset c.remove.ensures.ids

pub returns-clause-fronts : goal.returns-clause-fronts
returns-clause-fronts c =
    let cs = c.args.self.now.chunks.items in
    let old = c.index_mut-chunk.result.now in
    let inside : c.args.spot.offset < size old = omega (arith, c.requires.offset, size-read cs c.args.spot.chunk old c.requires.chunk c.index_mut-chunk.ensures.value) in
    set-lowered cs c.args.spot.chunk old c.remove.new.self c.requires.chunk c.index_mut-chunk.ensures.value (omega (arith, ap (λ (l : List ℕ). length l) c.remove.ensures.ids, length-remove old.ids.items c.args.spot.offset inside))
