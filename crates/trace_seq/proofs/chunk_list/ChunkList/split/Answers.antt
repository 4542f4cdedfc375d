use Rattle.std.proofs.Common.{arith, ◌≡◌, ◌+◌, ◌∷◌, [], ℕ, suc, List, length, set, ap, ◌∙◌, add-one, length-append}
use Rattle.std.specs.List.{insert}
use Rattle.std.proofs.lemmas.List.{length-set, length-take-le, length-drop}
use Rattle.std.proofs.lemmas.List.Edits.{length-insert}
use Rattle.trace_seq.specs.declared.chunk.Chunk.{Chunk}
use Rattle.trace_seq.specs.Chunks.{ids_of}
use Rattle.trace_seq.proofs.ChunkIdLemmas.{size-read, split-ids, split-take, split-first, split-second}
use Rattle.trace_seq.proofs.SoundLemmas.{split-at, empty-last}
use Rattle.trace_seq.proofs.chunk_list.ChunkList.split.Goals as goal

-- the chunks with the second half behind the first
halved : (cs made : List Chunk) (k : ℕ) (a b : Chunk) → made ≡ insert (set cs k a) (k + 1) b → made ≡ insert (set cs k a) (suc k) b
halved cs made k a b is = is ∙ ap (λ i. insert (set cs k a) i b) (add-one k)

pub halve-requires-clause-full : goal.halve-requires-clause-full
halve-requires-clause-full c = omega (arith, c.requires.full, size-read c.args.self.now.chunks.items c.args.k c.index_mut-chunk.result.now c.requires.chunk c.index_mut-chunk.ensures.value)

pub halve-requires-clause-empty : goal.halve-requires-clause-empty
halve-requires-clause-empty c = (empty-last c.args.self.now.spares.items c.take_spare-fresh.new.spares.items c.take_spare-fresh.result c.take_spare-fresh.ensures.items c.requires.whole.sound.empty).0

pub halve-requires-clause-fresh_room : goal.halve-requires-clause-fresh_room
halve-requires-clause-fresh_room c = (empty-last c.args.self.now.spares.items c.take_spare-fresh.new.spares.items c.take_spare-fresh.result c.take_spare-fresh.ensures.items c.requires.whole.sound.empty).1

pub returns-clause-whole : goal.returns-clause-whole
returns-clause-whole c =
    let cs = c.args.self.now.chunks.items in
    let made = halved cs c.insert_within.new.list.items c.args.k c.halve.new.self c.halve.new.fresh c.insert_within.ensures.items in
    record {
      sound = rw made (split-at cs c.args.k c.index_mut-chunk.result.now c.halve.new.self c.halve.new.fresh c.take_spare-fresh.result c.args.self.now.spares.items c.take_spare-fresh.new.spares.items c.requires.chunk c.index_mut-chunk.ensures.value c.requires.whole.sound c.take_spare-fresh.ensures.items c.requires.full c.halve.ensures.ids c.halve.ensures.room c.halve.ensures.fresh_ids c.halve.ensures.fresh_room);
      chunk_room = omega (arith, c.requires.whole.chunk_room, ap length c.take_spare-fresh.ensures.items, length-append c.take_spare-fresh.new.spares.items (c.take_spare-fresh.result ∷ []), ap length c.insert_within.ensures.items, length-insert (set cs c.args.k c.halve.new.self) (c.args.k + 1) c.halve.new.fresh (omega (arith, c.requires.chunk, length-set cs c.args.k c.halve.new.self)), length-set cs c.args.k c.halve.new.self, c.insert_within.ensures.capacity);
      spare_room = omega (arith, c.requires.whole.spare_room, ap length c.take_spare-fresh.ensures.items, length-append c.take_spare-fresh.new.spares.items (c.take_spare-fresh.result ∷ []), ap length c.insert_within.ensures.items, length-insert (set cs c.args.k c.halve.new.self) (c.args.k + 1) c.halve.new.fresh (omega (arith, c.requires.chunk, length-set cs c.args.k c.halve.new.self)), length-set cs c.args.k c.halve.new.self, c.take_spare-fresh.ensures.capacity);
      count = rw (made, split-ids cs c.args.k c.index_mut-chunk.result.now c.halve.new.self c.halve.new.fresh c.requires.chunk c.index_mut-chunk.ensures.value c.halve.ensures.ids c.halve.ensures.fresh_ids) c.requires.whole.count;
    }

pub returns-clause-ids : goal.returns-clause-ids
returns-clause-ids c =
    let cs = c.args.self.now.chunks.items in
    ap ids_of (halved cs c.insert_within.new.list.items c.args.k c.halve.new.self c.halve.new.fresh c.insert_within.ensures.items)
    ∙ split-ids cs c.args.k c.index_mut-chunk.result.now c.halve.new.self c.halve.new.fresh c.requires.chunk c.index_mut-chunk.ensures.value c.halve.ensures.ids c.halve.ensures.fresh_ids

pub returns-clause-behind : goal.returns-clause-behind
returns-clause-behind c =
    let cs = c.args.self.now.chunks.items in
    let made = halved cs c.insert_within.new.list.items c.args.k c.halve.new.self c.halve.new.fresh c.insert_within.ensures.items in
    let first = ap length c.halve.ensures.ids ∙ length-take-le 256 c.index_mut-chunk.result.now.ids.items (omega (arith, c.requires.full, size-read cs c.args.k c.index_mut-chunk.result.now c.requires.chunk c.index_mut-chunk.ensures.value)) in
    rw (add-one, made) (omega (arith, split-take cs c.args.k c.halve.new.self c.halve.new.fresh c.requires.chunk, first))

pub returns-clause-first : goal.returns-clause-first
returns-clause-first c =
    let cs = c.args.self.now.chunks.items in
    let made = halved cs c.insert_within.new.list.items c.args.k c.halve.new.self c.halve.new.fresh c.insert_within.ensures.items in
    let first = ap length c.halve.ensures.ids ∙ length-take-le 256 c.index_mut-chunk.result.now.ids.items (omega (arith, c.requires.full, size-read cs c.args.k c.index_mut-chunk.result.now c.requires.chunk c.index_mut-chunk.ensures.value)) in
    rw made (omega (arith, split-first cs c.args.k c.halve.new.self c.halve.new.fresh c.requires.chunk, first))

pub returns-clause-second : goal.returns-clause-second
returns-clause-second c =
    let cs = c.args.self.now.chunks.items in
    let made = halved cs c.insert_within.new.list.items c.args.k c.halve.new.self c.halve.new.fresh c.insert_within.ensures.items in
    rw (add-one, made) (omega (arith, split-second cs c.args.k c.halve.new.self c.halve.new.fresh c.requires.chunk, ap length c.halve.ensures.fresh_ids, length-drop 256 c.index_mut-chunk.result.now.ids.items, c.requires.full, size-read cs c.args.k c.index_mut-chunk.result.now c.requires.chunk c.index_mut-chunk.ensures.value))
