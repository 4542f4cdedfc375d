use Rattle.std.proofs.Common.{arith, ◌≡◌, ◌+◌, ◌<◌, ◌∷◌, [], ℕ, List, length, get_or, take, ap, ◌∙◌, length-append}
use Rattle.std.specs.List.{remove}
use Rattle.std.proofs.lemmas.List.Edits.{length-remove}
use Rattle.trace_seq.specs.declared.chunk.Chunk.{Chunk}
use Rattle.trace_seq.specs.Chunks.{ids_of, size_at, size}
use Rattle.trace_seq.proofs.ChunkIdLemmas.{size-read, place-inside, none-left, drop-ids}
use Rattle.trace_seq.proofs.SoundLemmas.{drop-at}
use Rattle.trace_seq.proofs.chunk_list.ChunkList.drop_chunk.Goals as goal

emptied : (cs : List Chunk) (k : ℕ) (c e : Chunk) → k < length cs → c ≡ get_or cs k c → size_at cs k ≡ 1 → e.ids.items ≡ remove c.ids.items 0 → e.ids.items ≡ []
emptied cs k c e short read one is =
    let here = size-read cs k c short read in
    let shorter : length e.ids.items + 1 ≡ size c = ap (λ l. length l + 1) is ∙ length-remove c.ids.items 0 (omega arith) in
    none-left e.ids.items (omega arith)

pub returns-clause-whole : goal.returns-clause-whole
returns-clause-whole c =
    let cs = c.args.self.now.chunks.items in
    let none = emptied cs c.args.k c.remove-chunk.result c.remove.new.self c.requires.chunk c.remove-chunk.ensures.value c.requires.alone c.remove.ensures.ids in
    let ids = drop-ids cs c.args.k c.remove-chunk.result c.remove.new.self c.requires.chunk c.remove-chunk.ensures.value c.requires.alone c.remove.ensures.ids none in
    let inside : length (ids_of (take c.args.k cs)) < length (ids_of cs) = omega (arith, place-inside cs c.args.k 0 (omega (arith, c.requires.alone))) in
    record {
      sound = rw (c.remove-chunk.ensures.items, c.push_within.ensures.items) (drop-at cs c.args.k c.remove-chunk.result c.remove.new.self c.args.self.now.spares.items c.requires.chunk c.remove-chunk.ensures.value c.requires.whole.sound c.requires.alone none c.remove.ensures.room);
      chunk_room = omega (arith, c.requires.whole.chunk_room, ap length c.push_within.ensures.items, length-append c.args.self.now.spares.items (c.remove.new.self ∷ []));
      spare_room = omega (arith, c.requires.whole.spare_room, ap length c.push_within.ensures.items, length-append c.args.self.now.spares.items (c.remove.new.self ∷ []));
      count = rw (c.remove-chunk.ensures.items, ids) (omega (arith, c.requires.whole.count, length-remove (ids_of cs) (length (ids_of (take c.args.k cs))) inside));
    }

pub returns-clause-ids : goal.returns-clause-ids
returns-clause-ids c =
    let cs = c.args.self.now.chunks.items in
    let none = emptied cs c.args.k c.remove-chunk.result c.remove.new.self c.requires.chunk c.remove-chunk.ensures.value c.requires.alone c.remove.ensures.ids in
    rw c.remove-chunk.ensures.items (drop-ids cs c.args.k c.remove-chunk.result c.remove.new.self c.requires.chunk c.remove-chunk.ensures.value c.requires.alone c.remove.ensures.ids none)
