use Rattle.std.proofs.Common.{arith, ◌≡◌, ◌++◌, ◌∷◌, [], ℕ, List, length, ap, ◌∙◌, length-append}
use Rattle.std.specs.List.{insert}
use Rattle.trace_seq.specs.Chunks.{ids_of}
use Rattle.trace_seq.proofs.ChunkIdLemmas.{joined-append, last_size-all}
use Rattle.trace_seq.proofs.SoundLemmas.{append-at, empty-last}
use Rattle.trace_seq.proofs.chunk_list.ChunkList.append_chunk.Goals as goal

-- the new chunk holds the id alone
alone : (f d : List ℕ) (id : ℕ) → f ≡ [] → d ≡ insert f 0 id → d ≡ id ∷ []
alone f d id none is = is ∙ ap (λ l. insert l 0 id) none

pub returns-clause-ids : goal.returns-clause-ids
returns-clause-ids c =
    let cs = c.args.self.now.chunks.items in
    let empty = empty-last c.args.self.now.spares.items c.take_spare-fresh.new.spares.items c.take_spare-fresh.result c.take_spare-fresh.ensures.items c.requires.whole.sound.empty in
    let one = alone c.take_spare-fresh.result.ids.items c.insert.new.self.ids.items c.args.id empty.0 c.insert.ensures.ids in
    ap ids_of c.push_within.ensures.items
    ∙ joined-append cs (c.insert.new.self ∷ [])
    ∙ ap (λ l. ids_of cs ++ (l ++ [])) one

pub returns-clause-whole : goal.returns-clause-whole
returns-clause-whole c =
    let cs = c.args.self.now.chunks.items in
    let empty = empty-last c.args.self.now.spares.items c.take_spare-fresh.new.spares.items c.take_spare-fresh.result c.take_spare-fresh.ensures.items c.requires.whole.sound.empty in
    let one = alone c.take_spare-fresh.result.ids.items c.insert.new.self.ids.items c.args.id empty.0 c.insert.ensures.ids in
    record {
      sound = rw c.push_within.ensures.items (append-at cs c.take_spare-fresh.result c.insert.new.self c.args.self.now.spares.items c.take_spare-fresh.new.spares.items c.args.id c.requires.whole.sound c.take_spare-fresh.ensures.items (last_size-all cs c.requires.full) one c.insert.ensures.room);
      chunk_room = omega (arith, c.requires.whole.chunk_room, ap length c.take_spare-fresh.ensures.items, length-append c.take_spare-fresh.new.spares.items (c.take_spare-fresh.result ∷ []), ap length c.push_within.ensures.items, length-append cs (c.insert.new.self ∷ []), c.push_within.ensures.capacity);
      spare_room = omega (arith, c.requires.whole.spare_room, ap length c.take_spare-fresh.ensures.items, length-append c.take_spare-fresh.new.spares.items (c.take_spare-fresh.result ∷ []), ap length c.push_within.ensures.items, length-append cs (c.insert.new.self ∷ []), c.take_spare-fresh.ensures.capacity);
      count = omega (arith, c.requires.whole.count, ap length (returns-clause-ids c), length-append (ids_of cs) (c.args.id ∷ []));
    }
