use Rattle.std.proofs.Common.{arith, ◌≡◌, ◌+◌, ◌<◌, ◌≤◌, ◌∷◌, [], ℕ, suc, List, length, get_or, set, ap, ◌∙◌, add-one, length-append}
use Rattle.std.specs.List.{remove}
use Rattle.std.proofs.lemmas.List.{length-set}
use Rattle.std.proofs.lemmas.List.Edits.{get_or-remove_below}
use Rattle.trace_seq.specs.declared.chunk.Chunk.{Chunk}
use Rattle.trace_seq.specs.Chunks.{ids_of, size_at}
use Rattle.trace_seq.proofs.ChunkIdLemmas.{size-set, size-read, join-ids}
use Rattle.trace_seq.proofs.SoundLemmas.{join-at}
use Rattle.trace_seq.proofs.chunk_list.ChunkList.join.Goals as goal

-- what the chunk in front was, before the one behind it was taken out
read-first : (cs kept : List Chunk) (k : ℕ) (a : Chunk) → k + 1 < length cs → kept ≡ remove cs (k + 1) → a ≡ get_or kept k a → a ≡ get_or cs k a
read-first cs kept k a short is read = read ∙ ap (λ l. get_or l k a) is ∙ get_or-remove_below cs (k + 1) a k (omega arith) short

read-second : (cs : List Chunk) (k : ℕ) (b : Chunk) → b ≡ get_or cs (k + 1) b → b ≡ get_or cs (suc k) b
read-second cs k b read = read ∙ ap (λ i. get_or cs i b) (add-one k)

kept-set : (cs kept : List Chunk) (k : ℕ) (m : Chunk) → kept ≡ remove cs (k + 1) → set kept k m ≡ set (remove cs (suc k)) k m
kept-set cs kept k m is = ap (λ l. set l k m) is ∙ ap (λ i. set (remove cs i) k m) (add-one k)

pub join-requires-clause-fits : goal.join-requires-clause-fits
join-requires-clause-fits c =
    let cs = c.args.self.now.chunks.items in
    omega (arith, c.requires.fits, size-read cs c.args.k c.index_mut-chunk.result.now (omega (arith, c.requires.chunk)) (read-first cs c.remove-next.new.self.items c.args.k c.index_mut-chunk.result.now c.requires.chunk c.remove-next.ensures.items c.index_mut-chunk.ensures.value), size-read cs (c.args.k + 1) c.remove-next.result c.requires.chunk c.remove-next.ensures.value)

pub returns-clause-whole : goal.returns-clause-whole
returns-clause-whole c =
    let cs = c.args.self.now.chunks.items in
    let spares = c.args.self.now.spares.items in
    let first = read-first cs c.remove-next.new.self.items c.args.k c.index_mut-chunk.result.now c.requires.chunk c.remove-next.ensures.items c.index_mut-chunk.ensures.value in
    let second = read-second cs c.args.k c.remove-next.result c.remove-next.ensures.value in
    let short : suc c.args.k < length cs = omega (arith, c.requires.chunk) in
    let fits : size_at cs c.args.k + size_at cs (suc c.args.k) ≤ 512 = omega (arith, c.requires.fits, ap (size_at cs) (add-one c.args.k)) in
    let whole = kept-set cs c.remove-next.new.self.items c.args.k c.join.new.self c.remove-next.ensures.items in
    record {
      sound = rw (whole, c.push_within.ensures.items) (join-at cs c.args.k c.index_mut-chunk.result.now c.remove-next.result c.join.new.self c.join.new.next spares short first second c.requires.whole.sound fits
          c.join.ensures.ids c.join.ensures.room c.join.ensures.next_ids c.join.ensures.next_room);
      chunk_room = omega (arith, c.requires.whole.chunk_room, ap length c.push_within.ensures.items, length-append spares (c.join.new.next ∷ []), length-set c.remove-next.new.self.items c.args.k c.join.new.self);
      spare_room = omega (arith, c.requires.whole.spare_room, ap length c.push_within.ensures.items, length-append spares (c.join.new.next ∷ []), length-set c.remove-next.new.self.items c.args.k c.join.new.self);
      count = rw (whole, join-ids cs c.args.k c.index_mut-chunk.result.now c.remove-next.result c.join.new.self short first second c.join.ensures.ids) c.requires.whole.count;
    }

pub returns-clause-ids : goal.returns-clause-ids
returns-clause-ids c =
    let cs = c.args.self.now.chunks.items in
    let first = read-first cs c.remove-next.new.self.items c.args.k c.index_mut-chunk.result.now c.requires.chunk c.remove-next.ensures.items c.index_mut-chunk.ensures.value in
    let second = read-second cs c.args.k c.remove-next.result c.remove-next.ensures.value in
    ap ids_of (kept-set cs c.remove-next.new.self.items c.args.k c.join.new.self c.remove-next.ensures.items)
    ∙ join-ids cs c.args.k c.index_mut-chunk.result.now c.remove-next.result c.join.new.self (omega (arith, c.requires.chunk)) first second c.join.ensures.ids

pub returns-clause-size : goal.returns-clause-size
returns-clause-size c =
    let cs = c.args.self.now.chunks.items in
    let kept = c.remove-next.new.self.items in
    let first = read-first cs kept c.args.k c.index_mut-chunk.result.now c.requires.chunk c.remove-next.ensures.items c.index_mut-chunk.ensures.value in
    let size = size-set kept c.args.k c.join.new.self (omega (arith, c.requires.chunk)) in
    omega (arith, size, ap length c.join.ensures.ids, length-append c.index_mut-chunk.result.now.ids.items c.remove-next.result.ids.items, size-read cs c.args.k c.index_mut-chunk.result.now (omega (arith, c.requires.chunk)) first, size-read cs (c.args.k + 1) c.remove-next.result c.requires.chunk c.remove-next.ensures.value)
