use Rattle.std.proofs.Common.{ℕ, ◌≡◌, ◌+◌, List, length, ap, ◌∙◌, arith}
use Rattle.trace_seq.specs.Chunks.{ids_of}
use Rattle.trace_seq.proofs.ThinChunkLemmas.{thinned-long, thinned-roomy}
use Rattle.trace_seq.proofs.SettleLemmas.{settled-end}
use Rattle.trace_seq.proofs.chunk_list.ChunkList.remove_each.Goals as goal

pub settle_all-kept-requires : goal.settle_all-kept-requires
settle_all-kept-requires c =
    let h = c.thin_all-taken.ensures.thinned in
    record { roomy = thinned-roomy c.args.self.now.chunks.items c.thin_all-taken.new.chunks.items h c.requires.whole.sound.filled }

pub pour-requires-clause-kept : goal.pour-requires-clause-kept
pour-requires-clause-kept c = (settled-end c.settle_all-kept.new.chunks.items c.settle_all-kept.result c.settle_all-kept.ensures.settled).within

pub pour-requires-clause-none : goal.pour-requires-clause-none
pour-requires-clause-none c = (settled-end c.settle_all-kept.new.chunks.items c.settle_all-kept.result c.settle_all-kept.ensures.settled).none

pub pour-requires-clause-room : goal.pour-requires-clause-room
pour-requires-clause-room c =
    let h = c.thin_all-taken.ensures.thinned in
    omega (arith, c.settle_all-kept.ensures.same.long, thinned-long c.args.self.now.chunks.items c.thin_all-taken.new.chunks.items h, c.requires.whole.spare_room)

pub returns-clause-ids : goal.returns-clause-ids
returns-clause-ids c =
    let end = settled-end c.settle_all-kept.new.chunks.items c.settle_all-kept.result c.settle_all-kept.ensures.settled in
    ap ids_of c.pour.ensures.chunks ∙ (end.ids ∙ (c.settle_all-kept.ensures.same.ids ∙ c.thin_all-taken.ensures.ids))

pub returns-clause-whole : goal.returns-clause-whole
returns-clause-whole c =
    let s = c.args.self.now in
    let h = c.thin_all-taken.ensures.thinned in
    let settled = c.settle_all-kept.ensures.settled in
    let end = settled-end c.settle_all-kept.new.chunks.items c.settle_all-kept.result settled in
    let front = c.pour.ensures.chunks in
    let total : length c.pour.new.chunks.items + length c.pour.new.spares.items ≡ length s.chunks.items + length s.spares.items = omega (arith, c.pour.ensures.all, c.settle_all-kept.ensures.same.long, thinned-long s.chunks.items c.thin_all-taken.new.chunks.items h) in
    let same : ids_of c.pour.new.chunks.items ≡ ids_of c.settle_all-kept.new.chunks.items = ap ids_of front ∙ end.ids in
    record {
      sound = record {
        filled = rw front end.filled;
        empty = c.pour.ensures.empty;
        thick = rw front end.thick;
      };
      chunk_room = omega (arith, total, c.requires.whole.chunk_room, c.pour.ensures.chunk_room, c.settle_all-kept.ensures.capacity, c.thin_all-taken.ensures.capacity);
      spare_room = omega (arith, total, c.requires.whole.spare_room, c.pour.ensures.spare_room);
      count = omega (arith, c.requires.whole.count, ap (λ (l : List ℕ). length l) same, ap (λ (l : List ℕ). length l) c.settle_all-kept.ensures.same.ids, c.thin_all-taken.ensures.taken);
    }

pub returns-clause-all : goal.returns-clause-all
returns-clause-all c =
    omega (arith, c.pour.ensures.all, c.settle_all-kept.ensures.same.long, thinned-long c.args.self.now.chunks.items c.thin_all-taken.new.chunks.items c.thin_all-taken.ensures.thinned)
