use Rattle.std.proofs.Common.{◌∷◌, [], List, length, ap, sym, ◌∙◌, subst, arith, length-append}
use Rattle.std.specs.List.{AllByRecursion}
use Rattle.trace_seq.specs.declared.chunk.Chunk.{Chunk}
use Rattle.trace_seq.specs.Chunks.{IsEmpty}
use Rattle.trace_seq.proofs.ChunkIdLemmas.{each-append}
use Rattle.trace_seq.proofs.SettleLemmas.{poured}
use Rattle.trace_seq.proofs.thinning.pour.Goals as goal

pub loop-preserved : goal.loop-preserved
loop-preserved c =
    let i = c.loop.invariant in
    let left = c.take_spare-chunk.new.spares.items in
    let e = c.take_spare-chunk.result in
    let is = c.take_spare-chunk.ensures.items in
    let more = c.push_within.ensures.items in
    let long = length-append left (e ∷ []) in
    let p = poured c.args.kept c.loop.chunks.items left c.loop.spares.items e is (omega (arith, i.turns, c.loop-test.true, c.len-end.ensures, c.args.chunks.now.ok, ap (λ (l : List Chunk). length l) is, long)) i.none in
    record {
      turns = omega (arith, i.turns, ap (λ (l : List Chunk). length l) is, long);
      after = omega (arith, i.after);
      front = p.0 ∙ i.front;
      none = p.1.0;
      empty = subst (AllByRecursion IsEmpty) (sym more) (each-append IsEmpty c.loop.spares.items (e ∷ []) i.empty (p.1.1, tt));
      all = omega (arith, i.all, ap (λ (l : List Chunk). length l) is, ap (λ (l : List Chunk). length l) more, long, length-append c.loop.spares.items (e ∷ []));
      chunk_room = omega (arith, i.chunk_room, c.take_spare-chunk.ensures.capacity);
      spare_room = omega (arith, i.spare_room, c.push_within.ensures.capacity);
    }
