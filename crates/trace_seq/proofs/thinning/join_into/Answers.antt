use Rattle.std.proofs.Common.{◌++◌, ◌-◌, length, get_or, set, ap, sym, ◌∙◌, arith, refl}
use Rattle.std.specs.Vec.{vec_capacity}
use Rattle.trace_seq.specs.declared.chunk.Chunk.{Chunk}
use Rattle.trace_seq.proofs.SettleLemmas.{Joined, pair-of, settled-joined}
use Rattle.trace_seq.proofs.thinning.join_into.Goals as goal

pub join-requires-clause-fits : goal.join-requires-clause-fits
join-requires-clause-fits c =
    let p = pair-of c.args.chunks.now c.args.kept c.args.k c.requires.settled c.split_at_mut-front.result.0.now c.split_at_mut-front.result.1.now c.index-front-kept.result c.index-back-0.result c.requires.chunk c.requires.some c.split_at_mut-front.ensures.front c.split_at_mut-front.ensures.back c.index-front-kept.is c.index-back-0.is in
    omega (arith, c.requires.fits, p.first_size, p.second_size, ap (λ (x : Chunk). length x.ids.items) c.index-front-kept.is, ap (λ (x : Chunk). length x.ids.items) c.index-back-0.is)

pub join-requires-clause-room : goal.join-requires-clause-room
join-requires-clause-room c =
    let p = pair-of c.args.chunks.now c.args.kept c.args.k c.requires.settled c.split_at_mut-front.result.0.now c.split_at_mut-front.result.1.now c.index-front-kept.result c.index-back-0.result c.requires.chunk c.requires.some c.split_at_mut-front.ensures.front c.split_at_mut-front.ensures.back c.index-front-kept.is c.index-back-0.is in
    omega (arith, p.filled.2, ap (λ (x : Chunk). vec_capacity x.ids) c.index-front-kept.is)

pub returns-clause-settled : goal.returns-clause-settled
returns-clause-settled c =
    let a = c.index-front-kept.result in
    let d = c.index-back-0.result in
    let a-is = c.index-front-kept.is in
    let d-is = c.index-back-0.is in
    let p = pair-of c.args.chunks.now c.args.kept c.args.k c.requires.settled c.split_at_mut-front.result.0.now c.split_at_mut-front.result.1.now a d c.requires.chunk c.requires.some c.split_at_mut-front.ensures.front c.split_at_mut-front.ensures.back a-is d-is in
    let j : Joined a d c.join.new.self c.join.new.next = record {
      is = c.join.ensures.ids ∙ (ap (λ (x : Chunk). x.ids.items ++ (get_or c.split_at_mut-front.result.1.now 0 d).ids.items) (sym a-is) ∙ ap (λ (x : Chunk). a.ids.items ++ x.ids.items) (sym d-is));
      room = c.join.ensures.room;
      none = c.join.ensures.next_ids;
      room_left = c.join.ensures.next_room;
    } in
    (settled-joined c.args.chunks.now (set c.split_at_mut-front.result.0.now (c.args.kept - 1) c.join.new.self ++ set c.split_at_mut-front.result.1.now 0 c.join.new.next) c.args.kept c.args.k c.requires.settled c.split_at_mut-front.result.0.now c.split_at_mut-front.result.1.now a d c.join.new.self c.join.new.next p c.requires.fits j refl).0

pub returns-clause-same : goal.returns-clause-same
returns-clause-same c =
    let a = c.index-front-kept.result in
    let d = c.index-back-0.result in
    let a-is = c.index-front-kept.is in
    let d-is = c.index-back-0.is in
    let p = pair-of c.args.chunks.now c.args.kept c.args.k c.requires.settled c.split_at_mut-front.result.0.now c.split_at_mut-front.result.1.now a d c.requires.chunk c.requires.some c.split_at_mut-front.ensures.front c.split_at_mut-front.ensures.back a-is d-is in
    let j : Joined a d c.join.new.self c.join.new.next = record {
      is = c.join.ensures.ids ∙ (ap (λ (x : Chunk). x.ids.items ++ (get_or c.split_at_mut-front.result.1.now 0 d).ids.items) (sym a-is) ∙ ap (λ (x : Chunk). a.ids.items ++ x.ids.items) (sym d-is));
      room = c.join.ensures.room;
      none = c.join.ensures.next_ids;
      room_left = c.join.ensures.next_room;
    } in
    (settled-joined c.args.chunks.now (set c.split_at_mut-front.result.0.now (c.args.kept - 1) c.join.new.self ++ set c.split_at_mut-front.result.1.now 0 c.join.new.next) c.args.kept c.args.k c.requires.settled c.split_at_mut-front.result.0.now c.split_at_mut-front.result.1.now a d c.join.new.self c.join.new.next p c.requires.fits j refl).1
