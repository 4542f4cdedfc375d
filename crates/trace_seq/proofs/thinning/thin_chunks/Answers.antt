use Rattle.std.proofs.Common.{rules, ℕ, ◌≡◌, ◌<◌, ◌+◌, ◌-◌, ◌^◌, List, length, take, drop, get_or, ap, sym, ◌∙◌, subst, arith}
use Rattle.std.specs.Vec.{vec_capacity}
use Rattle.std.proofs.Common.{vec_len}
use Rattle.std.proofs.lemmas.List.{take_all, length-drop}
use Rattle.trace_seq.specs.declared.chunk.Chunk.{Chunk}
use Rattle.trace_seq.specs.Order.{times}
use Rattle.trace_seq.specs.Chunks.{size}
use Rattle.trace_seq.specs.Without.{without_from, AreRising}
use Rattle.trace_seq.proofs.ThinChunkLemmas.{thinned-step, behind-fits, same-size}
use Rattle.trace_seq.proofs.thinning.thin_chunks.Goals as goal

pub thin-taken-requires-clause-fits : goal.thin-taken-requires-clause-fits
thin-taken-requires-clause-fits c =
    let r = c.index-chunks-k-in-loop-k.result in
    omega (arith, c.requires.few, ap (λ (x : Chunk). length x.ids.items) c.index-chunks-k-in-loop-k.is, behind-fits c.args.chunks.now c.loop-k.chunks c.args.positions.now c.loop-k.first c.loop-k.k c.loop-k.taken r c.loop-k.invariant c.loop-k-test.true c.index-chunks-k-in-loop-k.is)

pub overflow_add-first : goal.overflow_add-first
overflow_add-first c =
    let r = c.index-chunks-k.result in
    let low : c.loop-k.first + c.len-size.result < 2 ^ 33 = omega (arith, c.requires.few, c.len-size.ensures, r.ids.ok, ap (λ (x : Chunk). vec_len x.ids) c.index-chunks-k.is, behind-fits c.args.chunks.now c.loop-k.chunks c.args.positions.now c.loop-k.first c.loop-k.k c.loop-k.taken r c.loop-k.invariant c.loop-k-test.true c.index-chunks-k.is) in
    search rules

pub loop-k-preserved : goal.loop-k-preserved
loop-k-preserved c =
    let r = c.index-chunks-k-in-loop-k.result in
    let is = c.index-chunks-k-in-loop-k.is in
    let e = c.thin-taken.ensures in
    let d : Chunk = record { ids = c.thin-taken.new.ids } in
    let long : length (get_or c.loop-k.chunks c.loop-k.k r).ids.items ≡ size r = ap (λ (x : Chunk). length x.ids.items) (sym is) in
    let at : c.loop-k.first + c.len-size.result ≡ c.loop-k.first + size r = omega (arith, c.len-size.ensures, c.index-chunks-k.result.ids.ok, r.ids.ok, ap (λ (x : Chunk). vec_len x.ids) c.index-chunks-k.is, ap (λ (x : Chunk). length x.ids.items) c.index-chunks-k.is, ap (λ (x : Chunk). length x.ids.items) is, same-size c.loop-k.chunks c.loop-k.k c.index-chunks-k.result r (omega (arith, c.loop-k-test.true, c.loop-k.invariant.long)) c.index-chunks-k.is is) in
    let cut : take (length c.args.positions.now - c.loop-k.taken) (drop c.loop-k.taken c.args.positions.now) ≡ drop c.loop-k.taken c.args.positions.now = take_all (length c.args.positions.now - c.loop-k.taken) (drop c.loop-k.taken c.args.positions.now) (omega (arith, length-drop c.loop-k.taken c.args.positions.now)) in
    rw at (thinned-step c.args.chunks.now c.loop-k.chunks c.args.positions.now c.loop-k.first c.loop-k.k c.loop-k.taken c.thin-taken.result r d c.loop-k.invariant c.loop-k-test.true is
    (e.ids ∙ (ap (λ (x : Chunk). without_from c.loop-k.first x.ids.items (take (length c.args.positions.now - c.loop-k.taken) (drop c.loop-k.taken c.args.positions.now))) (sym is) ∙ ap (without_from c.loop-k.first r.ids.items) cut))
    (omega (arith, e.taken, long))
    (omega (arith, e.within, ap (λ (l : List ℕ). length l) cut))
    (subst (λ (l : List ℕ). AreRising (c.loop-k.first + size r) (drop c.thin-taken.result l)) cut (subst (λ n. AreRising (c.loop-k.first + n) (drop c.thin-taken.result (take (length c.args.positions.now - c.loop-k.taken) (drop c.loop-k.taken c.args.positions.now)))) long e.rest))
    (λ p le. ap (λ (l : List ℕ). times p (drop c.thin-taken.result l)) (sym cut) ∙ (e.same p (omega (arith, le, long)) ∙ ap (times p) cut))
    (omega (arith, e.room, ap (λ (x : Chunk). vec_capacity x.ids) is)))
