use Rattle.std.proofs.Common.{◌≡◌, ℕ, List, length, map, ap, arith}
use Rattle.trace_store.specs.Slots.{bytes_under}
use Rattle.trace_store.specs.Stores.{traces_of}
use Rattle.trace_store.proofs.AheadLemmas.{ready_move}
use Rattle.trace_store.proofs.store.TraceStore.prepare_move.Goals as goal

pub returns-clause-ready : goal.returns-clause-ready
returns-clause-ready g c =
    let s = c.args.self.now in
    let count : length (map (bytes_under s.loaded.bytes s.slots) c.reserve_one.new.self.ids) ≡ length (traces_of s) = ap (λ (xs : List ℕ). length (map (bytes_under s.loaded.bytes s.slots) xs)) c.reserve_one.ensures.ids in
    ready_move _ c.args.a c.args.b (record {
      from_first = c.requires.from_first;
      from_last = omega (arith, c.requires.from_last, count);
      to_first = c.requires.to_first;
      to_last = omega (arith, c.requires.to_last, count);
    }) c.in_ok-reserve_one.ensures.spare
