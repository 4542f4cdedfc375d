use Rattle.std.proofs.Common.{◌-◌, ◌<◌, [], ◌∙◌, ℕ, List, length, map, sym, ap, subst, arith}
use Rattle.std.proofs.lemmas.List.{length-map}
use Rattle.trace_store.specs.Slots.{bytes_under, AreHeld}
use Rattle.trace_store.proofs.OrderLemmas.{map-moved}
use Rattle.trace_store.proofs.SlotLemmas.{held-moved, times-moved, length-moved}
use Rattle.trace_store.proofs.PayloadLemmas.{payloads-moved}
use Rattle.trace_store.specs.Stores.{somes, payload_under}
use Rattle.trace_store.proofs.store.TraceStore.move_to.Goals as goal

pub invariant_of-self : goal.invariant_of-self
invariant_of-self g c =
    let s = c.args.self.now in
    let short : c.args.a - 1 < length s.order.ids = omega (arith, c.requires.from_first, c.requires.from_last, length-map s.order.ids (bytes_under s.loaded.bytes s.slots)) in
    let most : c.args.b - 1 < length s.order.ids = omega (arith, c.requires.to_first, c.requires.to_last, length-map s.order.ids (bytes_under s.loaded.bytes s.slots)) in
    let ids = c.move_to.ensures.ids in
    record {
      sound = record {
        held = subst (λ (xs : List ℕ). AreHeld s.loaded s.head xs s.slots) (sym ids) (held-moved s.loaded s.head s.order.ids s.slots c.args.a c.args.b s.sound.held short);
        distinct = λ id. rw ids (omega (arith, s.sound.distinct id, times-moved id s.order.ids c.args.a c.args.b short));
        no_more = rw ids (omega (arith, s.sound.no_more, length-moved s.order.ids c.args.a c.args.b short most));
        few = rw ids (omega (arith, s.sound.few, length-moved s.order.ids c.args.a c.args.b short most));
      };
    }

pub returns-clause-traces : goal.returns-clause-traces
returns-clause-traces g c =
    let s = c.args.self.now in
    let short : c.args.a - 1 < length s.order.ids = omega (arith, c.requires.from_first, c.requires.from_last, length-map s.order.ids (bytes_under s.loaded.bytes s.slots)) in
    ap (λ (xs : List ℕ). map (bytes_under s.loaded.bytes s.slots) xs) c.move_to.ensures.ids ∙ map-moved (bytes_under s.loaded.bytes s.slots) s.order.ids c.args.a c.args.b [] short

pub returns-clause-payloads : goal.returns-clause-payloads
returns-clause-payloads g c =
    let s = c.args.self.now in
    let short : c.args.a - 1 < length s.order.ids = omega (arith, c.requires.from_first, c.requires.from_last, length-map s.order.ids (bytes_under s.loaded.bytes s.slots)) in
    ap (λ (xs : List ℕ). somes (map (payload_under s.slots) xs)) c.move_to.ensures.ids ∙ payloads-moved s.loaded s.head s.order.ids s.slots s.sound.held c.args.a c.args.b short
