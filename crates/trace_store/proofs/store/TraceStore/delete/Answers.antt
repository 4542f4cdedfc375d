use Rattle.std.proofs.Common.{◌≡◌, ◌-◌, ◌<◌, ◌∙◌, ℕ, List, length, map, sym, ap, subst, arith}
use Rattle.std.specs.List.{remove}
use Rattle.std.proofs.lemmas.List.{length-map}
use Rattle.std.proofs.lemmas.List.Edits.{length-remove}
use Rattle.trace_seq.specs.Order.{times, AreDistinct}
use Rattle.trace_seq.proofs.TimeLemmas.{distinct-remove}
use Rattle.trace_store.specs.Slots.{bytes_under, AreHeld}
use Rattle.trace_store.proofs.SlotLemmas.{contains-at, absent-removed, held-removed, traces-removed}
use Rattle.trace_store.proofs.PayloadLemmas.{payloads-removed, payload-found}
use Rattle.trace_store.specs.Stores.{somes, payload_under}
use Rattle.trace_store.proofs.store.TraceStore.delete.Goals as goal

pub remove-requires-2 : goal.remove-requires-2
remove-requires-2 g c =
    let s = c.args.self.now in
    contains-at s.loaded s.head s.order.ids s.slots c.args.p c.id-id.result s.sound.held c.id-id.ensures

pub invariant_of-self : goal.invariant_of-self
invariant_of-self g c =
    let s = c.args.self.now in
    let short : c.args.p - 1 < length s.order.ids = omega (arith, c.requires.first, c.requires.last, length-map s.order.ids (bytes_under s.loaded.bytes s.slots)) in
    let ids : c.remove.new.self.ids ≡ remove s.order.ids (c.args.p - 1) = c.remove.ensures.ids in
    let absent : times c.id-id.result (remove s.order.ids (c.args.p - 1)) ≡ 0 = absent-removed s.order.ids c.args.p c.id-id.result s.sound.distinct c.id-id.ensures in
    record {
      sound = record {
        held = subst (λ (xs : List ℕ). AreHeld s.loaded s.head xs c.remove-2.new.self) (sym ids) (held-removed s.loaded s.head s.order.ids s.slots c.remove-2.new.self (c.args.p - 1) c.id-id.result s.sound.held c.remove-2.ensures.updates short absent);
        distinct = subst AreDistinct (sym ids) (distinct-remove s.order.ids (c.args.p - 1) short s.sound.distinct);
        no_more = rw ids (omega (arith, s.sound.no_more, c.remove-2.ensures.len, length-remove s.order.ids (c.args.p - 1) short));
        few = rw ids (omega (arith, s.sound.few, length-remove s.order.ids (c.args.p - 1) short));
      };
    }

pub returns-clause-traces : goal.returns-clause-traces
returns-clause-traces g c =
    let s = c.args.self.now in
    let absent : times c.id-id.result (remove s.order.ids (c.args.p - 1)) ≡ 0 = absent-removed s.order.ids c.args.p c.id-id.result s.sound.distinct c.id-id.ensures in
    ap (λ (xs : List ℕ). map (bytes_under s.loaded.bytes c.remove-2.new.self) xs) c.remove.ensures.ids
    ∙ traces-removed s.loaded.bytes s.order.ids s.slots c.remove-2.new.self (c.args.p - 1) c.id-id.result absent c.remove-2.ensures.updates

pub returns-clause-payloads : goal.returns-clause-payloads
returns-clause-payloads g c =
    let s = c.args.self.now in
    let absent : times c.id-id.result (remove s.order.ids (c.args.p - 1)) ≡ 0 = absent-removed s.order.ids c.args.p c.id-id.result s.sound.distinct c.id-id.ensures in
    ap (λ (xs : List ℕ). somes (map (payload_under c.remove-2.new.self) xs)) c.remove.ensures.ids
    ∙ payloads-removed s.loaded s.head s.order.ids s.slots s.sound.held c.remove-2.new.self (c.args.p - 1) c.id-id.result absent c.remove-2.ensures.updates

pub returns-clause-payload : goal.returns-clause-payload
returns-clause-payload g c =
    let s = c.args.self.now in
    payload-found s.loaded s.head s.order.ids s.slots s.sound.held c.args.p c.id-id.result c.remove-2.result c.id-id.ensures c.remove-2.ensures.value
