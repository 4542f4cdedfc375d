use Rattle.std.proofs.Common.{◌≡◌, ℕ, List, map, sym, ap, ◌∙◌, subst, arith}
use Rattle.trace_seq.specs.Order.{AreDistinct}
use Rattle.trace_seq.specs.Without.{without_each}
use Rattle.trace_seq.proofs.ThinLemmas.{times-without, without-long}
use Rattle.trace_store.specs.Slots.{bytes_under, AreHeld}
use Rattle.trace_store.specs.Stores.{somes, payload_under}
use Rattle.trace_store.proofs.OutLemmas.{held-without, traces-without}
use Rattle.trace_store.proofs.PayloadLemmas.{payloads-without}
use Rattle.trace_store.proofs.store.TraceStore.delete_each.Goals as goal

pub invariant_of-self : goal.invariant_of-self
invariant_of-self g c =
    let s = c.args.self.now in
    let traces = c.args.traces.now in
    let ids : c.remove_each.new.self.ids ≡ without_each s.order.ids traces = c.remove_each.ensures.ids in
    let shorter = without-long 1 s.order.ids traces in
    let distinct : AreDistinct (without_each s.order.ids traces) = λ id. omega (arith, times-without id 1 s.order.ids traces, s.sound.distinct id) in
    record {
      sound = record {
        held = subst (λ (xs : List ℕ). AreHeld s.loaded s.head xs c.free_each.new.slots) (sym ids) (held-without s.loaded s.head s.order.ids traces s.slots c.free_each.new.slots s.sound.held c.free_each.ensures.stay);
        distinct = subst AreDistinct (sym ids) distinct;
        no_more = rw ids (omega (arith, s.sound.no_more, c.free_each.ensures.freed));
        few = rw ids (omega (arith, s.sound.few, shorter));
      };
    }

pub returns-clause-traces : goal.returns-clause-traces
returns-clause-traces g c =
    let s = c.args.self.now in
    ap (λ (xs : List ℕ). map (bytes_under s.loaded.bytes c.free_each.new.slots) xs) c.remove_each.ensures.ids
    ∙ traces-without s.loaded.bytes s.order.ids c.args.traces.now s.slots c.free_each.new.slots c.free_each.ensures.stay

pub returns-clause-payloads : goal.returns-clause-payloads
returns-clause-payloads g c =
    let s = c.args.self.now in
    ap (λ (xs : List ℕ). somes (map (payload_under c.free_each.new.slots) xs)) c.remove_each.ensures.ids
    ∙ payloads-without s.loaded s.head s.order.ids s.slots s.sound.held c.free_each.new.slots c.args.traces.now c.free_each.ensures.stay
