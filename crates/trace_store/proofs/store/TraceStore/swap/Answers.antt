use Rattle.std.proofs.Common.{◌∙◌, Option, Some, refl, ap, sym, arith}
use Rattle.slab.specs.Slab.{slab_len}
use Rattle.trace_store.specs.declared.slot.Slot.{Slot}
use Rattle.trace_store.proofs.SlotLemmas.{contains-at, write-counts}
use Rattle.trace_store.proofs.SwapLemmas.{AreSwapped, swapped-apart, swapped-alone, held-swapped, traces-swapped, payloads-swapped}
use Rattle.trace_store.proofs.store.TraceStore.swap.Goals as goal

pub remove-slot-requires : goal.remove-slot-requires
remove-slot-requires g c =
    let s = c.args.self.now in
    contains-at s.loaded s.head s.order.ids s.slots c.args.p c.id-id.result s.sound.held c.id-id.ensures

-- two traces

module _ (g : _) (c : goal.After-insert_reserved-id g) where
  apart : AreSwapped c.args.self.now.slots c.insert_reserved-id.new.self c.id-id.result c.id-other.result c.remove-slot.result c.replace-slot.result
  apart = swapped-apart c.args.self.now.slots c.remove-slot.new.self c.insert_reserved-id.new.self c.id-id.result c.id-other.result c.insert_reserved-id.result c.remove-slot.result
      c.remove-slot.ensures.value c.remove-slot.ensures.updates (c.insert_reserved-id.ensures.key ∙ c.remove-slot.ensures.key_is_next) c.replace-slot.result c.replace-slot.new.dest
      (sym c.in-Some.ensures.value ∙ ap (λ (x : Slot g.row.T.Denot). let o : Option (Slot g.row.T.Denot) = Some x in o) (sym c.replace-slot.ensures.value)) c.replace-slot.ensures.after c.insert_reserved-id.ensures.updates

pub invariant_of-self : goal.invariant_of-self
invariant_of-self g c =
    let s = c.args.self.now in
    record {
      sound = record {
        held = held-swapped s.loaded s.head s.order.ids s.slots c.insert_reserved-id.new.self c.args.p c.args.q c.id-id.result c.id-other.result c.remove-slot.result c.replace-slot.result s.sound.held s.sound.distinct c.id-id.ensures c.id-other.ensures (apart g c);
        distinct = s.sound.distinct;
        no_more = omega (arith, s.sound.no_more, c.remove-slot.ensures.len, c.insert_reserved-id.ensures.len, write-counts c.remove-slot.new.self c.id-other.result c.in-Some.place.now c.replace-slot.new.dest (slab_len c.remove-slot.new.self) (sym c.in-Some.ensures.value) refl);
        few = s.sound.few;
      };
    }

pub returns-in-Some-clause-traces : goal.returns-in-Some-clause-traces
returns-in-Some-clause-traces g c =
    let s = c.args.self.now in
    traces-swapped s.loaded s.head s.order.ids s.slots c.insert_reserved-id.new.self c.args.p c.args.q c.id-id.result c.id-other.result c.remove-slot.result c.replace-slot.result s.sound.held s.sound.distinct c.id-id.ensures c.id-other.ensures (apart g c.before)

pub returns-in-Some-clause-payloads : goal.returns-in-Some-clause-payloads
returns-in-Some-clause-payloads g c =
    let s = c.args.self.now in
    payloads-swapped s.loaded s.head s.order.ids s.slots c.insert_reserved-id.new.self c.args.p c.args.q c.id-id.result c.id-other.result c.remove-slot.result c.replace-slot.result s.sound.held s.sound.distinct c.id-id.ensures c.id-other.ensures (apart g c.before)

-- one trace

module _ (g : _) (c : goal.After-self-in-None-3-1 g) where
  alone : AreSwapped c.args.self.now.slots c.insert_reserved-id-in-None.new.self c.id-id.result c.id-other.result c.remove-slot.result c.remove-slot.result
  alone = let s = c.args.self.now in
      swapped-alone s.slots c.remove-slot.new.self c.insert_reserved-id-in-None.new.self c.id-id.result c.id-other.result c.insert_reserved-id-in-None.result c.remove-slot.result
      c.remove-slot.ensures.value c.remove-slot.ensures.updates (c.insert_reserved-id-in-None.ensures.key ∙ c.remove-slot.ensures.key_is_next)
      (contains-at s.loaded s.head s.order.ids s.slots c.args.q c.id-other.result s.sound.held c.id-other.ensures) (sym c.in-None.ensures.value) c.insert_reserved-id-in-None.ensures.updates

pub returns-in-None-clause-traces : goal.returns-in-None-clause-traces
returns-in-None-clause-traces g c =
    let s = c.args.self.now in
    traces-swapped s.loaded s.head s.order.ids s.slots c.insert_reserved-id-in-None.new.self c.args.p c.args.q c.id-id.result c.id-other.result c.remove-slot.result c.remove-slot.result s.sound.held s.sound.distinct c.id-id.ensures c.id-other.ensures (alone g c)

pub returns-in-None-clause-payloads : goal.returns-in-None-clause-payloads
returns-in-None-clause-payloads g c =
    let s = c.args.self.now in
    payloads-swapped s.loaded s.head s.order.ids s.slots c.insert_reserved-id-in-None.new.self c.args.p c.args.q c.id-id.result c.id-other.result c.remove-slot.result c.remove-slot.result s.sound.held s.sound.distinct c.id-id.ensures c.id-other.ensures (alone g c)
