use Rattle.std.proofs.Common.{◌≡◌, length}
use Rattle.std.specs.Vec.Iter.{into_iter_items}
use Rattle.trace_store.specs.Stores.{payloads_of, traces_of}
use Rattle.trace_store.specs.Swapped.{with_swapped, ArePlaces}
use Rattle.trace_store.proofs.store.TraceStore.swap_each.Given as goal

-- with the pairs that are left the traces are as they are to be
abbrev pub invariant-loop-p : goal.invariant-loop-p
invariant-loop-p g l = record {
  head : l.self.head ≡ l.fn.self.head;
  loaded : l.self.loaded ≡ l.fn.self.loaded;
  places : ArePlaces (length (traces_of l.self)) (into_iter_items l.p-iterator);
  traces : with_swapped (traces_of l.self) (into_iter_items l.p-iterator) ≡ with_swapped (traces_of l.fn.self) l.fn.pairs.items;
  payloads : with_swapped (payloads_of l.self) (into_iter_items l.p-iterator) ≡ with_swapped (payloads_of l.fn.self) l.fn.pairs.items;
}
