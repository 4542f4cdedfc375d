use Rattle.std.proofs.Common.{◌≡◌, ℕ, ◌<◌, ◌-◌, List, [], length, get_or, ap, arith}
use Rattle.trace_store.specs.Stores.{traces_of}
use Rattle.edit_overlay.specs.Held.{volume_with}
use Rattle.edit_overlay.proofs.HeldLemmas.{held_again}
use Rattle.trace_store.proofs.LengthLemmas.{total, total-set, trace-within}
use Rattle.edit_overlay.proofs.overlay.Overlay.replace.Goals as goal

pub overflow_sub-self : goal.overflow_sub-self
overflow_sub-self g c =
    let ts : List (List ℕ) = traces_of c.self.inside.laid.store in
    let there : c.args.p - 1 < length ts = omega (arith, c.requires.first, c.requires.last, ap (λ o. length o.volume.traces) c.self.view_is) in
    let gone : c.length_of-gone.result ≡ length (get_or ts (c.args.p - 1) []) = c.length_of-gone.ensures in
    omega (arith, gone, trace-within (volume_with c.self.inside.text c.self.inside.bin c.self.inside.tail c.self.inside.laid.store) (c.args.p - 1) there, c.self.invariant.length)

pub invariant_of-self : goal.invariant_of-self
invariant_of-self g c =
    let ts : List (List ℕ) = traces_of c.self.inside.laid.store in
    let there : c.args.p - 1 < length ts = omega (arith, c.requires.first, c.requires.last, ap (λ o. length o.volume.traces) c.self.view_is) in
    let gone : c.length_of-gone.result ≡ length (get_or ts (c.args.p - 1) []) = c.length_of-gone.ensures in
    let added : length c.deref.result.now.items ≡ length c.args.bytes.value.items = ap (λ v. length v.items) c.deref.ensures in
    held_again c.self.inside c.replace.new.self _ c.self.invariant (record { head = c.replace.ensures.head; loaded = c.replace.ensures.loaded })
    (omega (arith, gone, added, c.len-added.ensures, trace-within (volume_with c.self.inside.text c.self.inside.bin c.self.inside.tail c.self.inside.laid.store) (c.args.p - 1) there, c.self.invariant.length, ap total c.replace.ensures.traces, total-set ts (c.args.p - 1) c.args.bytes.value.items there))
