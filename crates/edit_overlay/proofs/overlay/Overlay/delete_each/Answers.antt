use Rattle.std.proofs.Common.{◌≡◌, ℕ, ◌<◌, ◌≤◌, ◌^◌, List, [], length, ap, arith}
use Rattle.frame_cut.specs.Volume.{Volume, bytes_of}
use Rattle.trace_store.specs.Stores.{traces_of}
use Rattle.trace_store.proofs.LengthLemmas.{total, length-with}
use Rattle.trace_seq.proofs.TogetherLemmas.{together}
use Rattle.edit_overlay.specs.Held.{volume_with}
use Rattle.edit_overlay.proofs.HeldLemmas.{held_again}
use Rattle.edit_overlay.proofs.overlay.Overlay.delete_each.Goals as goal

-- traces are no longer together than their file
traces-within : (v : Volume) → total v.traces ≤ length (bytes_of v)
traces-within v = omega (arith, length-with v [])

pub length_of_each-gone-requires-clause-small : goal.length_of_each-gone-requires-clause-small
length_of_each-gone-requires-clause-small g c =
    omega (arith, traces-within (volume_with c.self.inside.text c.self.inside.bin c.self.inside.tail c.self.inside.laid.store), c.self.invariant.length)

pub overflow_sub-self : goal.overflow_sub-self
overflow_sub-self g c =
    omega (arith, c.length_of_each-gone.ensures, traces-within (volume_with c.self.inside.text c.self.inside.bin c.self.inside.tail c.self.inside.laid.store), c.self.invariant.length)

pub invariant_of-self : goal.invariant_of-self
invariant_of-self g c =
    held_again c.self.inside c.delete_each.new.self _ c.self.invariant (record { head = c.delete_each.ensures.head; loaded = c.delete_each.ensures.loaded })
    (omega (arith, c.length_of_each-gone.ensures, ap total c.delete_each.ensures.traces, traces-within (volume_with c.self.inside.text c.self.inside.bin c.self.inside.tail c.self.inside.laid.store), c.self.invariant.length))

pub returns-clause-one_by_one : goal.returns-clause-one_by_one
returns-clause-one_by_one g c = together c.args.self.now.volume.traces c.args.traces.now c.requires.rising

pub returns-clause-payloads_one_by_one : goal.returns-clause-payloads_one_by_one
returns-clause-payloads_one_by_one g c = together c.args.self.now.payloads c.args.traces.now c.requires.rising
