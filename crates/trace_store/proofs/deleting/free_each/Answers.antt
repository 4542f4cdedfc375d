use Rattle.std.proofs.Common.{sym}
use Rattle.trace_store.proofs.OutLemmas.{freed-none, freed-there, freed-one, freed-past}
use Rattle.trace_store.proofs.deleting.free_each.Goals as goal
use Rattle.trace_store.proofs.deleting.free_each.Goals.{in-Some, in_default}

pub loop-p-init : goal.loop-p-init
loop-p-init g c = freed-none c.args.slots.now c.args.order.now.ids

pub free-requires : goal.free-requires
free-requires g c = freed-there c.args.slots.now c.loop-p.slots c.args.order.now.ids c.args.positions.now c.loop-p.p-index c.loop-p.invariant c.requires.rising c.loop-p-test.true c.in-Some.id (sym c.in-Some.ensures.id) c.requires.held

pub loop-p-preserved : goal.loop-p-preserved
loop-p-preserved g c = elim c.match-get.branch [
  | in-Some w ↦ rw w.slots-is (freed-one c.args.slots.now c.loop-p.slots c.args.order.now.ids c.args.positions.now c.loop-p.p-index c.loop-p.invariant c.requires.rising c.loop-p-test.true w.free.new.slots w.in-Some.id c.requires.distinct (sym w.in-Some.ensures.id) w.free.ensures.updates w.free.ensures.len)
  | in_default w ↦ rw w.slots-is (freed-past c.args.slots.now c.loop-p.slots c.args.order.now.ids c.args.positions.now c.loop-p.p-index c.loop-p.invariant c.requires.rising c.loop-p-test.true (sym w.in_default.ensures.id))
]
