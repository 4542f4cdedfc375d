use Rattle.std.proofs.Common.{◌≡◌, ◌≤◌, ◌-◌, length, drop, arith}
use Rattle.std.proofs.lemmas.List.{length-drop, length-take-le}
use Rattle.trace_view.proofs.StepLemmas.{length-read, part_read}
use Rattle.trace_view.proofs.cursor.Cursor.read.Goals as goal

pub loop-done-preserved : goal.loop-done-preserved
loop-done-preserved c =
    let l = c.loop-done in
    let inv = l.invariant in
    let some = c.read_some-done in
    let long = length-drop l.done l.out in
    let left = length l.out - l.done in
    let old = length-take-le left (drop l.done l.out) (omega (arith, long)) in
    let size : length some.new.out ≡ left = omega (arith, some.ensures.size, old) in
    let less : some.result ≤ left = omega (arith, some.ensures.within, old) in
    let room : length l.out ≤ length c.args.self.now = omega (arith, inv.size, c.requires) in
    let k = part_read c.args.self.now l.out some.new.out l.self some.new.self l.done some.result inv.within room size less inv.left inv.read some.ensures.read some.ensures.rest in
    let same = length-read l.out some.new.out l.done inv.within size in
    record { within = omega (arith, same, less, inv.within); size = omega (arith, same, inv.size); left = k.0; read = k.1 }
