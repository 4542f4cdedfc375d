use Rattle.std.proofs.Common.{arith, ◌-◌, length, drop, length-take}
use Rattle.safe_save.proofs.WriteLemmas.{Appends-next}
use Rattle.safe_save.proofs.buffered.write_out.Goals as goal

pub loop-written-preserved : goal.loop-written-preserved
loop-written-preserved g c =
    let done = c.loop-written.written in
    let waiting = c.args.waiting.now in
    let within = c.in-Ok.ensures.bound in
    let most = length-take (length waiting - done) (drop done waiting) in
    (omega arith, Appends-next _ _ _ done c.in-Ok.count waiting within c.loop-written.invariant.1 c.in-Ok.ensures.bytes)
