use Rattle.std.proofs.Common.{sym}
use Rattle.frame_cut.proofs.walk.length_here.Goals as goal

pub returns-in-Some : goal.returns-in-Some
returns-in-Some c = sym (c.requires.fixed c.in-Some.length c.in-Some.is c.args.front.now)
