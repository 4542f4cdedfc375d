use Rattle.std.proofs.Common.{sym}
use Rattle.trace_view.proofs.WrittenLemmas.{length-written}
use Rattle.trace_view.proofs.overlaid.Overlaid.length.Goals as goal

pub returns : goal.returns
returns c = sym (length-written c.args.self.now.base.now c.args.self.now.runs.now c.args.self.now.fit)
