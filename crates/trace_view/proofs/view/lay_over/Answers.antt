use Rattle.std.proofs.Common.{arith}
use Rattle.trace_view.proofs.FrontLemmas.{laid-front}
use Rattle.trace_view.proofs.view.lay_over.Goals as goal

pub returns-then-at-front : goal.returns-then-at-front
returns-then-at-front c =
    laid-front c.args.front.now c.args.bytes.now c.copy_from_slice.new.self c.args.at _ c.min-end.result c.if-at-front.true c.min-end.ensures (omega arith) c.copy_from_slice.ensures.after
