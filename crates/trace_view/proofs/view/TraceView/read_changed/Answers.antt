use Rattle.std.proofs.Common.{length}
use Rattle.trace_view.specs.Shown.{bytes_of}
use Rattle.trace_view.proofs.FrontLemmas.{changed-front}
use Rattle.trace_view.proofs.view.TraceView.read_changed.Goals as goal

pub returns : goal.returns
returns c =
    changed-front (bytes_of c.args.self.now) c.args.bytes.now c.read.new.out c.lay_over.new.front (length c.args.front.now) c.args.at c.requires.front c.requires.inside c.read.ensures c.lay_over.ensures
