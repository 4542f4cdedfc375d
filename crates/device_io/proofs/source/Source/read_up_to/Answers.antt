use Rattle.std.proofs.Common.{arith, ◌++◌, take, length-append}
use Rattle.std.proofs.lemmas.List.{length-take}
use Rattle.device_io.specs.Growth.{Consumes_more}
use Rattle.device_io.proofs.source.Source.read_up_to.Goals as goal

pub returns-then-is_err-clause-refused : goal.returns-then-is_err-clause-refused
returns-then-is_err-clause-refused g c = record {
  bytes = c.turns.bytes.items ++ take c.in-Ok.count c.read.new.buf;
  taken = Consumes_more _ _ _ _ _ c.turns.invariant.3 c.in-Ok.ensures.bytes.0;
  no_fewer = grind (arith, length-append, length-take);
  no_more = grind (arith, length-append, length-take);
}
