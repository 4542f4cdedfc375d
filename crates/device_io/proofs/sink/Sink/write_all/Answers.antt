use Rattle.std.proofs.Common.{arith, length-drop, ◌∙◌}
use Rattle.std.proofs.lemmas.List.{take_rest}
use Rattle.device_io.specs.Growth.{Appends_next}
use Rattle.device_io.proofs.sink.Sink.write_all.Goals as goal

pub turns-preserved : goal.turns-preserved
turns-preserved g c = (
  grind (arith, length-drop),
  c.in-Ok.ensures.failures ∙ c.turns.invariant.1,
  Appends_next _ _ _ c.args.bytes.now c.turns.at c.in-Ok.count c.turns.invariant.2 (rw take_rest at c.in-Ok.ensures.bytes),
)
