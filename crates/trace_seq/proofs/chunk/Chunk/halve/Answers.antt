use Rattle.std.proofs.Common.{◌-◌, ◌++◌, length, take, drop, arith, ◌∙◌, ap}
use Rattle.std.proofs.lemmas.List.{take_all, length-drop}
use Rattle.trace_seq.proofs.chunk.Chunk.halve.Goals as goal

pub returns-clause-fresh_ids : goal.returns-clause-fresh_ids
returns-clause-fresh_ids c =
    c.in-Ok.ensures.items
    ∙ ap (λ l. l ++ take (length c.deref.result.now - 256) (drop 256 c.deref.result.now)) c.requires.empty
    ∙ take_all (length c.deref.result.now - 256) (drop 256 c.deref.result.now) (omega (arith, length-drop 256 c.deref.result.now))
    ∙ ap (drop 256) c.deref.ensures.value
