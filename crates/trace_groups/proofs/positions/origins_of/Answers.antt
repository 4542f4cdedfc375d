use Rattle.std.proofs.Common.{◌∙◌, ◌++◌, List, [], ◌∷◌, sym, ap, subst, arith, map, append_assoc, length-append}
use Rattle.trace_record.specs.Facts.{facts_of}
use Rattle.trace_record.specs.declared.record.Record.{Record}
use Rattle.trace_groups.specs.OfOrigins.{AreOf}
use Rattle.trace_groups.specs.Suspects.{origins, cell_of}
use Rattle.trace_groups.proofs.OriginLemmas.{cells_more}
use Rattle.trace_groups.proofs.positions.origins_of.Goals as goal

pub loop-trace-preserved-then-is_at_origin : goal.loop-trace-preserved-then-is_at_origin
loop-trace-preserved-then-is_at_origin c =
    let h = c.loop-trace.invariant in
    let ys = c.loop-trace.yielded in
    let x = c.in-Some.trace in
    let added = subst (λ k. AreOf (map cell_of (origins (map facts_of ys)) ++ k ∷ []) c.add.new.self) c.cell_of.ensures (c.add.ensures.cells (map cell_of (origins (map facts_of ys))) h.2) in
    let count = length-append ys (x ∷ []) in (
      append_assoc ys (x ∷ []) c.next.new.self ∙ ap (λ (l : List Record). ys ++ l) (sym c.in-Some.ensures.steps) ∙ h.0,
      omega (arith, count, h.1, c.add.ensures.count),
      subst (λ l. AreOf l c.add.new.self) (cells_more ys x (sym c.is_at_origin.ensures ∙ c.if-is_at_origin.true)) added,
    )
