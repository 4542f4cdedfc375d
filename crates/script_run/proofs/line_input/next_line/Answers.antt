use Rattle.std.proofs.Common.{◌∙◌, Bool, length, length-append, sym, subst, arith}
use Rattle.std.proofs.lemmas.Bool.{eqb-true}
use Rattle.script_run.specs.Input.{WaitsOrEnds, IsPartTaken}
use Rattle.script_run.proofs.InputLemmas.{at_end, last, ends, goes_on, kept_front}
use Rattle.script_run.proofs.line_input.next_line.Goals as goal

pub returns-in-Ok-false-clause-next : goal.returns-in-Ok-false-clause-next
returns-in-Ok-false-clause-next g c =
    let end = subst (λ (b : Bool). WaitsOrEnds b c.has_more.new.ahead (g.S.Read.remaining c.has_more.new.source.inner)) c.in-Ok-false.field-0-test c.in-Ok-false.ensures.more in
    at_end _ _ _ _ end.0 (kept_front _ _ _ _ c.parts.invariant.0 c.in-Ok-false.ensures.kept) end.1 (λ line h. eqb-true (length line) 0 (sym (c.is_empty.ensures line h) ∙ c.if-is_empty.true))

pub returns-in-Ok-false-2-clause-next : goal.returns-in-Ok-false-2-clause-next
returns-in-Ok-false-2-clause-next g c =
    let end = subst (λ (b : Bool). WaitsOrEnds b c.has_more.new.ahead (g.S.Read.remaining c.has_more.new.source.inner)) c.in-Ok-false.field-0-test c.in-Ok-false.ensures.more in
    last _ _ _ _ end.0 (kept_front _ _ _ _ c.parts.invariant.0 c.in-Ok-false.ensures.kept) end.1 (λ line h. sym c.if-is_empty.false ∙ c.is_empty.ensures line h)

pub returns-then-take_part-clause-next : goal.returns-then-take_part-clause-next
returns-then-take_part-clause-next g c =
    let t = subst (λ (b : Bool). IsPartTaken c.has_more.new.ahead c.take_part.new.self c.parts.line c.take_part.new.line b) c.if-take_part.true c.take_part.ensures.part in
    ends _ _ _ _ t.0 _ _ (kept_front _ _ _ _ c.parts.invariant.0 c.in-Ok-true.ensures.kept) t.1 t.2

pub parts-preserved : goal.parts-preserved
parts-preserved g c =
    let t = subst (λ (b : Bool). IsPartTaken c.has_more.new.ahead c.take_part.new.self c.parts.line c.take_part.new.line b) c.if-take_part.false c.take_part.ensures.part in
    let some = subst (λ (b : Bool). WaitsOrEnds b c.has_more.new.ahead (g.S.Read.remaining c.has_more.new.source.inner)) c.in-Ok-true.field-0-test c.in-Ok-true.ensures.more in (
      goes_on _ _ _ _ t.0 _ _ (kept_front _ _ _ _ c.parts.invariant.0 c.in-Ok-true.ensures.kept) t.1 t.2,
      omega (arith, c.parts.invariant.1, some, length-append c.parts.invariant.0.part c.has_more.new.ahead),
      c.in-Ok-true.ensures.failures ∙ c.parts.invariant.2,
      c.take_part.ensures.lost _ c.parts.invariant.4 c.parts.invariant.3,
      omega (arith, c.take_part.ensures.never_falls, c.parts.invariant.4),
    )
