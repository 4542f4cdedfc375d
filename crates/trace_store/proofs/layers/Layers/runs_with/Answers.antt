use Rattle.std.proofs.Common.{◌≡◌, length, sym, ◌∙◌}
use Rattle.std.proofs.lemmas.Bool.{eqb-true}
use Rattle.std.proofs.lemmas.List.{nil_from_length}
use Rattle.trace_store.specs.Slots.{size_of}
use Rattle.trace_store.proofs.OneRunLemmas.{if_ok, one-fits, one-shows}
use Rattle.trace_store.proofs.layers.Layers.runs_with.Goals as goal

pub returns-then-is_empty-clause-fit : goal.returns-then-is_empty-clause-fit
returns-then-is_empty-clause-fit c =
    if_ok c.one.result (λ list is. one-fits (size_of c.args.self.now.base) c.args.at c.args.bytes.now list is c.requires.some c.requires.inside) c.one.ensures.contents

pub returns-then-is_empty-clause-bytes : goal.returns-then-is_empty-clause-bytes
returns-then-is_empty-clause-bytes c =
    let none : length c.runs.result.now ≡ 0 = eqb-true (length c.runs.result.now) 0 (sym c.is_empty.ensures ∙ c.if-is_empty.true) in
    if_ok c.one.result (λ list is. one-shows (size_of c.args.self.now.base) c.args.at c.args.bytes.now c.args.self.now.runs list (sym c.runs.ensures ∙ nil_from_length c.runs.result.now none) is) c.one.ensures.contents
