use Rattle.std.proofs.Common.{◌∙◌, codes, sym}
use Rattle.chosen_traces.proofs.RecordLemmas.{named_there, sequence_there}
use Rattle.chosen_traces.proofs.record_tests.record_number.Goals as goal

pub returns-then-is_one_number-clause-term : goal.returns-then-is_one_number-clause-term
returns-then-is_one_number-clause-term c = λ h t.
    named_there h c.args.map.now.pairs t (codes "inline") c.args.place c.geometry-geometry.result.inline c.geometry-geometry.ensures.inline.0 (sym c.is_one_number.ensures ∙ c.if-is_one_number.true)

pub returns-then-is_one_number-2-clause-term : goal.returns-then-is_one_number-2-clause-term
returns-then-is_one_number-2-clause-term c = λ h t.
    named_there h c.args.map.now.pairs t (codes "crossline") c.args.place c.geometry-geometry.result.crossline c.geometry-geometry.ensures.crossline.0 (sym c.is_one_number-else-is_one_number.ensures ∙ c.if-is_one_number-2.true)

pub returns-then-is_one_number-3-clause-term : goal.returns-then-is_one_number-3-clause-term
returns-then-is_one_number-3-clause-term c = λ h t.
    named_there h c.args.map.now.pairs t (codes "offset") c.args.place c.geometry-geometry.result.offset c.geometry-geometry.ensures.offset.0 (sym c.is_one_number-else-is_one_number-2.ensures ∙ c.if-is_one_number-3.true)

pub returns-then-is_one_number-4-clause-term : goal.returns-then-is_one_number-4-clause-term
returns-then-is_one_number-4-clause-term c = λ h t. sequence_there h t c.args.place (sym c.is_one_number-else-is_one_number-3.ensures ∙ c.if-is_one_number-4.true)
