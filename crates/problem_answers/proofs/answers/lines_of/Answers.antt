use Rattle.std.proofs.Common.{◌≡◌, ◌∙◌, ℕ, Bool, List, length, map, sym, ap, subst, arith}
use Rattle.std.proofs.lemmas.List.{length-map}
use Rattle.std.specs.Prelude.{IfOk}
use Rattle.frame_cut.specs.declared.file_head.Head.{Head}
use Rattle.frame_cut.specs.Volume.{Volume}
use Rattle.trace_record.specs.Facts.{facts_of}
use Rattle.trace_record.specs.Packed.{record_in}
use Rattle.trace_record.specs.declared.packed_record.PackedRecord.{PackedRecord}
use Rattle.trace_record.specs.declared.record.Record.{Record}
use Rattle.trace_view.specs.Values.{has_floats}
use Rattle.trace_record.specs.Tally.{Same, tally_of}
use Rattle.grid_live.specs.GridKeys.{keys_of_grid}
use Rattle.grid_live.specs.OfGrid.{tally_of_grid}
use Rattle.fault_live.specs.FaultKeys.{keys_of_faults}
use Rattle.fault_live.specs.OfFaults.{tally_of_faults}
use Rattle.fault_live.specs.declared.head_facts.HeadFacts.{HeadFacts}
use Rattle.bench_rules.specs.Problems.{problems_with}
use Rattle.bench_rules.specs.Reports.{facts_of_headers, head_facts}
use Rattle.problem_answers.specs.Parts.{doubts_of}
use Rattle.problem_answers.proofs.answers.lines_of.Goals as goal

-- the same headers say the same
same_headers : (v : Volume) (h : Head) (text bin : List ℕ) → h ≡ v.head → text ≡ v.text → bin ≡ v.bin → facts_of_headers h text bin ≡ head_facts v
same_headers v h text bin e f g =
    ap (λ (x : Head). facts_of_headers x text bin) e ∙ ap (λ (x : List ℕ). facts_of_headers v.head x bin) f ∙ ap (λ (x : List ℕ). facts_of_headers v.head v.text x) g

pub problem_lines-requires-clause-few : goal.problem_lines-requires-clause-few
problem_lines-requires-clause-few c =
    let ps : List PackedRecord = c.args.overlay.now.payloads in
    let records : c.new-records.result ≡ map record_in ps = c.new-records.ensures ∙ ap (λ (l : List PackedRecord). map record_in l) c.payloads.ensures in
    omega (arith, ap (λ (l : List Record). length l) records, length-map ps record_in, c.requires.few)

pub problem_lines-requires-clause-grid : goal.problem_lines-requires-clause-grid
problem_lines-requires-clause-grid c =
    let records : c.new-records.result ≡ map record_in c.args.overlay.now.payloads = c.new-records.ensures ∙ ap (λ (l : List PackedRecord). map record_in l) c.payloads.ensures in
    subst (λ (l : List Record). Same (tally_of_grid c.args.grid.now) (tally_of keys_of_grid (map facts_of l))) (sym records) c.requires.grid

pub problem_lines-requires-clause-triples : goal.problem_lines-requires-clause-triples
problem_lines-requires-clause-triples c =
    let records : c.new-records.result ≡ map record_in c.args.overlay.now.payloads = c.new-records.ensures ∙ ap (λ (l : List PackedRecord). map record_in l) c.payloads.ensures in
    subst (λ (l : List Record). Same (tally_of_faults c.args.triples.now) (tally_of keys_of_faults (map facts_of l))) (sym records) c.requires.triples

pub returns-clause-ok : goal.returns-clause-ok
returns-clause-ok c = λ delays shots late doubts.
    let v : Volume = c.args.overlay.now.volume in
    let records : c.new-records.result ≡ map record_in c.args.overlay.now.payloads = c.new-records.ensures ∙ ap (λ (ps : List PackedRecord). map record_in ps) c.payloads.ensures in
    let head : c.head_facts-head.result ≡ head_facts v = c.head_facts-head.ensures
    ∙ same_headers v c.head.result c.text.result.now c.bin.result.now c.head.ensures c.text.ensures c.bin.ensures in
    subst (λ (h : HeadFacts). IfOk c.problem_lines.result (λ lines. lines.items ≡ problems_with h (map facts_of (map record_in c.args.overlay.now.payloads)) delays shots (has_floats v.head))) head
    (subst (λ (rs : List Record). IfOk c.problem_lines.result (λ lines. lines.items ≡ problems_with c.head_facts-head.result (map facts_of rs) delays shots (has_floats v.head))) records
    (subst (λ (b : Bool). IfOk c.problem_lines.result (λ lines. lines.items ≡ problems_with c.head_facts-head.result (map facts_of c.new-records.result) delays shots b)) c.has_float_samples-floats.ensures
    (c.problem_lines.ensures.ok delays shots late (doubts ∙ ap (λ (rs : List Record). doubts_of shots (map facts_of rs)) (sym records)))))
