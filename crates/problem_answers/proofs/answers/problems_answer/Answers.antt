use Rattle.std.proofs.Common.{◌≡◌, ◌∙◌, Bool, List, map, ap, inl, sym}
use Rattle.std.specs.Prelude.{Ok}
use Rattle.field_map.specs.Pairs.{Pairs}
use Rattle.frame_cut.specs.Volume.{Volume}
use Rattle.trace_record.specs.Facts.{Facts, facts_of}
use Rattle.trace_record.specs.Packed.{record_in}
use Rattle.trace_record.specs.declared.packed_record.PackedRecord.{PackedRecord}
use Rattle.trace_view.specs.Values.{has_floats}
use Rattle.bench_rules.specs.declared.answer.Answer.TheVariants as answers
use Rattle.bench_rules.specs.declared.problem_line.ProblemLine.{ProblemLine}
use Rattle.bench_rules.specs.Answer.{Reply}
use Rattle.bench_rules.specs.Problems.{delays_of, is_shot_file, problems_in, problems_with}
use Rattle.bench_rules.specs.Reports.{head_facts, records}
use Rattle.problem_answers.specs.Parts.{doubts_of, late_of}
use Rattle.problem_answers.proofs.ReplyLemmas.{told, wants_memory}
use Rattle.problem_answers.proofs.answers.problems_answer.Goals as goal

pub returns-in-Err-clause-reply : goal.returns-in-Err-clause-reply
returns-in-Err-clause-reply c = λ s same mapped disk sure are. wants_memory s c.in-Err.fault c.in-Err.ensures.err

pub returns-in-Err-late_traces-clause-reply : goal.returns-in-Err-late_traces-clause-reply
returns-in-Err-late_traces-clause-reply c = λ s same mapped disk sure are. told s c.in-Err-late_traces.fault (rw (same, disk) c.in-Err-late_traces.ensures.err)

pub returns-in-Ok-lines_of-clause-reply : goal.returns-in-Ok-lines_of-clause-reply
returns-in-Ok-lines_of-clause-reply c = λ s same mapped disk sure are.
    let seen = c.in-Ok-late_traces.ensures.seen in
    let shots : Bool = c.is_shot_file-shots.result in
    let late : c.as_slice.result.now ≡ late_of (delays_of s.volume) = c.as_slice.ensures.value ∙ c.in-Ok-late_traces.ensures.ok sure ∙ ap (λ (v : Volume). late_of (delays_of v)) (sym same) in
    let doubts : c.as_slice-2.result.now ≡ doubts_of shots (map facts_of (map record_in c.late_traces.new.overlay.payloads)) = c.as_slice-2.ensures.value ∙ c.in-Ok.ensures.ok
    ∙ ap (λ (ps : List PackedRecord). doubts_of shots (map facts_of (map record_in ps))) (sym seen.payloads) in
    let told : c.new.result ≡ problems_in s = c.new.ensures ∙ c.in-Ok-lines_of.ensures.ok (delays_of s.volume) shots late doubts
    ∙ ap (λ (v : Volume). problems_with (head_facts v) (map facts_of (map record_in c.late_traces.new.overlay.payloads)) (delays_of s.volume) shots (has_floats v.head)) (seen.volume ∙ sym same)
    ∙ ap (λ (ps : List PackedRecord). problems_with (head_facts s.volume) (map facts_of (map record_in ps)) (delays_of s.volume) shots (has_floats s.volume.head)) seen.payloads
    ∙ ap (λ (fs : List Facts). problems_with (head_facts s.volume) fs (delays_of s.volume) shots (has_floats s.volume.head)) are
    ∙ ap (λ (b : Bool). problems_with (head_facts s.volume) (records s) (delays_of s.volume) b (has_floats s.volume.head)) (c.is_shot_file-shots.ensures ∙ ap (λ (fs : Pairs). is_shot_file fs) (sym mapped)) in
    inl (ap (λ (l : List ProblemLine). let r : Reply = Ok (answers.Problems l) in r) told)

pub returns-clause-reply : goal.returns-clause-reply
returns-clause-reply c = λ s same mapped disk sure are. wants_memory s c.in-Err-lines_of.fault c.in-Err-lines_of.ensures.err
