use Rattle.std.proofs.Common.{◌≡◌, ◌∙◌, ap, sym, List, Bool, false, inl, map}
use Rattle.std.specs.Prelude.{Ok, Err, is_none, if◌then◌else◌}
use Rattle.sample_codes.specs.Formats.{values}
use Rattle.trace_record.specs.Packed.{record_in}
use Rattle.bench_rules.specs.declared.row.Row.{Row}
use Rattle.time_slice.proofs.PassLemmas.{rows_are_of_traces}
use Rattle.bench_rules.specs.declared.answer.Answer.TheVariants as answers
use Rattle.bench_rules.specs.declared.ask_fault.AskFault.TheVariants.{NoValues}
use Rattle.bench_rules.specs.Answer.{Reply}
use Rattle.bench_rules.specs.Reports.{slice_in}
use Rattle.time_slice.proofs.answer.slice_answer.Goals as goal

pub returns-clause-reply : goal.returns-clause-reply
returns-clause-reply c = λ s same disk sure are.
    let opaque : is_none (values s.volume.head.format) ≡ false = rw same (sym c.has_opaque_samples.ensures ∙ c.if-has_opaque_samples.false) in
    let told = rw (← same) at c.in_ok-rows.ensures.rows sure in
    inl (ap (λ (l : List Row). let r : Reply = Ok (answers.Slice l) in r)
    (c.new.ensures ∙ told ∙ rows_are_of_traces s.volume.head s.fields c.args.k (map record_in c.args.overlay.now.payloads) s.volume.traces are)
    ∙ sym (ap (λ (b : Bool). let r : Reply = if b then Err NoValues else Ok (answers.Slice (slice_in s c.args.k)) in r) opaque))
