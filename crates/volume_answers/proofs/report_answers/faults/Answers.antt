use Rattle.std.proofs.Common.{List, ap, ◌∙◌, inl, sym, subst, map}
use Rattle.std.specs.Prelude.{Ok}
use Rattle.trace_record.specs.Facts.{Facts, facts_of}
use Rattle.trace_record.specs.Tally.{Same, tally_of}
use Rattle.fault_live.specs.FaultKeys.{keys_of_faults}
use Rattle.fault_live.specs.OfFaults.{tally_of_faults}
use Rattle.fault_live.specs.declared.fault.Fault.{Fault}
use Rattle.fault_live.specs.declared.head_facts.HeadFacts.{HeadFacts}
use Rattle.fault_live.specs.Faults.{faults_of}
use Rattle.bench_rules.specs.declared.answer.Answer.TheVariants as answers
use Rattle.bench_rules.specs.Answer.{Reply}
use Rattle.bench_rules.specs.Reports.{head_facts}
use Rattle.bench_rules.proofs.LiveLemmas.{wants_memory}
use Rattle.volume_answers.proofs.report_answers.faults.Goals as goal

pub returns-in_err-report-clause-reply : goal.returns-in_err-report-clause-reply
returns-in_err-report-clause-reply c = λ s live are head. wants_memory s c.from_residual.result c.from_residual.ensures.1

pub returns-clause-reply : goal.returns-clause-reply
returns-clause-reply c = λ s live are head.
    let counted : Same (tally_of_faults c.args.triples.now) (tally_of keys_of_faults (map facts_of c.args.records.now)) = subst (λ (fs : List Facts). Same (tally_of_faults c.args.triples.now) (tally_of keys_of_faults fs)) (sym are) live in
    inl (ap (λ (l : List Fault). let r : Reply = Ok (answers.Faults l) in r)
    (c.new.ensures ∙ c.in_ok-report.ensures.faults counted ∙ ap (λ (h : HeadFacts). faults_of h (map facts_of c.args.records.now)) head ∙ ap (λ (fs : List Facts). faults_of (head_facts s.volume) fs) are))
