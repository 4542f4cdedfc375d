use Rattle.std.proofs.Common.{◌≡◌, ◌∙◌, ℕ, sym, subst, ap, List, map}
use Rattle.frame_cut.specs.declared.file_head.Head.{Head}
use Rattle.frame_cut.specs.Volume.{Volume}
use Rattle.trace_record.specs.Packed.{record_in}
use Rattle.trace_record.specs.declared.packed_record.PackedRecord.{PackedRecord}
use Rattle.trace_record.specs.declared.record.Record.{Record}
use Rattle.bench_rules.specs.Live.{AreRecordsOf}
use Rattle.bench_rules.specs.Reports.{facts_of_headers, head_facts}
use Rattle.volume_answers.proofs.sample_answers.faults_answer.Goals as goal

-- the same headers say the same to the faults
same_headers : (v : Volume) (h : Head) (text bin : List ℕ) → h ≡ v.head → text ≡ v.text → bin ≡ v.bin → facts_of_headers h text bin ≡ head_facts v
same_headers v h text bin e f g =
    ap (λ (x : Head). facts_of_headers x text bin) e ∙ ap (λ (x : List ℕ). facts_of_headers v.head x bin) f ∙ ap (λ (x : List ℕ). facts_of_headers v.head v.text x) g

pub returns-clause-reply : goal.returns-clause-reply
returns-clause-reply c = λ s same are live.
    let records : c.new.result ≡ map record_in c.args.overlay.now.payloads = c.new.ensures ∙ ap (λ (ps : List PackedRecord). map record_in ps) c.payloads.ensures in
    let held : AreRecordsOf s c.new.result = subst (λ (rs : List Record). AreRecordsOf s rs) (sym records) are in
    let head : c.head_facts-head.result ≡ head_facts s.volume = c.head_facts-head.ensures
    ∙ same_headers c.args.overlay.now.volume c.head.result c.text.result.now c.bin.result.now c.head.ensures c.text.ensures c.bin.ensures
    ∙ ap (λ (v : Volume). head_facts v) (sym same) in
    c.faults.ensures.reply s live held head
