use Rattle.std.proofs.Common.{◌≡◌, ◌∙◌, ℕ, ◌+◌, ◌-◌, ◌/◌, ◌<◌, ◌≤◌, IsTrue, List, [], ap, sym, subst, length, map, take, drop, get_or, rules, arith}
use Rattle.std.specs.Prelude.{not}
use Rattle.std.proofs.lemmas.List.{drop-map, take-map}
use Rattle.field_map.specs.Pairs.{Pairs}
use Rattle.frame_cut.specs.Cuts.{IsCut}
use Rattle.frame_cut.specs.Parts.{with_each}
use Rattle.frame_cut.specs.Traces.{count_of}
use Rattle.frame_cut.specs.Volume.{Volume, bytes_of}
use Rattle.trace_record.specs.Facts.{Facts, facts_of}
use Rattle.trace_record.specs.OfTrace.{record_of}
use Rattle.trace_record.specs.declared.record.Record.{Record}
use Rattle.trace_record.specs.Packed.{record_in}
use Rattle.edit_overlay.specs.CountedVolume.{CountedVolume}
use Rattle.edit_overlay.specs.Reads.{Reads, Follow, HaveAgreed}
use Rattle.trace_record.specs.declared.packed_record.PackedRecord.{PackedRecord}
use Rattle.live_reports.specs.Exchanged.{same_cells}
use Rattle.volume_records.specs.OfVolume.{AreHeaderParts, headers_of}
use Rattle.volume_records.proofs.EachLemmas.{length-put_each, made_so}
use Rattle.live_volume.specs.Held.{state_of, records_in}
use Rattle.bench_rules.specs.State.{State}
use Rattle.live_volume.proofs.EditLemmas as edit
use Rattle.live_volume.proofs.ManyTracesLemmas.{AreTheirRecords, cells_stay, their_records}
use Rattle.live_volume.proofs.live_volume.LiveVolume.put_each.Goals as goal

pub prepare_put_each-requires-clause-inside : goal.prepare_put_each-requires-clause-inside
prepare_put_each-requires-clause-inside c = rw (← c.self.view_is) at c.requires.inside

pub prepare_put_each-requires-clause-last : goal.prepare_put_each-requires-clause-last
prepare_put_each-requires-clause-last c =
    let last : c.args.a - 1 + c.args.count ≤ count_of c.self.inside.overlay.volume = rw (← c.self.view_is) at c.requires.last in
    omega (arith, last, c.requires.count)

pub prepare_put_each-requires-clause-whole : goal.prepare_put_each-requires-clause-whole
prepare_put_each-requires-clause-whole c = λ k less sure.
    let parts : HaveAgreed c.self.inside.overlay.reads → AreHeaderParts c.self.inside.overlay.volume c.args.a c.args.at c.args.size c.args.bytes.now = rw (← c.self.view_is) at c.requires.parts in
    (parts sure).whole k less

pub prepared_records-requires-clause-last : goal.prepared_records-requires-clause-last
prepared_records-requires-clause-last c =
    let v : Volume = c.self.inside.overlay.volume in
    let last : c.args.a - 1 + c.args.count ≤ count_of v = rw (← c.self.view_is) at c.requires.last in
    let w : Volume = with_each v c.args.a c.args.at c.args.size c.args.bytes.now in
    let prep : c.prepare_put_each.new.self.prepared ≡ w = ap (λ (o : CountedVolume PackedRecord). o.prepared) c.in_ok-prepare_put_each.ensures.ok in
    let many : count_of c.prepare_put_each.new.self.prepared ≡ count_of v = ap (λ (u : Volume). count_of u) prep ∙ length-put_each v.traces (c.args.a - 1) c.args.at c.args.size c.args.bytes.now in
    omega (arith, many, last)

pub prepared_records-requires-clause-held : goal.prepared_records-requires-clause-held
prepared_records-requires-clause-held c =
    let last : c.args.a - 1 + c.args.count ≤ count_of c.self.inside.overlay.volume = rw (← c.self.view_is) at c.requires.last in
    omega (arith, ap (λ (o : CountedVolume PackedRecord). count_of o.volume) c.in_ok-prepare_put_each.ensures.ok, last)

pub prepared_records-requires-clause-laid : goal.prepared_records-requires-clause-laid
prepared_records-requires-clause-laid c =
    let b = c.self.inside in
    let inside : (k : ℕ) → k < length c.args.bytes.now / c.args.size → c.args.at + c.args.size ≤ length (get_or b.overlay.volume.traces (c.args.a - 1 + k) []) = rw (← c.self.view_is) at c.requires.inside in
    let ok = c.in_ok-prepare_put_each.ensures.ok in
    λ sure. edit.each_laid b c.args.a c.args.count c.args.at c.args.size c.args.bytes.now c.prepare_put_each.new.self c.requires.count inside ok
    (c.self.invariant.records (subst HaveAgreed (ap (λ (o : CountedVolume PackedRecord). o.reads) ok) sure))

pub same_cells-stays-requires : goal.same_cells-stays-requires
same_cells-stays-requires c =
    let b = c.self.inside in
    let last : c.args.a - 1 + c.args.count ≤ count_of b.overlay.volume = rw (← c.self.view_is) at c.requires.last in
    let inside : (k : ℕ) → k < length c.args.bytes.now / c.args.size → c.args.at + c.args.size ≤ length (get_or b.overlay.volume.traces (c.args.a - 1 + k) []) = rw (← c.self.view_is) at c.requires.inside in
    let ok = c.in_ok-prepare_put_each.ensures.ok in
    let seen = c.prepared_records.ensures.seen in
    let payloads =
    edit.each_payloads b c.self.invariant c.args.a c.args.count c.args.at c.args.size c.args.bytes.now c.prepare_put_each.new.self c.prepared_records.new.overlay c.in-Ok.records c.requires.first c.requires.some c.requires.exact c.requires.count
    last inside ok seen c.in-Ok.ensures.many c.in-Ok.ensures.numbers in
    let room =
    edit.each_room b c.self.invariant c.args.a c.args.count c.args.at c.args.size c.args.bytes.now c.prepare_put_each.new.self c.prepared_records.new.overlay c.in-Ok.records c.requires.first c.requires.some c.requires.exact c.requires.count
    last inside ok seen c.in-Ok.ensures.many c.in-Ok.ensures.numbers in
    let list : c.new.result ≡ records_in b = c.new.ensures ∙ ap (λ (qs : List PackedRecord). map record_in qs) (c.payloads.ensures ∙ payloads) in
    rw list room

pub commit_with_records-requires-clause-last : goal.commit_with_records-requires-clause-last
commit_with_records-requires-clause-last c =
    let b = c.self.inside in
    let last : c.args.a - 1 + c.args.count ≤ count_of b.overlay.volume = rw (← c.self.view_is) at c.requires.last in
    let inside : (k : ℕ) → k < length c.args.bytes.now / c.args.size → c.args.at + c.args.size ≤ length (get_or b.overlay.volume.traces (c.args.a - 1 + k) []) = rw (← c.self.view_is) at c.requires.inside in
    edit.each_last b c.self.invariant c.args.a c.args.count c.args.at c.args.size c.args.bytes.now c.prepare_put_each.new.self c.prepared_records.new.overlay c.in-Ok.records c.requires.first c.requires.some c.requires.exact c.requires.count
    last inside c.in_ok-prepare_put_each.ensures.ok c.prepared_records.ensures.seen c.in-Ok.ensures.many c.in-Ok.ensures.numbers

pub commit_with_records-requires-clause-held : goal.commit_with_records-requires-clause-held
commit_with_records-requires-clause-held c =
    let b = c.self.inside in
    let last : c.args.a - 1 + c.args.count ≤ count_of b.overlay.volume = rw (← c.self.view_is) at c.requires.last in
    let inside : (k : ℕ) → k < length c.args.bytes.now / c.args.size → c.args.at + c.args.size ≤ length (get_or b.overlay.volume.traces (c.args.a - 1 + k) []) = rw (← c.self.view_is) at c.requires.inside in
    edit.each_held b c.self.invariant c.args.a c.args.count c.args.at c.args.size c.args.bytes.now c.prepare_put_each.new.self c.prepared_records.new.overlay c.in-Ok.records c.requires.first c.requires.some c.requires.exact c.requires.count
    last inside c.in_ok-prepare_put_each.ensures.ok c.prepared_records.ensures.seen c.in-Ok.ensures.many c.in-Ok.ensures.numbers

pub commit_with_records-requires-clause-stay : goal.commit_with_records-requires-clause-stay
commit_with_records-requires-clause-stay c =
    let b = c.self.inside in
    let last : c.args.a - 1 + c.args.count ≤ count_of b.overlay.volume = rw (← c.self.view_is) at c.requires.last in
    let inside : (k : ℕ) → k < length c.args.bytes.now / c.args.size → c.args.at + c.args.size ≤ length (get_or b.overlay.volume.traces (c.args.a - 1 + k) []) = rw (← c.self.view_is) at c.requires.inside in
    edit.each_stay b c.self.invariant c.args.a c.args.count c.args.at c.args.size c.args.bytes.now c.prepare_put_each.new.self c.prepared_records.new.overlay c.in-Ok.records c.requires.first c.requires.some c.requires.exact c.requires.count
    last inside c.in_ok-prepare_put_each.ensures.ok c.prepared_records.ensures.seen c.in-Ok.ensures.many c.in-Ok.ensures.numbers

pub commit_with_records-requires-clause-counted : goal.commit_with_records-requires-clause-counted
commit_with_records-requires-clause-counted c =
    let b = c.self.inside in
    let last : c.args.a - 1 + c.args.count ≤ count_of b.overlay.volume = rw (← c.self.view_is) at c.requires.last in
    let inside : (k : ℕ) → k < length c.args.bytes.now / c.args.size → c.args.at + c.args.size ≤ length (get_or b.overlay.volume.traces (c.args.a - 1 + k) []) = rw (← c.self.view_is) at c.requires.inside in
    edit.each_counted b c.self.invariant c.args.a c.args.count c.args.at c.args.size c.args.bytes.now c.prepare_put_each.new.self c.prepared_records.new.overlay c.in-Ok.records c.requires.first c.requires.some c.requires.exact c.requires.count
    last inside c.in_ok-prepare_put_each.ensures.ok c.prepared_records.ensures.seen c.in-Ok.ensures.many c.in-Ok.ensures.numbers

pub commit_with_records-requires-clause-few : goal.commit_with_records-requires-clause-few
commit_with_records-requires-clause-few c =
    let b = c.self.inside in
    let last : c.args.a - 1 + c.args.count ≤ count_of b.overlay.volume = rw (← c.self.view_is) at c.requires.last in
    let inside : (k : ℕ) → k < length c.args.bytes.now / c.args.size → c.args.at + c.args.size ≤ length (get_or b.overlay.volume.traces (c.args.a - 1 + k) []) = rw (← c.self.view_is) at c.requires.inside in
    edit.each_few b c.self.invariant c.args.a c.args.count c.args.at c.args.size c.args.bytes.now c.prepare_put_each.new.self c.prepared_records.new.overlay c.in-Ok.records c.requires.first c.requires.some c.requires.exact c.requires.count
    last inside c.in_ok-prepare_put_each.ensures.ok c.prepared_records.ensures.seen c.in-Ok.ensures.many c.in-Ok.ensures.numbers (search rules)

pub invariant_of-self-in-Ok-commit_with_records : goal.invariant_of-self-in-Ok-commit_with_records
invariant_of-self-in-Ok-commit_with_records c =
    let b = c.self.inside in
    let last : c.args.a - 1 + c.args.count ≤ count_of b.overlay.volume = rw (← c.self.view_is) at c.requires.last in
    let inside : (k : ℕ) → k < length c.args.bytes.now / c.args.size → c.args.at + c.args.size ≤ length (get_or b.overlay.volume.traces (c.args.a - 1 + k) []) = rw (← c.self.view_is) at c.requires.inside in
    let ok = c.in_ok-prepare_put_each.ensures.ok in
    let seen = c.prepared_records.ensures.seen in
    let same : c.prepare_put_each.new.self.payloads ≡ b.overlay.payloads = ap (λ (o : CountedVolume PackedRecord). o.payloads) ok in
    let parts : HaveAgreed b.overlay.reads → AreHeaderParts b.overlay.volume c.args.a c.args.at c.args.size c.args.bytes.now = rw (← c.self.view_is) at c.requires.parts in
    let before : Follow b.overlay.reads c.prepared_records.new.overlay.reads = subst (λ (r : Reads). Follow r c.prepared_records.new.overlay.reads) (ap (λ (o : CountedVolume PackedRecord). o.reads) ok) seen.reads in
    let found : HaveAgreed c.prepared_records.new.overlay.reads → AreTheirRecords b.overlay.volume b.fields.pairs c.args.a c.args.at c.args.size c.args.bytes.now (records_in b) c.in-Ok.records =
    λ sure. their_records b.overlay.volume _ b.fields.pairs c.args.a c.args.count c.args.at c.args.size c.args.bytes.now (records_in b) c.in-Ok.records (parts (before.agreed sure)) (c.self.invariant.records (before.agreed sure))
    (ap (λ (o : CountedVolume PackedRecord). o.prepared) ok) c.requires.count
    (subst (λ (qs : List PackedRecord). map facts_of c.in-Ok.records ≡ take c.args.count (drop (c.args.a - 1) (headers_of c.prepare_put_each.new.self.prepared b.fields.pairs (map facts_of (map record_in qs))))) same (c.in-Ok.ensures.records sure)) in
    let cut : HaveAgreed b.overlay.reads → IsCut (bytes_of (with_each b.overlay.volume c.args.a c.args.at c.args.size c.args.bytes.now)) b.reading b.limits (with_each b.overlay.volume c.args.a c.args.at c.args.size c.args.bytes.now) =
    rw (← c.self.view_is) at c.requires.cut in
    edit.each_done b c.self.invariant c.args.a c.args.count c.args.at c.args.size c.args.bytes.now c.prepare_put_each.new.self c.prepared_records.new.overlay c.in-Ok.records c.requires.first c.requires.some c.requires.exact c.requires.count
    last inside c.in_ok-prepare_put_each.ensures.ok c.prepared_records.ensures.seen c.in-Ok.ensures.many c.in-Ok.ensures.numbers
    c.commit_with_records.new.overlay c.commit_with_records.new.reports c.in-Ok-commit_with_records.ensures.volume c.commit_with_records.ensures.prepared c.in-Ok-commit_with_records.ensures.records c.commit_with_records.ensures.reads
    (λ sure. cut (before.agreed sure)) (λ sure. (found sure).records) c.in-Ok-commit_with_records.ensures.reports

pub returns-in-Ok-commit_with_records-clause-moved : goal.returns-in-Ok-commit_with_records-clause-moved
returns-in-Ok-commit_with_records-clause-moved c =
    let b = c.self.inside in
    let last : c.args.a - 1 + c.args.count ≤ count_of b.overlay.volume = rw (← c.self.view_is) at c.requires.last in
    let inside : (k : ℕ) → k < length c.args.bytes.now / c.args.size → c.args.at + c.args.size ≤ length (get_or b.overlay.volume.traces (c.args.a - 1 + k) []) = rw (← c.self.view_is) at c.requires.inside in
    let ok = c.in_ok-prepare_put_each.ensures.ok in
    let seen = c.prepared_records.ensures.seen in
    let same : c.prepare_put_each.new.self.payloads ≡ b.overlay.payloads = ap (λ (o : CountedVolume PackedRecord). o.payloads) ok in
    let parts : HaveAgreed b.overlay.reads → AreHeaderParts b.overlay.volume c.args.a c.args.at c.args.size c.args.bytes.now = rw (← c.self.view_is) at c.requires.parts in
    let before : Follow b.overlay.reads c.prepared_records.new.overlay.reads = subst (λ (r : Reads). Follow r c.prepared_records.new.overlay.reads) (ap (λ (o : CountedVolume PackedRecord). o.reads) ok) seen.reads in
    let found : HaveAgreed c.prepared_records.new.overlay.reads → AreTheirRecords b.overlay.volume b.fields.pairs c.args.a c.args.at c.args.size c.args.bytes.now (records_in b) c.in-Ok.records =
    λ sure. their_records b.overlay.volume _ b.fields.pairs c.args.a c.args.count c.args.at c.args.size c.args.bytes.now (records_in b) c.in-Ok.records (parts (before.agreed sure)) (c.self.invariant.records (before.agreed sure))
    (ap (λ (o : CountedVolume PackedRecord). o.prepared) ok) c.requires.count
    (subst (λ (qs : List PackedRecord). map facts_of c.in-Ok.records ≡ take c.args.count (drop (c.args.a - 1) (headers_of c.prepare_put_each.new.self.prepared b.fields.pairs (map facts_of (map record_in qs))))) same (c.in-Ok.ensures.records sure)) in
    let s : State = state_of c.self.inside in
    let v : Volume = c.self.inside.overlay.volume in
    let fields : Pairs = c.self.inside.fields.pairs in
    let rs : List Record = records_in c.self.inside in
    let new : List Record = c.in-Ok.records in
    let w : Volume = with_each v c.args.a c.args.at c.args.size c.args.bytes.now in
    let f = record_of v.head fields in
    let at : ℕ = c.args.a - 1 in
    let payloads =
    edit.each_payloads b c.self.invariant c.args.a c.args.count c.args.at c.args.size c.args.bytes.now c.prepare_put_each.new.self c.prepared_records.new.overlay c.in-Ok.records c.requires.first c.requires.some c.requires.exact c.requires.count
    last inside c.in_ok-prepare_put_each.ensures.ok c.prepared_records.ensures.seen c.in-Ok.ensures.many c.in-Ok.ensures.numbers in
    let list : c.new.result ≡ records_in b = c.new.ensures ∙ ap (λ (qs : List PackedRecord). map record_in qs) (c.payloads.ensures ∙ payloads) in
    let within : at + c.args.count ≤ length w.traces = omega (arith, last, length-put_each v.traces at c.args.at c.args.size c.args.bytes.now) in
    let stays : HaveAgreed c.commit_with_records.new.overlay.reads → HaveAgreed c.prepared_records.new.overlay.reads = subst HaveAgreed c.commit_with_records.ensures.reads in
    rw (← c.self.view_is) (λ sure.
    let held = c.self.invariant.records (before.agreed (stays sure)) in
    let old_facts : map facts_of (drop at rs) ≡ map f (drop at v.traces) = sym (drop-map facts_of at rs) ∙ ap (λ (fs : List Facts). drop at fs) held ∙ drop-map f at v.traces in
    let new_facts : map facts_of new ≡ map f (take c.args.count (drop at w.traces)) =
    made_so v fields c.args.a c.args.at c.args.size c.args.bytes.now rs new (parts (before.agreed (stays sure))) held (found (stays sure)).made
    ∙ ap (λ (n : ℕ). take n (drop at (map f w.traces))) c.requires.count
    ∙ ap (λ (fs : List Facts). take c.args.count fs) (drop-map f at w.traces) ∙ take-map f c.args.count (drop at w.traces) in
    ap not (c.same_cells-stays.ensures ∙ ap (λ (l : List Record). same_cells (drop at l) c.in-Ok.records) list)
    ∙ cells_stay s w c.args.a c.args.count rs new c.requires.first last within old_facts new_facts)
