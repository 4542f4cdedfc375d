use Rattle.std.proofs.Common.{◌≡◌, ◌∙◌, List, map, ap, sym, subst, refl}
use Rattle.std.specs.List.Sorted.{IsPermutation}
use Rattle.frame_cut.specs.Traces.{count_of}
use Rattle.frame_cut.specs.Volume.{Volume}
use Rattle.trace_store.specs.Swapped.{with_swapped, with_places_swapped, ArePlaces}
use Rattle.edit_overlay.specs.CountedVolume.{CountedVolume}
use Rattle.edit_overlay.specs.Reads.{HaveAgreed}
use Rattle.trace_record.specs.Packed.{record_in}
use Rattle.trace_record.specs.declared.packed_record.PackedRecord.{PackedRecord}
use Rattle.trace_record.specs.declared.record.Record.{Record}
use Rattle.bench_rules.proofs.SortLemmas.{cut_permuted}
use Rattle.many_traces.proofs.SortedTraceLemmas.{map-swapped, swapped-permutes}
use Rattle.live_volume.specs.Held.{records_in}
use Rattle.live_volume.proofs.EditLemmas.{held_edited}
use Rattle.live_volume.proofs.MeasuredLemmas.{as_many, frame_swapped, measured_swapped}
use Rattle.live_volume.proofs.SortLemmas.{records-swapped, counted-permuted}
use Rattle.live_volume.proofs.live_volume.LiveVolume.exchange_pairs.Goals as goal

pub invariant_of-self : goal.invariant_of-self
invariant_of-self c =
    let b = c.self.inside in
    let v : Volume = b.overlay.volume in
    let rs : List Record = records_in b in
    let pairs = c.args.pairs.items in
    let w : Volume = with_places_swapped v pairs in
    let places : ArePlaces (count_of v) pairs = rw (← c.self.view_is) at c.requires in
    let many = as_many rs v.traces c.self.invariant.measured in
    let same : IsPermutation rs (with_swapped rs pairs) = swapped-permutes rs pairs (rw many places) in
    let e : CountedVolume PackedRecord = c.swap_each.new.self in
    let is : e.volume ≡ w = ap (λ (o : CountedVolume PackedRecord). o.volume) c.swap_each.ensures in
    let swapped : map record_in e.payloads ≡ with_swapped rs pairs = ap (λ (o : CountedVolume PackedRecord). map record_in o.payloads) c.swap_each.ensures ∙ sym (map-swapped record_in b.overlay.payloads pairs) in
    let stays : e.reads ≡ b.overlay.reads = ap (λ (o : CountedVolume PackedRecord). o.reads) c.swap_each.ensures in
    held_edited b e b.reports w (with_swapped rs pairs) c.self.invariant is (ap (λ (o : CountedVolume PackedRecord). o.prepared) c.swap_each.ensures ∙ sym is) swapped refl
    (frame_swapped b.limits v pairs c.self.invariant.frame places) (measured_swapped rs v.traces pairs places c.self.invariant.measured)
    (λ sure. cut_permuted b.reading b.limits v (with_swapped v.traces pairs) (c.self.invariant.cut (subst HaveAgreed stays sure)) (swapped-permutes v.traces pairs places))
    (λ sure. records-swapped v b.fields.pairs rs pairs (c.self.invariant.records (subst HaveAgreed stays sure)))
    (counted-permuted b.reports.values rs (with_swapped rs pairs) same c.self.invariant.reports)
