use Rattle.std.proofs.Common.{◌≡◌, ◌∙◌, ◌≤◌, sym, ap, subst, refl, List, [], ℕ, length, map, get_or}
use Rattle.std.proofs.lemmas.List.{length-map}
use Rattle.field_map.specs.Binding.{HasGeometry}
use Rattle.field_map.specs.Pairs.{Pairs}
use Rattle.frame_cut.specs.Cuts.{IsCut}
use Rattle.frame_cut.specs.Volume.{Volume, bytes_of}
use Rattle.edit_overlay.specs.Loaded.{Loaded}
use Rattle.trace_record.specs.Packed.{record_in}
use Rattle.live_reports.specs.OfRecords.{AreReportsOf}
use Rattle.live_reports.specs.declared.live_reports.LiveReports.{LiveReports}
use Rattle.volume_records.specs.OfVolume.{records_of}
use Rattle.bench_rules.specs.Mappings.{all_bound}
use Rattle.live_volume.specs.Held.{state_of, records_in, AreMeasured, HasFrame}
use Rattle.live_volume.proofs.HeldLemmas.{same_state}
use Rattle.live_volume.proofs.MappingLemmas.{mapping_first, mapping_passed}
use Rattle.live_volume.proofs.MeasuredLemmas.{measured_anew, numbers_are}
use Rattle.live_volume.proofs.live_volume.LiveVolume.map_as.Goals as goal

pub invariant_of-self : goal.invariant_of-self
invariant_of-self c =
    let b = c.self.inside in
    let v : Volume = b.overlay.volume in
    let o = c.remake_under.new.overlay in
    let is : o.volume ≡ v = c.remake_under.ensures.volume in
    record {
      cut = λ sure. subst (λ (u : Volume). IsCut (bytes_of u) b.reading b.limits u) (sym is) (c.self.invariant.cut (c.remake_under.ensures.reads.agreed sure));
      frame = subst (HasFrame b.limits) (sym is) c.self.invariant.frame;
      prepared = c.remake_under.ensures.prepared ∙ sym is;
      extensions = c.remake_under.ensures.extensions ∙ c.self.invariant.extensions ∙ ap (λ (u : Volume). u.head.extensions) (sym is);
      records = λ sure. c.in-Ok.ensures.records sure ∙ ap (λ (u : Volume). records_of u c.remake_under.new.fields.pairs) (sym is);
      measured = subst (λ (u : Volume). AreMeasured (map record_in o.payloads) u.traces) (sym is)
          (measured_anew (records_in b) (map record_in o.payloads) v.traces c.self.invariant.measured (length-map o.payloads record_in ∙ c.remake_under.ensures.payloads)
          (λ j less. subst (λ (ns : List ℕ). get_or ns j 0 ≤ length (get_or v.traces j [])) (numbers_are o.payloads) (c.in-Ok.ensures.within j less)));
      reports = subst (λ (r : LiveReports). AreReportsOf r (map record_in o.payloads)) (sym c.replace.ensures.after) c.in-Ok.ensures.reports;
    }

pub returns-in-Ok-clause-step : goal.returns-in-Ok-clause-step
returns-in-Ok-clause-step c =
    let b = c.self.inside in
    let v : Volume = b.overlay.volume in
    let is : c.remake_under.new.overlay.volume ≡ v = c.remake_under.ensures.volume in
    let has : HasGeometry v.head.extensions b.fields.pairs = subst (λ (n : ℕ). HasGeometry n b.fields.pairs) c.self.invariant.extensions c.geometry_stands.ensures in
    rw (← c.self.view_is) (λ sure.
    rw (mapping_first (state_of b) c.args.mapping has)
    (record {
      volume = subst (λ (u : Volume). IsCut (bytes_of v) b.reading b.limits u) (sym is) (c.self.invariant.cut (c.remake_under.ensures.reads.agreed sure));
      fields = c.in-Ok.ensures.bound ∙ ap (λ (bs : Pairs). all_bound b.fields.pairs bs) c.bindings-names.ensures;
      reading = refl;
      limits = refl;
      on_disk = ap (λ (l : Loaded). l.on_disk) c.remake_under.ensures.loaded;
    }))

pub returns-in-Err-clause-step : goal.returns-in-Err-clause-step
returns-in-Err-clause-step c =
    let b = c.self.inside in
    let v : Volume = b.overlay.volume in
    let has : HasGeometry v.head.extensions b.fields.pairs = subst (λ (n : ℕ). HasGeometry n b.fields.pairs) c.self.invariant.extensions c.geometry_stands.ensures in
    let again = same_state (state_of b) c.remake_under.new.overlay.volume c.remake_under.new.fields.pairs c.remake_under.new.overlay.loaded.on_disk c.remake_under.ensures.volume c.in-Err.ensures.kept (ap (λ (l : Loaded). l.on_disk) c.remake_under.ensures.loaded) in
    rw (← c.self.view_is) (λ sure.
    mapping_passed (state_of b) _ c.args.mapping c.in-Err.fault c.refusal_of_records.result c.refusal_of_records.ensures has c.in-Err.ensures.read again)
