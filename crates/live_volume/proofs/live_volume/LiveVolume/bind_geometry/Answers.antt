use Rattle.std.proofs.Common.{◌≡◌, ◌∙◌, ◌≤◌, sym, ap, subst, List, [], ℕ, length, map, get_or, true, arith}
use Rattle.std.specs.Prelude.{Some, None}
use Rattle.std.proofs.lemmas.List.{length-map}
use Rattle.field_map.specs.Binding.{is_geometry, bind_fault}
use Rattle.field_map.specs.Pairs.{Pairs, bound, place_of}
use Rattle.field_map.proofs.GeometryLemmas.{place-bindable, bound-back}
use Rattle.frame_cut.specs.Cuts.{IsCut}
use Rattle.frame_cut.specs.Volume.{Volume, bytes_of}
use Rattle.trace_record.specs.Facts.{facts_of}
use Rattle.edit_overlay.specs.Loaded.{Loaded}
use Rattle.trace_record.specs.Packed.{record_in}
use Rattle.trace_record.specs.declared.record.Record.{Record}
use Rattle.live_reports.specs.OfRecords.{AreReportsOf}
use Rattle.live_reports.specs.declared.live_reports.LiveReports.{LiveReports}
use Rattle.volume_records.specs.OfVolume.{records_of}
use Rattle.live_volume.specs.Held.{state_of, records_in, AreMeasured, HasFrame}
use Rattle.live_volume.proofs.HeldLemmas.{map_passed, read_as_before, same_state}
use Rattle.live_volume.proofs.MeasuredLemmas.{as_many, measured_anew, numbers_are}
use Rattle.live_volume.proofs.live_volume.LiveVolume.bind_geometry.Goals as goal

pub set_geometry-requires-clause-place : goal.set_geometry-requires-clause-place
set_geometry-requires-clause-place c =
    let name : List ℕ = c.as_str-text.result.now in
    let geometry : is_geometry name ≡ true = subst (λ (n : List ℕ). is_geometry n ≡ true) (sym c.as_str-text.ensures) c.requires in
    place-bindable c.self.inside.fields.extensions c.self.inside.fields.pairs name c.args.place geometry (sym c.binding_refusal.ensures ∙ c.in_default.is)

pub remake-requires-clause-small : goal.remake-requires-clause-small
remake-requires-clause-small c = omega (arith, c.self.invariant.frame.small, c.self.inside.limits.small)

pub remake-requires-clause-each : goal.remake-requires-clause-each
remake-requires-clause-each c = sym (length-map c.self.inside.overlay.payloads record_in) ∙ as_many (records_in c.self.inside) c.self.inside.overlay.volume.traces c.self.invariant.measured

pub invariant_of-self : goal.invariant_of-self
invariant_of-self c =
    let b = c.self.inside in
    let v : Volume = b.overlay.volume in
    let o = c.remake.new.overlay in
    let is : o.volume ≡ v = c.remake.ensures.volume in
    record {
      cut = λ sure. subst (λ (u : Volume). IsCut (bytes_of u) b.reading b.limits u) (sym is) (c.self.invariant.cut (c.remake.ensures.reads.agreed sure));
      frame = subst (HasFrame b.limits) (sym is) c.self.invariant.frame;
      prepared = c.remake.ensures.prepared ∙ sym is;
      extensions = c.set_geometry.ensures.extensions ∙ c.self.invariant.extensions ∙ ap (λ (u : Volume). u.head.extensions) (sym is);
      records = λ sure. c.in-Ok.ensures.records sure ∙ ap (λ (u : Volume). records_of u c.set_geometry.new.self.pairs) (sym is);
      measured = subst (λ (u : Volume). AreMeasured (map record_in o.payloads) u.traces) (sym is)
          (measured_anew (records_in b) (map record_in o.payloads) v.traces c.self.invariant.measured (length-map o.payloads record_in ∙ c.remake.ensures.each)
          (λ j less. subst (λ (ns : List ℕ). get_or ns j 0 ≤ length (get_or v.traces j [])) (numbers_are o.payloads) (c.in-Ok.ensures.within j less)));
      reports = subst (λ (r : LiveReports). AreReportsOf r (map record_in o.payloads)) (sym c.replace.ensures.after) c.in-Ok.ensures.reports;
    }

pub invariant_of-self-in-Err : goal.invariant_of-self-in-Err
invariant_of-self-in-Err c =
    let b = c.self.inside in
    let v : Volume = b.overlay.volume in
    let old : Pairs = b.fields.pairs in
    let name : List ℕ = c.as_str-text.result.now in
    let is : c.remake.new.overlay.volume ≡ v = c.remake.ensures.volume in
    let there : place_of old name ≡ Some c.in-Some-place.old = sym c.place.ensures ∙ c.in-Some-place.is in
    let same : c.set_geometry-in-Err.new.self.pairs ≡ old = c.set_geometry-in-Err.ensures.pairs ∙ ap (λ (ps : Pairs). bound ps name c.in-Some-place.old) c.set_geometry.ensures.pairs ∙ bound-back old name c.args.place c.in-Some-place.old there in
    let s = state_of b in
    let again = same_state s c.remake.new.overlay.volume c.set_geometry-in-Err.new.self.pairs c.remake.new.overlay.loaded.on_disk is same (ap (λ (l : Loaded). l.on_disk) c.remake.ensures.loaded) in
    record {
      cut = λ sure. subst (λ (u : Volume). IsCut (bytes_of u) b.reading b.limits u) (sym is) (c.self.invariant.cut (c.remake.ensures.reads.agreed sure));
      frame = subst (HasFrame b.limits) (sym is) c.self.invariant.frame;
      prepared = c.remake.ensures.prepared ∙ sym is;
      extensions = c.set_geometry-in-Err.ensures.extensions ∙ c.set_geometry.ensures.extensions ∙ c.self.invariant.extensions ∙ ap (λ (u : Volume). u.head.extensions) (sym is);
      records = λ sure. ap (map facts_of) c.in-Err.ensures.err ∙ c.self.invariant.records (c.remake.ensures.reads.agreed sure) ∙ ap (λ (u : Volume). records_of u old) (sym is) ∙ ap (λ (ps : Pairs). records_of c.remake.new.overlay.volume ps) (sym same);
      measured = subst (λ (l : List Record). AreMeasured l c.remake.new.overlay.volume.traces) (sym c.in-Err.ensures.err) (subst (λ (u : Volume). AreMeasured (records_in b) u.traces) (sym is) c.self.invariant.measured);
      reports = subst (λ (l : List Record). AreReportsOf b.reports l) (sym c.in-Err.ensures.err) c.self.invariant.reports;
    }

pub returns-in-Err-clause-step : goal.returns-in-Err-clause-step
returns-in-Err-clause-step c =
    let b = c.self.inside in
    let v : Volume = b.overlay.volume in
    let old : Pairs = b.fields.pairs in
    let name : List ℕ = c.as_str-text.result.now in
    let is : c.remake.new.overlay.volume ≡ v = c.remake.ensures.volume in
    let there : place_of old name ≡ Some c.in-Some-place.old = sym c.place.ensures ∙ c.in-Some-place.is in
    let same : c.set_geometry-in-Err.new.self.pairs ≡ old = c.set_geometry-in-Err.ensures.pairs ∙ ap (λ (ps : Pairs). bound ps name c.in-Some-place.old) c.set_geometry.ensures.pairs ∙ bound-back old name c.args.place c.in-Some-place.old there in
    let s = state_of b in
    let again = same_state s c.remake.new.overlay.volume c.set_geometry-in-Err.new.self.pairs c.remake.new.overlay.loaded.on_disk is same (ap (λ (l : Loaded). l.on_disk) c.remake.ensures.loaded) in
    let none : bind_fault v.head.extensions old c.args.name.now c.args.place ≡ None =
    ap (λ n. bind_fault n old c.args.name.now c.args.place) (sym c.self.invariant.extensions)
    ∙ ap (λ (n : List ℕ). bind_fault b.fields.extensions old n c.args.place) (sym c.as_str-text.ensures)
    ∙ sym c.binding_refusal.ensures ∙ c.in_default.is in
    rw (← c.self.view_is) (λ sure.
    map_passed s _ c.args.name.now c.args.place c.in-Err.fault c.refusal_of_records.result c.refusal_of_records.ensures c.requires none c.in-Err.ensures.read again)

pub returns-in-Err-clause-err : goal.returns-in-Err-clause-err
returns-in-Err-clause-err c =
    let b = c.self.inside in
    let v : Volume = b.overlay.volume in
    let old : Pairs = b.fields.pairs in
    let name : List ℕ = c.as_str-text.result.now in
    let is : c.remake.new.overlay.volume ≡ v = c.remake.ensures.volume in
    let there : place_of old name ≡ Some c.in-Some-place.old = sym c.place.ensures ∙ c.in-Some-place.is in
    let same : c.set_geometry-in-Err.new.self.pairs ≡ old = c.set_geometry-in-Err.ensures.pairs ∙ ap (λ (ps : Pairs). bound ps name c.in-Some-place.old) c.set_geometry.ensures.pairs ∙ bound-back old name c.args.place c.in-Some-place.old there in
    let s = state_of b in
    let again = same_state s c.remake.new.overlay.volume c.set_geometry-in-Err.new.self.pairs c.remake.new.overlay.loaded.on_disk is same (ap (λ (l : Loaded). l.on_disk) c.remake.ensures.loaded) in
    rw (← c.self.view_is) again

pub returns-in-Err-clause-same : goal.returns-in-Err-clause-same
returns-in-Err-clause-same c =
    let b = c.self.inside in
    let v : Volume = b.overlay.volume in
    let old : Pairs = b.fields.pairs in
    let name : List ℕ = c.as_str-text.result.now in
    let is : c.remake.new.overlay.volume ≡ v = c.remake.ensures.volume in
    let there : place_of old name ≡ Some c.in-Some-place.old = sym c.place.ensures ∙ c.in-Some-place.is in
    let same : c.set_geometry-in-Err.new.self.pairs ≡ old = c.set_geometry-in-Err.ensures.pairs ∙ ap (λ (ps : Pairs). bound ps name c.in-Some-place.old) c.set_geometry.ensures.pairs ∙ bound-back old name c.args.place c.in-Some-place.old there in
    let s = state_of b in
    let again = same_state s c.remake.new.overlay.volume c.set_geometry-in-Err.new.self.pairs c.remake.new.overlay.loaded.on_disk is same (ap (λ (l : Loaded). l.on_disk) c.remake.ensures.loaded) in
    rw (← c.self.view_is) (read_as_before _ _ again)
