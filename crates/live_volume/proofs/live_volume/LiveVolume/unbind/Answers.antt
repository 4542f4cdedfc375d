use Rattle.std.proofs.Common.{◌≡◌, ◌∙◌, sym, ap, false, rules}
use Rattle.field_map.specs.Binding.{is_geometry}
use Rattle.field_map.specs.Pairs.{Pairs}
use Rattle.volume_records.specs.OfVolume.{records_of}
use Rattle.volume_records.proofs.NameLemmas.{records-unbound}
use Rattle.live_volume.proofs.HeldLemmas.{past}
use Rattle.live_volume.proofs.live_volume.LiveVolume.unbind.Goals as goal

pub invariant_of-self-2 : goal.invariant_of-self-2
invariant_of-self-2 c =
    let v = c.self.inside.overlay.volume in
    let old : Pairs = c.self.inside.fields.pairs in
    let other : is_geometry c.as_str.result.now ≡ false = past _ _ _ c.in_ok-unbind.ensures.ok.0 in
    record {
      cut = c.self.invariant.cut;
      frame = c.self.invariant.frame;
      prepared = search rules;
      extensions = c.in_ok-unbind.ensures.extensions ∙ c.self.invariant.extensions;
      records = λ sure. c.self.invariant.records sure ∙ sym (ap (λ (ps : Pairs). records_of v ps) c.in_ok-unbind.ensures.ok.1 ∙ records-unbound v old c.as_str.result.now other);
      measured = c.self.invariant.measured;
      reports = search rules;
    }
