use Rattle.std.proofs.Common.{◌∙◌, List, ap}
use Rattle.std.specs.Prelude.{is_some}
use Rattle.bench_rules.specs.declared.field.Field.{Field}
use Rattle.bench_rules.specs.ManyTraces.{each_of}
use Rattle.bench_rules.specs.Places.{place_in_trace}
use Rattle.live_volume.proofs.live_volume.LiveVolume.has_fields.Goals as goal

pub returns-in-Nothing : goal.returns-in-Nothing
returns-in-Nothing c =
    rw (c.in-Nothing.is, ← c.self.view_is)
    (c.have_places.ensures ∙ ap (λ (names : List Field). is_some (each_of (place_in_trace c.self.inside.fields.pairs) names)) c.as_slice.ensures)
