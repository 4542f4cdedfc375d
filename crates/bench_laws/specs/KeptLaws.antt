-- What holds of the slices that are kept.
use Rattle.std.specs.Prelude.{◌≡◌, ℕ, IsTrue, List, None}
use Rattle.field_map.specs.Binding.{HasGeometry}
use Rattle.frame_cut.specs.Cuts.{IsCut}
use Rattle.frame_cut.specs.Volume.{bytes_of}
use Rattle.bench_rules.specs.declared.edit.Edit.{Edit}
use Rattle.bench_rules.specs.Kept.{is_kept, kept_after_edit}
use Rattle.bench_rules.specs.Refused.{first_refusal}
use Rattle.bench_rules.specs.Reports.{slice_in}
use Rattle.bench_rules.specs.State.{State}
use Rattle.bench_rules.specs.Steps.{IsAfter}

-- after an edit that is not refused, each slice whose number is still kept is as it was, where the map binds the geometry
-- names to places in front of the samples, as the map of a bench does
abbrev pub KeptSlicesStay : Type 0
KeptSlicesStay = (old new : State) (edit : Edit) (kept : List ℕ) (k : ℕ)
    → IsCut (bytes_of old.volume) old.reading old.limits old.volume → HasGeometry old.volume.head.extensions old.fields → first_refusal old edit ≡ None → IsAfter old edit new
    → IsTrue (is_kept k (kept_after_edit old edit kept)) → slice_in new k ≡ slice_in old k
