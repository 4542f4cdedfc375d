-- Geometry names that are bound at once: what is told where their records are refused.
use Rattle.std.proofs.Common.{◌≡◌, ℕ, ◌<◌, inl, inr, List, Some, None, refl, sym, ap, subst, ◌∙◌}
use Rattle.std.specs.Prelude.{IsTrue, Result, Err}
use Rattle.field_map.specs.declared.place.Place.{Place}
use Rattle.field_map.specs.Binding.{HasGeometry}
use Rattle.field_map.specs.Pairs.{Pairs, bound, place_of}
use Rattle.field_map.proofs.GeometryLemmas.{bound-back}
use Rattle.frame_cut.specs.Traces.{count_of}
use Rattle.bench_rules.specs.declared.edit.Edit.TheVariants.{MapAs}
use Rattle.bench_rules.specs.declared.mapping.Mapping.{Mapping}
use Rattle.bench_rules.specs.declared.refusal.Refusal.{Refusal}
use Rattle.bench_rules.specs.ReadFaults.{IsReadRefusal}
use Rattle.bench_rules.specs.Refused.{first_refusal}
use Rattle.bench_rules.specs.State.{State}
use Rattle.bench_rules.specs.Steps.{Step}
use Rattle.bench_rules.proofs.MappingLemmas.{mapping-free}
use Rattle.volume_records.specs.Faults.{IsOfRead}
use Rattle.volume_records.specs.declared.records_fault.RecordsFault.{RecordsFault}
use Rattle.volume_records.specs.declared.records_fault.RecordsFault.TheVariants as records
use Rattle.live_volume.specs.Refusals.{refusal_of_records}
use Rattle.live_volume.proofs.HeldLemmas.{read_is_told}

-- nothing refuses a mapping, where each geometry name is bound
pub mapping_first : (s : State) (mapping : Mapping) → HasGeometry s.volume.head.extensions s.fields → first_refusal s (MapAs mapping) ≡ None
mapping_first s mapping has = rw (mapping-free s.volume.head.extensions s.fields mapping has) refl

-- what kept the records from being made is an answer to it
pub mapping_passed : (s u : State) (mapping : Mapping) (fault : RecordsFault) (refusal : Refusal) → refusal ≡ refusal_of_records fault → HasGeometry s.volume.head.extensions s.fields
    → (IsOfRead fault → IsTrue s.on_disk × (0 < count_of s.volume)) → u ≡ s → (let r : Result (Unit {0}) Refusal = Err refusal in Step s (MapAs mapping) r u)
mapping_passed s u mapping records.OutOfMemory refusal is has read same = rw (mapping_first s mapping has) (inl (is, record {}), same)
mapping_passed s u mapping (records.Read fault) refusal is has read same =
    rw (mapping_first s mapping has) (inr ((read tt).1, subst (λ (e : Refusal). IsReadRefusal s.on_disk e) (sym is) (read_is_told s.on_disk fault (read tt).0)), same)

-- a name that was bound to another place, and then to the one that it had, where nothing else was bound between, is bound as it was
pub bound_again : (old mid new last : Pairs) (name : List ℕ) (place was : Place) → mid ≡ bound old name place → new ≡ mid → last ≡ bound new name was → place_of old name ≡ Some was → last ≡ old
bound_again old mid new last name place was one two three there = three ∙ (ap (λ (ps : Pairs). bound ps name was) (two ∙ one) ∙ bound-back old name place was there)
