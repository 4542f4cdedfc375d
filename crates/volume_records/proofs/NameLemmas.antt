-- Records under another map that binds the geometry names to the same places.
use Rattle.std.proofs.Common.{◌≡◌, ℕ, pos, Bool, true, false, List, [], ◌∷◌, Option, refl, sym, ap, ap₂, ◌∙◌}
use Rattle.std.specs.Prelude.{bytes_eq, codes, map}
use Rattle.std.specs.Option.{option_map_or}
use Rattle.std.proofs.lemmas.Slice.Eq.{bytes_eq-Decides}
use Rattle.field_map.specs.declared.place.Place.{Place}
use Rattle.field_map.specs.Binding.{is_geometry}
use Rattle.field_map.specs.Pairs.{Pairs, place_of, bound, unbound}
use Rattle.field_map.proofs.GeometryLemmas.{place-bound, place-removed}
use Rattle.frame_cut.specs.declared.file_head.Head.{Head}
use Rattle.frame_cut.specs.Frames.{sample_count}
use Rattle.frame_cut.specs.Volume.{Volume}
use Rattle.trace_view.specs.Values.{value_at, has_floats, samples_of}
use Rattle.key_counts.specs.Coordinates.{under_scalar}
use Rattle.trace_record.specs.Facts.{Facts}
use Rattle.trace_record.specs.OfTrace.{record_of, bound_value}
use Rattle.trace_record.specs.Statistics.{amplitudes_of}
use Rattle.trace_record.proofs.FactsLemmas.{facts_with, with_own}
use Rattle.volume_records.specs.OfVolume.{records_of}

-- each geometry name has the same place in both
abbrev pub SamePlaces : Pairs → Pairs → Type 0
SamePlaces fields other = (name : List ℕ) → is_geometry name ≡ true → place_of fields name ≡ place_of other name

value-same : (h : Head) (fields other : Pairs) (t : List ℕ) (name : List ℕ) → is_geometry name ≡ true → SamePlaces fields other → bound_value h fields t name ≡ bound_value h other t name
value-same h fields other t name g same = ap (λ (o : Option Place). option_map_or (value_at h t) o (pos 0)) (same name g)

-- a trace has the same record under both
pub record-same : (h : Head) (fields other : Pairs) (t : List ℕ) → SamePlaces fields other → record_of h fields t ≡ record_of h other t
record-same h fields other t same =
    let scalar = value-same h fields other t (codes "scalar") refl same in
    facts_with (record_of h fields t) h other t (amplitudes_of (has_floats h) (samples_of h t)) (sample_count h t) (record {
      inline = value-same h fields other t (codes "inline") refl same;
      crossline = value-same h fields other t (codes "crossline") refl same;
      offset = value-same h fields other t (codes "offset") refl same;
      x = ap₂ under_scalar (value-same h fields other t (codes "x") refl same) scalar;
      y = ap₂ under_scalar (value-same h fields other t (codes "y") refl same) scalar;
      scalar = scalar;
      sequence = refl;
      units = refl;
      interval = refl;
      samples_field = refl;
      has_known_name = refl;
      amplitudes = refl;
      number = refl;
    })
    ∙ with_own h other t (amplitudes_of (has_floats h) (samples_of h t)) (sample_count h t) refl refl

all-same : (h : Head) (fields other : Pairs) (ts : List (List ℕ)) → SamePlaces fields other → map (record_of h fields) ts ≡ map (record_of h other) ts
all-same h fields other [] same = refl
all-same h fields other (t ∷ ts) same = ap₂ (λ (f : Facts) (fs : List Facts). f ∷ fs) (record-same h fields other t same) (all-same h fields other ts same)

-- and so has each trace of a volume
pub records-same : (v : Volume) (fields other : Pairs) → SamePlaces fields other → records_of v fields ≡ records_of v other
records-same v fields other same = all-same v.head fields other v.traces same

-- a name that is no geometry name is none of the six
apart : (name q : List ℕ) → is_geometry q ≡ true → is_geometry name ≡ false → bytes_eq q name ≡ false
apart name q g none = by (bytes_eq q name) refl
  where
    by : (b : Bool) → bytes_eq q name ≡ b → bytes_eq q name ≡ false
    by true e = let same : true ≡ false = sym g ∙ ap is_geometry ((bytes_eq-Decides q name).0 e) ∙ none in absurd cc
    by false e = e

-- a name that is no geometry name may be bound
pub records-bound : (v : Volume) (fields : Pairs) (name : List ℕ) (place : Place) → is_geometry name ≡ false → records_of v (bound fields name place) ≡ records_of v fields
records-bound v fields name place none =
    records-same v (bound fields name place) fields (λ q g. place-bound fields name place q (apart name q g none))

-- or be left out
pub records-unbound : (v : Volume) (fields : Pairs) (name : List ℕ) → is_geometry name ≡ false → records_of v (unbound fields name) ≡ records_of v fields
records-unbound v fields name none =
    records-same v (unbound fields name) fields (λ q g. place-removed fields name q (apart name q g none))
