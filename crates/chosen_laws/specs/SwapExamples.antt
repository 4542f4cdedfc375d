-- Two fields that are swapped, and swapped twice, worked by hand.
use Rattle.std.specs.Prelude.{◌≡◌, ◌∷◌, [], None, Some, pos, refl, false}
use Rattle.std.proofs.Common.{inl, inr, lit≤}
use Rattle.field_map.specs.Binding.{geometry_at_load}
use Rattle.field_map.specs.Pairs.{signed_at, unsigned_at, unsigned_in_first_extension}
use Rattle.frame_cut.specs.Readings.{as_written}
use Rattle.frame_cut.specs.SmallFiles.{bin_counted, head_counted, put_bin, trace_counted, volume_counted, volume_plain, wide_limits, with_bytes_at}
use Rattle.frame_cut.specs.Volume.{Volume}
use Rattle.bench_rules.specs.declared.chosen_edit.ChosenEdit.TheVariants.{Swap}
use Rattle.bench_rules.specs.declared.edit.Edit.{Edit}
use Rattle.bench_rules.specs.declared.edit.Edit.TheVariants.{Set, OfChosen}
use Rattle.bench_rules.specs.declared.field.Field.{Field}
use Rattle.bench_rules.specs.declared.field.Field.TheVariants as field
use Rattle.bench_rules.specs.declared.refusal.Refusal.TheVariants as refusals
use Rattle.bench_rules.specs.Refused.{first_refusal}
use Rattle.bench_rules.specs.State.{State}
use Rattle.chosen_laws.specs.SwapLaws.{AreApart, IsNoLength, swap_sets}

-- a file of traces of 7 samples, but its only trace says in bytes 115-116 that it has 2
abbrev sevens : Volume
sevens = record volume_counted { head = record head_counted { samples = 7 }; bin = put_bin 3221 (0 ∷ 7 ∷ []) bin_counted }

abbrev of_file : Volume → State
of_file v = record { volume = v; fields = geometry_at_load; reading = as_written; limits = wide_limits; on_disk = false }

-- the two numbers of samples
abbrev short : Field
short = field.Place (unsigned_at 115 2)

abbrev wide : Field
wide = field.Place (unsigned_in_first_extension 137 4)

abbrev of_both : Field → Field → Edit
of_both first second = OfChosen (record { traces = Some (1, 1); conditions = [] }) (Swap first second)

pub wide-accepted : first_refusal (of_file sevens) (of_both wide short) ≡ None
wide-accepted = refl

-- once they are swapped, the 2 stands in bytes 137-140 of the first header extension, and 0 in bytes 115-116
-- with 0 in both places the trace would have 7 samples
abbrev once : State
once = of_file (record sevens { traces = with_bytes_at 377 (0 ∷ 0 ∷ 0 ∷ 2 ∷ []) (with_bytes_at 115 (0 ∷ 0 ∷ []) trace_counted) ∷ [] })

pub again-refused : first_refusal once (of_both wide short) ≡ Some refusals.Frame
again-refused = refl

pub back-accepted : first_refusal once (of_both short wide) ≡ None
back-accepted = refl

-- inline and crossline share no byte: 189-192 and 193-196, which lie behind bytes 115-116 and in front of the first header extension
pub apart-lines : AreApart (signed_at 189 4, signed_at 193 4)
apart-lines = inl (lit≤ tt)

pub no-length-crossline : IsNoLength (signed_at 193 4)
no-length-crossline = (inr (lit≤ tt), inl (lit≤ tt), inl (lit≤ tt))

-- ---- as sets

-- inline and crossline of traces 2 and 3: 10 and 22, and 10 and 23
abbrev inline : Field
inline = field.Place (signed_at 189 4)

abbrev crossline : Field
crossline = field.Place (signed_at 193 4)

pub sets-lines : swap_sets volume_plain inline crossline (signed_at 189 4, signed_at 193 4) (2 ∷ 3 ∷ [])
    ≡ Set 2 inline (pos 22) ∷ Set 2 crossline (pos 10) ∷ Set 3 inline (pos 23) ∷ Set 3 crossline (pos 10) ∷ []
sets-lines = refl

-- bytes 192-193 share one with the crossline, which is 21 in trace 1: it is set to 2560, which they
-- were, though the first set has laid 21 over them
abbrev shared : Field
shared = field.Place (signed_at 192 2)

pub shared-accepted : first_refusal (of_file volume_plain) (of_both shared crossline) ≡ None
shared-accepted = refl

pub sets-shared : swap_sets volume_plain shared crossline (signed_at 192 2, signed_at 193 4) (1 ∷ []) ≡ Set 1 shared (pos 21) ∷ Set 1 crossline (pos 2560) ∷ []
sets-shared = refl
