-- What is known where an edit of samples or of whole traces meets no refusal.
use Rattle.std.proofs.Common.{◌≡◌, ℕ, ◌+◌, ◌≤◌, Bool, true, false, ◌&&◌, cond, leb, ltb, List, length, Option, Some, None, ℤ, refl}
use Rattle.std.specs.List.{list_all}
use Rattle.std.proofs.lemmas.Bool.{leb-true, ltb-false}
use Rattle.sample_codes.specs.declared.value_format.ValueFormat.{ValueFormat}
use Rattle.sample_codes.specs.Formats.{sample_fits, values as read_as}
use Rattle.frame_cut.specs.declared.limits.Limits.{Limits}
use Rattle.frame_cut.specs.Frames.{sample_count}
use Rattle.frame_cut.specs.Traces.{count_of, is_trace, trace_at}
use Rattle.frame_cut.specs.Volume.{Volume, bytes_of}
use Rattle.bench_rules.specs.declared.edit.Edit.TheVariants.{Patch, Blank, Copy, Move}
use Rattle.bench_rules.specs.declared.refusal.Refusal.TheVariants as refusals
use Rattle.bench_rules.specs.Refused.{first_refusal, no_trace, insert_refusal, values_refusal}
use Rattle.bench_rules.specs.State.{State}
use Rattle.bench_rules.specs.WholeTraces.{blank_trace}
use Rattle.bench_rules.proofs.SetLemmas.{unless, both, none_of_either}

-- a test that refuses nothing failed
pub unless_so : {X : Type 0} (b : Bool) (x : X) (o : Option X) → cond b (Some x) o ≡ None → (b ≡ false) × (o ≡ None)
unless_so true x o e = absurd cc
unless_so false x o e = (refl, e)

only_if : {X : Type 0} (b : Bool) (x : X) → cond b None (Some x) ≡ None → b ≡ true
only_if true x e = refl
only_if false x e = absurd cc

-- ---- places of traces

pub record IsWithin (p count : ℕ) : Type 0 where
  pub first : 1 ≤ p
  pub last : p ≤ count

within : (p count : ℕ) → (leb 1 p && leb p count) ≡ true → IsWithin p count
within p count e = let range = both _ _ e in record { first = leb-true 1 p range.0; last = leb-true p count range.1 }

pub there_is : (v : Volume) (p : ℕ) → no_trace v p ≡ None → IsWithin p (count_of v)
there_is v p e = within p (count_of v) (only_if (is_trace v p) (refusals.NoTrace p (count_of v)) e)

-- ---- one more trace

pub record HasRoom (v : Volume) (limits : Limits) (p n : ℕ) : Type 0 where
  pub place : IsWithin p (count_of v + 1)
  pub small : length (bytes_of v) + n ≤ limits.bytes
  pub few : count_of v + 1 ≤ limits.traces

pub has_room : (v : Volume) (limits : Limits) (p n : ℕ) → insert_refusal v limits p n ≡ None → HasRoom v limits p n
has_room v limits p n e =
    let place = none_of_either _ (refusals.NoTrace p (count_of v)) _ e in
    let small = unless_so (ltb limits.bytes (length (bytes_of v) + n)) refusals.TooLarge _ place.1 in
    let few = unless_so (ltb limits.traces (count_of v + 1)) refusals.TooManyTraces None small.1 in
    record {
      place = within p (count_of v + 1) place.0;
      small = ltb-false limits.bytes (length (bytes_of v) + n) small.0;
      few = ltb-false limits.traces (count_of v + 1) few.0;
    }

pub blank_accepted : (s : State) (p : ℕ) → first_refusal s (Blank p) ≡ None → HasRoom s.volume s.limits p (length (blank_trace s.volume.head))
blank_accepted s p e = has_room s.volume s.limits p (length (blank_trace s.volume.head)) e

pub record CopyAccepted (s : State) (q p : ℕ) : Type 0 where
  pub source : IsWithin q (count_of s.volume)
  pub room : HasRoom s.volume s.limits p (length (trace_at s.volume q))

pub copy_accepted : (s : State) (q p : ℕ) → first_refusal s (Copy q p) ≡ None → CopyAccepted s q p
copy_accepted s q p e =
    let source = none_of_either _ (refusals.NoTrace q (count_of s.volume)) _ e in
    record {
      source = within q (count_of s.volume) source.0;
      room = has_room s.volume s.limits p (length (trace_at s.volume q)) source.1;
    }

pub record MoveAccepted (s : State) (a b : ℕ) : Type 0 where
  pub source : IsWithin a (count_of s.volume)
  pub target : IsWithin b (count_of s.volume)

pub move_accepted : (s : State) (a b : ℕ) → first_refusal s (Move a b) ≡ None → MoveAccepted s a b
move_accepted s a b e =
    let source = none_of_either _ (refusals.NoTrace a (count_of s.volume)) _ e in
    record { source = within a (count_of s.volume) source.0; target = there_is s.volume b source.1 }

-- ---- values over samples

pub record PatchAccepted (s : State) (p k : ℕ) (values : List ℤ) : Type 0 where
  pub place : IsWithin p (count_of s.volume)
  pub format : ValueFormat
  pub reads : read_as s.volume.head.format ≡ Some format
  pub fit : list_all (sample_fits format) values ≡ true
  pub inside : k + length values ≤ sample_count s.volume.head (trace_at s.volume p)

pub patch_accepted : (s : State) (p k : ℕ) (values : List ℤ) → first_refusal s (Patch p k values) ≡ None → PatchAccepted s p k values
patch_accepted s p k values e =
    let v : Volume = s.volume in
    let place = none_of_either _ (refusals.NoTrace p (count_of v)) _ e in
    by (read_as v.head.format) refl place.1
  where
    by : (o : Option ValueFormat) → read_as s.volume.head.format ≡ o → values_refusal o s.volume.head (trace_at s.volume p) k values ≡ None → PatchAccepted s p k values
    by None reads none = absurd cc
    by (Some f) reads none =
        let v : Volume = s.volume in
        let place = none_of_either _ (refusals.NoTrace p (count_of v)) _ e in
        let fit = unless (list_all (sample_fits f) values) refusals.DoesNotFit _ none in
        let n : ℕ = sample_count v.head (trace_at v p) in
        let inside = unless_so (ltb n (k + length values)) (refusals.NoSample _ n) None fit.1 in
        record {
          place = within p (count_of v) place.0;
          format = f;
          reads = reads;
          fit = fit.0;
          inside = ltb-false n (k + length values) inside.0;
        }
