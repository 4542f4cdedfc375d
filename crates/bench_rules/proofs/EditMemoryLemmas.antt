-- No refusal that an edit meets tells that memory ran out.
use Rattle.std.proofs.Common.{◌≡◌, ◌+◌, ℕ, ℤ, Bool, true, false, List, [], ◌∷◌, max, not, nat_lt, int_lt, length, Option, Some, None, Result, Ok, Err, if◌then◌else◌}
use Rattle.std.specs.Prelude.{◌&&◌, pos}
use Rattle.std.specs.List.{list_all}
use Rattle.std.specs.Option.{option_or}
use Rattle.std.specs.Ordering.{int_eq}
use Rattle.num_order.specs.Number.{fits}
use Rattle.field_map.specs.declared.place.Place.{Place}
use Rattle.sample_codes.specs.declared.value_format.ValueFormat.{ValueFormat}
use Rattle.sample_codes.specs.Formats.{sample_fits}
use Rattle.frame_cut.specs.declared.file_head.Head.{Head}
use Rattle.frame_cut.specs.Frames.{sample_count}
use Rattle.trace_view.specs.Values.{has_place, value_at}
use Rattle.bench_rules.specs.declared.operator.Operator.{Operator}
use Rattle.bench_rules.specs.declared.refusal.Refusal.{Refusal}
use Rattle.bench_rules.specs.declared.refusal.Refusal.TheVariants.{NoPlace, DoesNotFit, NoSample, Frame, OutOfMemory, ZeroDivisor}
use Rattle.bench_rules.specs.Computed.{Formula, applied, chained, chained_from, computed_in, divides, is_in_range, stepped, steps_in, term_in, unless_refused}
use Rattle.bench_rules.specs.Refused.{values_refusal}
use Rattle.bench_rules.specs.SetRefusals.{changes_length, set_refusal}
use Rattle.bench_rules.specs.SwappedFields.{half_swapped, swap_refusal}

-- a check whose refusal is another one
past : (b : Bool) (f : Refusal) (y : Option Refusal) → (f ≡ OutOfMemory → ⊥) → (if b then Some f else y) ≡ Some OutOfMemory → y ≡ Some OutOfMemory
past true f y other e = let same : f ≡ OutOfMemory = cc in absurd (other same)
past false f y other e = e

-- one check alone, which refuses where it holds
refused_if : (b : Bool) (f : Refusal) → (f ≡ OutOfMemory → ⊥) → (if b then Some f else None) ≡ Some OutOfMemory → ⊥
refused_if true f other e = let same : f ≡ OutOfMemory = cc in other same
refused_if false f other e = cc

-- one of two
either : (a b : Option Refusal) → (a ≡ Some OutOfMemory → ⊥) → (b ≡ Some OutOfMemory → ⊥) → option_or a b ≡ Some OutOfMemory → ⊥
either None b first second e = second e
either (Some r) b first second e = first e

pub set_memory : (h : Head) (t : List ℕ) (place : Option Place) (x : ℤ) → set_refusal h t place x ≡ Some OutOfMemory → ⊥
set_memory h t None x e = cc
set_memory h t (Some place) x e =
    let there = past (not (has_place h t place)) NoPlace _ (λ k. cc) e in
    let fit = past (not (fits place.kind x)) DoesNotFit _ (λ k. cc) there in
    let long = past (changes_length h t place x) Frame _ (λ k. cc) fit in
    cc

pub swap_memory : (h : Head) (places : Place × Place) (t : List ℕ) → swap_refusal h places t ≡ Some OutOfMemory → ⊥
swap_memory h places t e =
    let there = past (not (has_place h t places.0 && has_place h t places.1)) NoPlace _ (λ k. cc) e in
    either (set_refusal h t (Some places.0) (value_at h t places.1)) (set_refusal h (half_swapped h places t) (Some places.1) (value_at h t places.0))
    (set_memory h t (Some places.0) (value_at h t places.1)) (set_memory h (half_swapped h places t) (Some places.1) (value_at h t places.0)) there

pub values_memory : (f : Option ValueFormat) (h : Head) (t : List ℕ) (k : ℕ) (xs : List ℤ) → values_refusal f h t k xs ≡ Some OutOfMemory → ⊥
values_memory None h t k xs e = cc
values_memory (Some f) h t k xs e =
    let fit = past (not (list_all (sample_fits f) xs)) DoesNotFit _ (λ j. cc) e in
    refused_if (nat_lt (sample_count h t) (k + length xs)) (NoSample (max k (sample_count h t)) (sample_count h t)) (λ j. cc) fit

-- ---- what is computed

past_error : (b : Bool) (f : Refusal) (y : Result ℤ Refusal) → (f ≡ OutOfMemory → ⊥) → (if b then Err f else y) ≡ Err OutOfMemory → y ≡ Err OutOfMemory
past_error true f y other e = let same : f ≡ OutOfMemory = cc in absurd (other same)
past_error false f y other e = e

-- a number that is in range or not
in_range_memory : (b : Bool) (x : ℤ) → (if b then Ok x else Err DoesNotFit) ≡ Err OutOfMemory → ⊥
in_range_memory true x e = cc
in_range_memory false x e = cc

stepped_memory : (p : ℕ) (operator : Operator) (a b : ℤ) → stepped p operator a b ≡ Err OutOfMemory → ⊥
stepped_memory p operator a b e =
    in_range_memory (is_in_range (applied operator a b)) (applied operator a b)
    (past_error (divides operator && int_eq b (pos 0)) (ZeroDivisor p) _ (λ k. cc) e)

after : (r : Result ℤ Refusal) (f : ℤ → Result ℤ Refusal) → (r ≡ Err OutOfMemory → ⊥) → ((b : ℤ) → f b ≡ Err OutOfMemory → ⊥) → unless_refused r f ≡ Err OutOfMemory → ⊥
after (Ok x) f first more e = more x e
after (Err refusal) f first more e = first e

chained_memory : (p : ℕ) (a : ℤ) (ss : List (Operator × ℤ)) → chained p a ss ≡ Err OutOfMemory → ⊥
chained_memory p a [] e = cc
chained_memory p a (s ∷ ss) e = after (stepped p s.0 a s.1) (λ b. chained p b ss) (stepped_memory p s.0 a s.1) (λ b. chained_memory p b ss) e

chained_from_memory : (p : ℕ) (a : Option ℤ) (ss : Option (List (Operator × ℤ))) → chained_from p a ss ≡ Err OutOfMemory → ⊥
chained_from_memory p (Some a) (Some ss) e = chained_memory p a ss e
chained_from_memory p (Some a) None e = cc
chained_from_memory p None ss e = cc

pub computed_memory : (h : Head) (f : Formula) (p : ℕ) (t : List ℕ) → computed_in h f p t ≡ Err OutOfMemory → ⊥
computed_memory h f p t e = chained_from_memory p (term_in h t f.source) (steps_in h t f.steps) (past_error (not (has_place h t f.place)) NoPlace _ (λ k. cc) e)
