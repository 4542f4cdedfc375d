-- No rule refuses an edit as a read does.
use Rattle.std.proofs.Common.{◌≡◌, ◌+◌, ℕ, ℤ, Bool, true, false, List, [], ◌∷◌, length, max, nat_abs, not, nat_lt, subst, Option, Some, None, Result, Ok, Err, if◌then◌else◌}
use Rattle.std.specs.Prelude.{◌&&◌, pos, IfErr, IfSome}
use Rattle.std.specs.List.{list_all}
use Rattle.std.specs.Option.{option_or}
use Rattle.std.specs.Ordering.{int_eq}
use Rattle.num_order.specs.Number.{fits}
use Rattle.field_map.specs.declared.place.Place.{Place}
use Rattle.sample_codes.specs.declared.value_format.ValueFormat.{ValueFormat}
use Rattle.sample_codes.specs.Formats.{sample_fits}
use Rattle.frame_cut.specs.declared.file_head.Head.{Head}
use Rattle.frame_cut.specs.Frames.{sample_count}
use Rattle.trace_view.specs.Values.{has_place, value_at}
use Rattle.bench_rules.specs.declared.operator.Operator.{Operator}
use Rattle.bench_rules.specs.declared.refusal.Refusal.{Refusal}
use Rattle.bench_rules.specs.declared.refusal.Refusal.TheVariants as edits
use Rattle.bench_rules.specs.Computed.{Formula, applied, chained, chained_from, computed_in, divides, is_in_range, stepped, steps_in, term_in, unless_refused}
use Rattle.bench_rules.specs.FilledSamples.{samples_refusal}
use Rattle.bench_rules.specs.Places.{is_in_binary, touches_frame}
use Rattle.bench_rules.specs.ReadFaults.{IsRefusalOfNoRead}
use Rattle.bench_rules.specs.Refused.{count_refusal, is_sample_count, is_too_large, set_bin_refusal, values_refusal}
use Rattle.bench_rules.specs.SetRefusals.{changes_length, set_refusal}
use Rattle.bench_rules.specs.SwappedFields.{half_swapped, swap_refusal}

-- ---- the rules of one trace

-- a check in front of others
checked : (b : Bool) (f : Refusal) (o : Option Refusal) → IsRefusalOfNoRead f → IfSome o IsRefusalOfNoRead → IfSome (if b then Some f else o) IsRefusalOfNoRead
checked true f o first more = first
checked false f o first more = more

-- one of two
either : (a b : Option Refusal) → IfSome a IsRefusalOfNoRead → IfSome b IsRefusalOfNoRead → IfSome (option_or a b) IsRefusalOfNoRead
either None b first second = second
either (Some r) b first second = first

-- the refusal that there is
pub some_free : (o : Option Refusal) (r : Refusal) → o ≡ Some r → IfSome o IsRefusalOfNoRead → IsRefusalOfNoRead r
some_free o r is free = subst (λ (a : Option Refusal). IfSome a IsRefusalOfNoRead) is free

pub set_free : (h : Head) (t : List ℕ) (place : Option Place) (x : ℤ) → IfSome (set_refusal h t place x) IsRefusalOfNoRead
set_free h t None x = tt
set_free h t (Some place) x =
    checked (not (has_place h t place)) edits.NoPlace _ tt (checked (not (fits place.kind x)) edits.DoesNotFit _ tt (checked (changes_length h t place x) edits.Frame None tt tt))

pub swap_free : (h : Head) (places : Place × Place) (t : List ℕ) → IfSome (swap_refusal h places t) IsRefusalOfNoRead
swap_free h places t =
    checked (not (has_place h t places.0 && has_place h t places.1)) edits.NoPlace _ tt
    (either (set_refusal h t (Some places.0) (value_at h t places.1)) (set_refusal h (half_swapped h places t) (Some places.1) (value_at h t places.0))
    (set_free h t (Some places.0) (value_at h t places.1)) (set_free h (half_swapped h places t) (Some places.1) (value_at h t places.0)))

pub set_bin_free : (place : Option Place) (x : ℤ) → IfSome (set_bin_refusal place x) IsRefusalOfNoRead
set_bin_free None x = tt
set_bin_free (Some place) x =
    checked (not (is_in_binary place)) edits.NoPlace _ tt (checked (not (fits place.kind x)) edits.DoesNotFit _ tt (checked (touches_frame place) edits.Frame None tt tt))

pub values_free : (f : Option ValueFormat) (h : Head) (t : List ℕ) (k : ℕ) (xs : List ℤ) → IfSome (values_refusal f h t k xs) IsRefusalOfNoRead
values_free None h t k xs = tt
values_free (Some f) h t k xs =
    checked (not (list_all (sample_fits f) xs)) edits.DoesNotFit _ tt
    (checked (nat_lt (sample_count h t) (k + length xs)) (edits.NoSample (max k (sample_count h t)) (sample_count h t)) None tt tt)

pub count_free : (h : Head) (file limit : ℕ) (t : List ℕ) (m : ℤ) → IfSome (count_refusal h file limit t m) IsRefusalOfNoRead
count_free h file limit t m =
    checked (not (is_sample_count h m)) edits.DoesNotFit _ tt (checked h.fixed edits.Frame _ tt (checked (is_too_large h file limit t (nat_abs m)) edits.TooLarge None tt tt))

-- one check alone, which refuses where it does not hold
unless_holds : (b : Bool) (f : Refusal) → IsRefusalOfNoRead f → IfSome (if b then None else Some f) IsRefusalOfNoRead
unless_holds true f free = tt
unless_holds false f free = free

pub samples_free : (h : Head) (first last : ℕ) (t : List ℕ) → IfSome (samples_refusal h first last t) IsRefusalOfNoRead
samples_free h first last t = unless_holds (nat_lt (max first last) (sample_count h t)) (edits.NoSample (max first last) (sample_count h t)) tt

-- ---- the rules of a number that is computed

-- a check in front of a number
pub numbered : (b : Bool) (f : Refusal) (r : Result ℤ Refusal) → IsRefusalOfNoRead f → IfErr r IsRefusalOfNoRead → IfErr (if b then Err f else r) IsRefusalOfNoRead
numbered true f r first more = first
numbered false f r first more = more

-- a number that is in range or not
ranged : (b : Bool) (x : ℤ) → IfErr (if b then Ok x else Err edits.DoesNotFit) IsRefusalOfNoRead
ranged true x = tt
ranged false x = tt

stepped_free : (p : ℕ) (operator : Operator) (a b : ℤ) → IfErr (stepped p operator a b) IsRefusalOfNoRead
stepped_free p operator a b =
    numbered (divides operator && int_eq b (pos 0)) (edits.ZeroDivisor p) _ tt (ranged (is_in_range (applied operator a b)) (applied operator a b))

-- what goes on with a number
after : (r : Result ℤ Refusal) (f : ℤ → Result ℤ Refusal) → IfErr r IsRefusalOfNoRead → ((b : ℤ) → IfErr (f b) IsRefusalOfNoRead) → IfErr (unless_refused r f) IsRefusalOfNoRead
after (Ok x) f first more = more x
after (Err refusal) f first more = first

chained_free : (p : ℕ) (a : ℤ) (ss : List (Operator × ℤ)) → IfErr (chained p a ss) IsRefusalOfNoRead
chained_free p a [] = tt
chained_free p a (s ∷ ss) = after (stepped p s.0 a s.1) (λ b. chained p b ss) (stepped_free p s.0 a s.1) (λ b. chained_free p b ss)

pub chained_from_free : (p : ℕ) (a : Option ℤ) (ss : Option (List (Operator × ℤ))) → IfErr (chained_from p a ss) IsRefusalOfNoRead
chained_from_free p (Some a) (Some ss) = chained_free p a ss
chained_from_free p (Some a) None = tt
chained_from_free p None ss = tt

pub computed_free : (h : Head) (f : Formula) (p : ℕ) (t : List ℕ) → IfErr (computed_in h f p t) IsRefusalOfNoRead
computed_free h f p t = numbered (not (has_place h t f.place)) edits.NoPlace _ tt (chained_from_free p (term_in h t f.source) (steps_in h t f.steps))
