-- The least and the greatest sample of a trace among those that are counted.
use Rattle.std.specs.Prelude.{◌≡◌, ◌+◌, ℕ, ℤ, pos, false, cond, if◌then◌else◌, List, [], ◌∷◌, map, count_by, filter_map, Option, Some, None, refl}
use Rattle.std.specs.List.{cons_option}
use Rattle.std.specs.Option.{option_map_or}
use Rattle.std.specs.Ordering.{is_eq, int_cmp, int_eq}
use Rattle.std.proofs.Common.{arith, sym, ap, ◌∙◌}
use Rattle.std.proofs.lemmas.List.Sums.{sum_by-cons}
use Rattle.key_counts.specs.Rising.{times_in}
use Rattle.trace_record.specs.Facts.{Facts, facts_of, number_of_values, sum_of_values}
use Rattle.trace_record.specs.Keys.{least, greatest}
use Rattle.trace_record.specs.Tally.{times}
use Rattle.trace_record.specs.declared.amplitudes.Amplitudes.{Amplitudes}
use Rattle.trace_record.specs.declared.record.Record.{Record}
use Rattle.range_stats.specs.TotalKeys.{keys_of_totals}

-- ---- one trace

-- the amplitudes that a trace has, or has not, say what is counted of it
abbrev end_has : (Amplitudes → ℤ) → ℤ → Option Amplitudes → ℕ
end_has end v o = if option_map_or (λ a. int_eq (end a) v) o false then 1 else 0

pub times-least : (f : Facts) (o : Option Amplitudes) (v : ℤ) → f.amplitudes ≡ o → times keys_of_totals f (least v) ≡ end_has (λ a. a.least) v o
times-least f o v e = ap (end_has (λ a. a.least) v) e

pub times-greatest : (f : Facts) (o : Option Amplitudes) (v : ℤ) → f.amplitudes ≡ o → times keys_of_totals f (greatest v) ≡ end_has (λ a. a.greatest) v o
times-greatest f o v e = ap (end_has (λ a. a.greatest) v) e

pub number-of : (f : Facts) (o : Option Amplitudes) → f.amplitudes ≡ o → number_of_values f ≡ option_map_or (λ a. f.number) o 0
number-of f o e = ap (λ (p : Option Amplitudes). option_map_or (λ a. f.number) p 0) e

pub sum-of : (f : Facts) (o : Option Amplitudes) → f.amplitudes ≡ o → sum_of_values f ≡ option_map_or (λ a. a.sum) o (pos 0)
sum-of f o e = ap (λ (p : Option Amplitudes). option_map_or (λ a. a.sum) p (pos 0)) e

-- ---- many

pub times_in-cons : (x : ℤ) (vs : List ℤ) (v : ℤ) → times_in int_cmp (x ∷ vs) v ≡ (if int_eq x v then 1 else 0) + times_in int_cmp vs v
times_in-cons x vs v = sum_by-cons (λ q. cond (is_eq (int_cmp q v)) 1 0) x vs

-- the ends of the traces whose samples have values
abbrev pub ends : (Amplitudes → ℤ) → List Facts → List ℤ
ends end fs = map end (filter_map (λ f. f.amplitudes) fs)

-- an end occurs among them as often as traces have it
pub counted_ends : (end : Amplitudes → ℤ) (fs : List Facts) (v : ℤ) → count_by (λ f. option_map_or (λ a. int_eq (end a) v) f.amplitudes false) fs ≡ times_in int_cmp (ends end fs) v
counted_ends end [] v = refl
counted_ends end (f ∷ fs) v = sum_by-cons (λ g. end_has end v g.amplitudes) f fs ∙ by f.amplitudes (counted_ends end fs v)
  where
    by : (o : Option Amplitudes) → count_by (λ g. option_map_or (λ a. int_eq (end a) v) g.amplitudes false) fs ≡ times_in int_cmp (ends end fs) v
        → end_has end v o + count_by (λ g. option_map_or (λ a. int_eq (end a) v) g.amplitudes false) fs ≡ times_in int_cmp (map end (cons_option o (filter_map (λ g. g.amplitudes) fs))) v
    by None i = omega (arith, i)
    by (Some a) i = ap (λ n. end_has end v (Some a) + n) i ∙ sym (times_in-cons (end a) (ends end fs) v)

-- the amplitudes of records are those of their facts
pub amplitudes-facts : (rs : List Record) → filter_map (λ r. r.amplitudes) rs ≡ filter_map (λ f. f.amplitudes) (map facts_of rs)
amplitudes-facts [] = refl
amplitudes-facts (r ∷ rs) = ap (cons_option r.amplitudes) (amplitudes-facts rs)
