-- One step of the pass that writes the report.
use Rattle.std.specs.Prelude.{◌≡◌, ℕ, ℤ, ◌+◌, ◌<◌, not, ◌||◌, ◌&&◌, cond, List, [], ◌∷◌, ◌++◌, length, map, take, flat_map, nat_lt, Option, Some, unwrap_or, suc}
use Rattle.std.proofs.Common.{arith, sym, ap, ◌∙◌, append_assoc, drop, drop-cons, add-one, get_or}
use Rattle.std.proofs.lemmas.List.{take-append-drop, length-take-le, length-map, map-append, map_more}
use Rattle.std.proofs.lemmas.List.Concat.{flat_map-cons}
use Rattle.std.specs.List.{enumerate_from}
use Rattle.std.specs.Ordering.{is_eq, int_eq}
use Rattle.trace_record.specs.Facts.{Facts, facts_of}
use Rattle.trace_record.specs.Keys.{triple}
use Rattle.fault_live.specs.FaultKeys.{keys_of_faults}
use Rattle.trace_record.specs.Tally.{tally_of}
use Rattle.trace_record.specs.declared.record.Record.{Record}
use Rattle.fault_live.specs.declared.fault.Fault.{Fault}
use Rattle.fault_live.specs.declared.fault.Fault.TheVariants.{Scalar, Units, Name}
use Rattle.fault_live.specs.declared.head_facts.HeadFacts.{HeadFacts}
use Rattle.fault_live.specs.Faults.{own_faults, among_faults, faults_of, trace_faults, first_units, first_with, repeat_fault, unless, is_scalar, is_revision_2}
use Rattle.window_counts.specs.Places.{triple_cmp}
use Rattle.fault_live.proofs.FirstLemmas.{key, AreFirst, still_first, repeats}

regroup : (a b c x : List Fault) → a ++ (b ++ c ++ x) ≡ a ++ b ++ c ++ x
regroup a b c x = sym (append_assoc a (b ++ c) x) ∙ ap (λ l. l ++ x) (sym (append_assoc a b c))

-- a trace's faults are their parts, one behind the other
in_parts : (h : HeadFacts) (fs : List Facts) (p : ℕ) (f : Facts) (first : Option ℕ) → repeat_fault p first ≡ repeat_fault p (first_with fs f)
    → own_faults h p f ++ unless (is_scalar f.scalar) (Scalar p f.scalar) ++ among_faults h (first_units fs) first p f ≡ trace_faults h fs p f
in_parts h fs p f first e =
    ap (λ r. own_faults h p f ++ unless (is_scalar f.scalar) (Scalar p f.scalar) ++ (unless (int_eq f.units (first_units fs)) (Units p f.units (first_units fs)) ++ r ++ unless (not (is_revision_2 h) || f.has_known_name) (Name p))) e

-- what is written and what is left are the whole, before and after one element
written : (w : ℕ × Facts → List Fault) (i p : ℕ) (x : Facts) (rest : List Facts) (old new all : List Fault) → p ≡ i + 1 → new ≡ old ++ w (p, x)
    → old ++ flat_map w (enumerate_from (i + 1) (x ∷ rest)) ≡ all → new ++ flat_map w (enumerate_from (i + 1 + 1) rest) ≡ all
written w i p x rest old new all at grew told =
    ap (λ l. l ++ flat_map w (enumerate_from (i + 1 + 1) rest)) grew
    ∙ append_assoc old (w (p, x)) (flat_map w (enumerate_from (i + 1 + 1) rest))
    ∙ ap (λ q. old ++ (w (q, x) ++ flat_map w (enumerate_from (i + 1 + 1) rest))) at
    ∙ ap (λ l. old ++ l) (sym (flat_map-cons w (i + 1, x) (enumerate_from (i + 1 + 1) rest)))
    ∙ told

-- of the traces xs, x stands behind ys and in front of zs
module _ (xs ys : List Record) (x : Record) (zs : List Record) (parts : ys ++ x ∷ zs ≡ xs) where
  whole : map facts_of xs ≡ map facts_of ys ++ facts_of x ∷ map facts_of zs
  whole = ap (λ l. map facts_of l) (sym parts) ∙ map-append facts_of ys (x ∷ zs)

  module _ (h : HeadFacts) (count : ℤ × ℤ × ℤ → ℕ) (counted : (f : Facts) → count (key f) ≡ (tally_of keys_of_faults (map facts_of xs)).count (triple f.inline f.crossline f.offset)) (i p : ℕ) (behind : i ≡ length ys) (at : p ≡ i + 1) (m : ℤ × ℤ × ℤ → Option ℕ) (first : AreFirst count m (map facts_of ys)) where
    place : p ≡ 1 + length (map facts_of ys)
    place = let same = length-map ys facts_of in omega arith

    pub first_stays : (n : ℤ × ℤ × ℤ → Option ℕ) → ((q : ℤ × ℤ × ℤ) → n q ≡ cond (nat_lt 1 (count (key (facts_of x))) && is_eq (triple_cmp (key (facts_of x)) q)) (Some (unwrap_or (m (key (facts_of x))) p)) (m q))
        → AreFirst count n (map facts_of (ys ++ x ∷ []))
    first_stays n puts g more =
        still_first count m (map facts_of ys) (facts_of x) p place first n puts g more
        ∙ ap (λ l. first_with l g) (sym (map-append facts_of ys (x ∷ [])))

    pub report_grows : (r : ℕ) → r ≡ cond (nat_lt 1 (count (key (facts_of x)))) (unwrap_or (m (key (facts_of x))) p) p
        → (old new : List Fault) → new ≡ old ++ own_faults h p (facts_of x) ++ unless (is_scalar x.scalar) (Scalar p x.scalar) ++ among_faults h (first_units (map facts_of xs)) (Some r) p (facts_of x)
        → old ++ flat_map (λ e. trace_faults h (map facts_of xs) e.0 e.1) (enumerate_from (i + 1) (map facts_of (x ∷ zs))) ≡ faults_of h (map facts_of xs)
        → new ++ flat_map (λ e. trace_faults h (map facts_of xs) e.0 e.1) (enumerate_from (i + 1 + 1) (map facts_of zs)) ≡ faults_of h (map facts_of xs)
    report_grows r value old new grew told =
        let same = repeats count m (map facts_of ys) (facts_of x) p place first (map facts_of zs) r value (counted (facts_of x) ∙ ap (λ l. (tally_of keys_of_faults l).count (triple x.inline x.crossline x.offset)) whole) ∙ ap (λ l. repeat_fault p (first_with l (facts_of x))) (sym whole) in
        written (λ e. trace_faults h (map facts_of xs) e.0 e.1) i p (facts_of x) (map facts_of zs) old new (faults_of h (map facts_of xs)) at
        (grew ∙ sym (regroup old (own_faults h p (facts_of x)) (unless (is_scalar x.scalar) (Scalar p x.scalar)) (among_faults h (first_units (map facts_of xs)) (Some r) p (facts_of x))) ∙ ap (λ l. old ++ l) (in_parts h (map facts_of xs) p (facts_of x) (Some r) same))
        told
