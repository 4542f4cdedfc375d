-- A whole number of records, counted one record after the other.
use Rattle.std.specs.Prelude.{◌≡◌, ℕ, ℤ, ◌+◌, cond, if◌then◌else◌, List, [], ◌∷◌, ◌++◌, map}
use Rattle.std.proofs.Common.{◌∙◌, arith, ap, ap₂, sym}
use Rattle.std.proofs.lemmas.List.{map-append}
use Rattle.std.proofs.lemmas.List.Sums.{sum_by-cons, sum_by-append}
use Rattle.std.specs.Ordering.{is_eq, int_cmp}
use Rattle.key_counts.specs.Counts.{HasOneMore}
use Rattle.key_counts.specs.Rising.{times_in}
use Rattle.trace_record.specs.declared.record.Record.{Record}
use Rattle.range_stats.specs.Whole.{whole_in, AreCounted}
use Rattle.range_stats.specs.declared.whole_counts.WholeQuantity.{WholeQuantity}

-- with one record more its number occurs once more
pub times-behind : (value : Record → ℤ) (ys : List Record) (x : Record) (q : ℤ)
    → times_in int_cmp (map value (ys ++ x ∷ [])) q ≡ times_in int_cmp (map value ys) q + (if is_eq (int_cmp (value x) q) then 1 else 0)
times-behind value ys x q =
    let all = ap (λ (ks : List ℤ). times_in int_cmp ks q) (map-append value ys (x ∷ [])) in
    let both = sum_by-append (λ k. cond (is_eq (int_cmp k q)) 1 0) (map value ys) (value x ∷ []) in
    let one = sum_by-cons (λ k. cond (is_eq (int_cmp k q)) 1 0) (value x) [] in
    omega arith

-- with its number raised once the record is counted too
pub counted-behind : (which : WholeQuantity) (old new : List (ℤ × ℕ)) (key : ℤ) (ys : List Record) (x : Record)
    → AreCounted which old ys → HasOneMore int_cmp old new key → key ≡ whole_in which x → AreCounted which new (ys ++ x ∷ [])
counted-behind which old new key ys x h more is q =
    more q ∙ ap₂ (λ (m : ℕ) (v : ℤ). m + (if is_eq (int_cmp v q) then 1 else 0)) (h q) is ∙ sym (times-behind (whole_in which) ys x q)
