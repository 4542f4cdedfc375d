-- The lists of inlines and crosslines rise.
use Rattle.std.specs.Prelude.{◌≡◌, ℤ, List, [], ◌∷◌, map, refl}
use Rattle.std.proofs.Common.{ap, sym, subst}
use Rattle.std.specs.List.Sorted.{IsStrictlySortedBy}
use Rattle.std.specs.Ordering.{int_cmp}
use Rattle.std.proofs.lemmas.Cmp.{int_cmp_total}
use Rattle.trace_record.specs.Facts.{Facts}
use Rattle.key_counts.specs.Rising.{rising, times_in}
use Rattle.key_counts.proofs.RisingLemmas.{sorted-rising}
use Rattle.grid_live.specs.Cells.{crosslines, inlines, line_with}
use Rattle.grid_live.specs.declared.line.Line.{Line}
use Rattle.line_problems.specs.LineProblems.{LinesRise}

-- the numbers of lines that are made of keys are the keys
numbers_again : (ks rs : List ℤ) → map (λ (l : Line). l.number) (map line_with (map (λ k. (k, times_in int_cmp ks k)) rs)) ≡ rs
numbers_again ks [] = refl
numbers_again ks (r ∷ rs) = ap (λ (l : List ℤ). r ∷ l) (numbers_again ks rs)

pub inlines_rise : (fs : List Facts) → LinesRise (inlines fs)
inlines_rise fs =
    let keys : List ℤ = map (λ (f : Facts). f.inline) fs in
    subst (λ (l : List ℤ). IsStrictlySortedBy int_cmp l) (sym (numbers_again keys (rising int_cmp keys))) (sorted-rising int_cmp int_cmp_total keys)

pub crosslines_rise : (fs : List Facts) → LinesRise (crosslines fs)
crosslines_rise fs =
    let keys : List ℤ = map (λ (f : Facts). f.crossline) fs in
    subst (λ (l : List ℤ). IsStrictlySortedBy int_cmp l) (sym (numbers_again keys (rising int_cmp keys))) (sorted-rising int_cmp int_cmp_total keys)
