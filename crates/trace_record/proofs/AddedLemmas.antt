-- One sample more, as the code computes it.
use Rattle.std.proofs.Common.{◌≡◌, ℕ, ℤ, false, ◌+◌, ◌^◌, ◌≤◌, ◌+ℤ◌, SFits, to_z, of_z, refl, arith, rules}
use Rattle.std.proofs.lemmas.Int.{ints, to_z-of_z}
use Rattle.std.specs.Int.{Width, w128, int_min, int_max}
use Rattle.trace_record.specs.declared.statistics.Statistics.{Statistics}
use Rattle.trace_record.specs.Statistics.{with_sample, HasRange}
use Rattle.trace_record.proofs.PartLemmas.{fits_min, fits_max}

-- a value that fits is what its bits are
pub statistics_added : (v w : Width) (s : Statistics) (x y low high : ℤ) (n : ℕ) → SFits v s.least → SFits v s.greatest → SFits w s.sum → SFits v x → SFits w y → SFits v low → SFits v high → SFits w (s.sum +ℤ y) → y ≡ x → low ≡ int_min (to_z v (of_z v s.least)) (to_z v (of_z v x)) → high ≡ int_max (to_z v (of_z v s.greatest)) (to_z v (of_z v x)) → n ≡ s.number + 1
    → (let r : Statistics = record { least = to_z v (of_z v low); greatest = to_z v (of_z v high); sum = to_z w (of_z w (to_z w (of_z w s.sum) +ℤ to_z w (of_z w y))); number = n } in r) ≡ with_sample false s x
statistics_added v w s x y low high n fl fg fs fx fy flow fhigh fsum same el eg en =
    rw (to_z-of_z v low flow, to_z-of_z v high fhigh, to_z-of_z w s.sum fs, to_z-of_z w y fy, to_z-of_z w (s.sum +ℤ y) fsum, el, eg, to_z-of_z v s.least fl, to_z-of_z v s.greatest fg, to_z-of_z v x fx, same, en) refl

pub statistics_joined : (w : Width) (s t : Statistics) (low high : ℤ) → SFits w s.least → SFits w s.greatest → SFits w s.sum → SFits w t.least → SFits w t.greatest → SFits w t.sum → SFits w low → SFits w high → SFits w (s.sum +ℤ t.sum) → low ≡ int_min (to_z w (of_z w s.least)) (to_z w (of_z w t.least)) → high ≡ int_max (to_z w (of_z w s.greatest)) (to_z w (of_z w t.greatest))
    → (let r : Statistics = record { least = to_z w (of_z w low); greatest = to_z w (of_z w high); sum = to_z w (of_z w (to_z w (of_z w s.sum) +ℤ to_z w (of_z w t.sum))); number = s.number + t.number } in r)
    ≡ record { least = int_min s.least t.least; greatest = int_max s.greatest t.greatest; sum = s.sum +ℤ t.sum; number = s.number + t.number }
statistics_joined w s t low high fl fg fs gl gg gs flow fhigh fsum el eg =
    rw (to_z-of_z w low flow, to_z-of_z w high fhigh, to_z-of_z w s.sum fs, to_z-of_z w t.sum gs, to_z-of_z w (s.sum +ℤ t.sum) fsum, el, eg, to_z-of_z w s.least fl, to_z-of_z w s.greatest fg, to_z-of_z w t.least gl, to_z-of_z w t.greatest gg) refl

-- the range of two lists together
pub joined_range : (s t : Statistics) → HasRange s → HasRange t
    → HasRange (record { least = int_min s.least t.least; greatest = int_max s.greatest t.greatest; sum = s.sum +ℤ t.sum; number = s.number + t.number })
joined_range s t p q =
    let low = p.low in
    let high = p.high in
    let low' = q.low in
    let high' = q.high in
    record {
      least = fits_min s.least t.least p.least q.least;
      greatest = fits_max s.greatest t.greatest p.greatest q.greatest;
      low = omega (arith, ints);
      high = omega (arith, ints);
    }

-- the sum of both fits
pub joined_fits : (s t : Statistics) → HasRange s → HasRange t → s.number ≤ 2 ^ 32 → t.number ≤ 2 ^ 32 → SFits w128 (s.sum +ℤ t.sum)
joined_fits s t p q few few' =
    let low = p.low in
    let high = p.high in
    let low' = q.low in
    let high' = q.high in
    search rules
