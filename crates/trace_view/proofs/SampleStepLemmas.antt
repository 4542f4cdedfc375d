-- Steps over samples.
use Rattle.std.proofs.Common.{◌≡◌, ℕ, ◌-◌, suc, List, ◌∷◌, take, drop, ℤ, ap, ◌∙◌, arith}
use Rattle.num_order.specs.declared.order.Order.{Order}
use Rattle.sample_codes.specs.declared.value_format.ValueFormat.{ValueFormat}
use Rattle.sample_codes.specs.Formats.{value_width, sample_value}
use Rattle.trace_view.specs.Values.{samples_in}

-- one sample read
pub sample_read : (o : Order) (f : ValueFormat) (n : ℕ) (bytes rest : List ℕ) (v : ℤ) → (n ≡ 0 → ⊥) → v ≡ sample_value o f (take (value_width f) bytes) → rest ≡ drop (value_width f) bytes → samples_in o f n bytes ≡ v ∷ samples_in o f (n - 1) rest
sample_read o f n bytes rest v some first others =
    let more : n ≡ suc (n - 1) = omega arith in
    ap (λ (m : ℕ). samples_in o f m bytes) more ∙ cc
