-- The samples of a trace that are floats.
use Rattle.std.proofs.Common.{◌≡◌, ◌≤◌, ◌^◌, ℕ, zero, suc, ℤ, Bool, true, false, List, [], ◌∷◌, length, drop, take, Option, Some, None, arith}
use Rattle.std.specs.Prelude.{All}
use Rattle.std.specs.Option.{option_map_or}
use Rattle.std.proofs.lemmas.List.Elements.{All-nil, All-cons}
use Rattle.num_order.specs.declared.order.Order.{Order}
use Rattle.num_order.specs.Number.{is_between, unsigned}
use Rattle.float_codes.specs.declared.float_format.FloatFormat.{FloatFormat}
use Rattle.float_codes.specs.Values.{float_width}
use Rattle.float_codes.proofs.CodeLemmas.{rank_is_small}
use Rattle.sample_codes.specs.declared.value_format.ValueFormat.{ValueFormat}
use Rattle.sample_codes.specs.declared.value_format.ValueFormat.TheVariants.{Integer, Float}
use Rattle.sample_codes.specs.Formats.{values, is_float}
use Rattle.frame_cut.specs.declared.file_head.Head.{Head}
use Rattle.frame_cut.specs.Frames.{sample_count}
use Rattle.trace_view.specs.Values.{has_floats, samples_in, samples_of, sample_bytes}
use Rattle.trace_record.proofs.SampleLemmas.{length-samples_in}

ranks_in : (o : Order) (f : FloatFormat) (n : ℕ) (bytes : List ℕ) → All (λ r. is_between true 8 r ≡ true) (samples_in o (Float f) n bytes)
ranks_in o f zero bytes = All-nil (λ r. is_between true 8 r ≡ true)
ranks_in o f (suc n) bytes =
    All-cons (λ r. is_between true 8 r ≡ true) _ _ (rank_is_small f (unsigned o (take (float_width f) bytes))) (ranks_in o f n (drop (float_width f) bytes))

-- the samples of a trace of floats are such
pub samples_are_ranks : (h : Head) (t : List ℕ) → has_floats h ≡ true → All (λ r. is_between true 8 r ≡ true) (samples_of h t)
samples_are_ranks h t is = by (values h.format) is
  where
    by : (o : Option ValueFormat) → option_map_or is_float o false ≡ true → All (λ r. is_between true 8 r ≡ true) (option_map_or (λ f. samples_in h.order f (sample_count h t) (sample_bytes h t)) o [])
    by None e = absurd cc
    by (Some (Integer f)) e = absurd cc
    by (Some (Float f)) e = ranks_in h.order f (sample_count h t) (sample_bytes h t)

-- and at most as many as the trace has
pub few_samples : (h : Head) (t : List ℕ) (n : ℕ) → sample_count h t ≤ n → length (samples_of h t) ≤ n
few_samples h t n few = by (values h.format)
  where
    by : (o : Option ValueFormat) → length (option_map_or (λ f. samples_in h.order f (sample_count h t) (sample_bytes h t)) o []) ≤ n
    by None = omega arith
    by (Some f) = omega (arith, few, length-samples_in h.order f (sample_count h t) (sample_bytes h t))
