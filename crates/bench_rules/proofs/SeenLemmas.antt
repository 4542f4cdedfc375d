-- What an overlay is after looks at its traces.
use Rattle.std.specs.Prelude.{◌≡◌, ℕ, ◌+◌, ◌-◌, ◌≤◌, ◌^◌, nat_lt, Bool, true, false, if◌then◌else◌, refl}
use Rattle.std.proofs.Common.{arith, sym, ap, subst, ◌∙◌}
use Rattle.edit_overlay.specs.CountedVolume.{CountedVolume, one_more, RisesAtMost, after_look, IsSeen}
use Rattle.edit_overlay.specs.Reads.{Follow}

-- a count of looks after one more
rises_by_one : (n : ℕ) → RisesAtMost n (one_more n) 1
rises_by_one n = by (nat_lt n (2 ^ 64 - 1))
  where
    by : (b : Bool) → RisesAtMost n (if b then n + 1 else n) 1
    by true = (omega arith, omega arith)
    by false = (omega arith, omega arith)

module _ {T : Type 0} where
  -- it is as it was
  pub seen_none : (o : CountedVolume T) → IsSeen o o 0
  seen_none o = record { volume = refl; prepared = refl; payloads = refl; payloads_prepared = refl; loaded = refl; looks = (omega arith, omega arith); reads = record { agreed = λ sure. sure; failures = omega arith } }

  -- after one look more
  pub seen_more : (old now last : CountedVolume T) (n : ℕ) → IsSeen old now n → last ≡ after_look now last.reads → Follow now.reads last.reads → IsSeen old last (n + 1)
  seen_more old now last n seen look fell =
      let rose = seen.looks in
      let one = rises_by_one now.looks in
      let counted : last.looks ≡ one_more now.looks = ap (λ (o : CountedVolume T). o.looks) look in
      let rise : RisesAtMost old.looks (one_more now.looks) (n + 1) = (omega (arith, rose, one), omega (arith, rose, one)) in
      record {
        volume = ap (λ (o : CountedVolume T). o.volume) look ∙ seen.volume;
        prepared = ap (λ (o : CountedVolume T). o.prepared) look ∙ seen.prepared;
        payloads = ap (λ (o : CountedVolume T). o.payloads) look ∙ seen.payloads;
        payloads_prepared = ap (λ (o : CountedVolume T). o.payloads_prepared) look ∙ seen.payloads_prepared;
        loaded = ap (λ (o : CountedVolume T). o.loaded) look ∙ seen.loaded;
        looks = subst (λ (k : ℕ). RisesAtMost old.looks k (n + 1)) (sym counted) rise;
        reads = record { agreed = λ sure. seen.reads.agreed (fell.agreed sure); failures = omega (arith, seen.reads.failures, fell.failures) };
      }

  -- after at most so many
  pub seen_at_most : (old now : CountedVolume T) (n m : ℕ) → IsSeen old now n → n ≤ m → IsSeen old now m
  seen_at_most old now n m seen less =
      let rose = seen.looks in
      record {
        volume = seen.volume;
        prepared = seen.prepared;
        payloads = seen.payloads;
        payloads_prepared = seen.payloads_prepared;
        loaded = seen.loaded;
        looks = (rose.0, omega (arith, rose.1, less));
        reads = seen.reads;
      }
