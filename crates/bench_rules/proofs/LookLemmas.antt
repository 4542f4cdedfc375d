-- What is told after calls that look at traces.
use Rattle.std.proofs.Common.{◌≡◌, ◌∙◌, ℕ, ◌+◌, arith}
use Rattle.std.specs.Prelude.{Result, Ok, Err, IfOk, IfErr}
use Rattle.edit_overlay.specs.CountedVolume.{CountedVolume, IsSeen}

-- ---- what an overlay is

module _ {T : Type 0} where
  -- after one call more
  pub seen_after : (old now last : CountedVolume T) (n m : ℕ) → IsSeen old now n → IsSeen now last m → IsSeen old last (n + m)
  seen_after old now last n m before more =
      let one = before.looks in
      let other = more.looks in
      record {
        volume = more.volume ∙ before.volume;
        prepared = more.prepared ∙ before.prepared;
        payloads = more.payloads ∙ before.payloads;
        payloads_prepared = more.payloads_prepared ∙ before.payloads_prepared;
        loaded = more.loaded ∙ before.loaded;
        looks = (omega (arith, one, other), omega (arith, one, other));
        reads = record { agreed = λ sure. before.reads.agreed (more.reads.agreed sure); failures = omega (arith, before.reads.failures, more.reads.failures) };
      }

-- ---- results

module _ {X E : Type 0} where
  pub if_err : {P Q : E → Type 0} (r : Result X E) → ((e : E) → P e → Q e) → IfErr r P → IfErr r Q
  if_err (Ok x) f p = p
  if_err (Err e) f p = f e p

  -- the value is another one where it is known to be the same
  pub if_sure : {P : Type 0} {x y : X} (r : Result X E) → (P → x ≡ y) → IfOk r (λ a. a ≡ x) → IfOk r (λ a. P → a ≡ y)
  if_sure (Ok a) same is = λ sure. is ∙ same sure
  if_sure (Err e) same is = is
