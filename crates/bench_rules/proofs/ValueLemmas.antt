-- Values and their bytes, one more at a time.
use Rattle.std.proofs.Common.{◌≡◌, ℕ, ℤ, zero, suc, ◌+◌, ◌<◌, Bool, true, false, List, [], ◌∷◌, ◌++◌, length, take, get_or, pos, refl, sym, ap, ◌∙◌, arith, append_assoc, append-nil}
use Rattle.std.specs.Prelude.{replicate}
use Rattle.std.specs.List.{list_all}
use Rattle.std.proofs.lemmas.List.Folds.{list_all_at, list_all_more}
use Rattle.num_order.specs.declared.order.Order.{Order}
use Rattle.sample_codes.specs.declared.value_format.ValueFormat.{ValueFormat}
use Rattle.sample_codes.specs.Formats.{sample_fits, samples_bytes, sample_bytes}
use Rattle.bench_rules.proofs.SetLemmas.{both}

-- where all fit up to here, and the next one
pub one_more_fits : (f : ValueFormat) (xs : List ℤ) (i : ℕ) (x : ℤ) → i < length xs → x ≡ get_or xs i (pos 0) → list_all (sample_fits f) (take i xs) ≡ true → true ≡ sample_fits f x → list_all (sample_fits f) (take (i + 1) xs) ≡ true
one_more_fits f xs i x h is so fit = rw (list_all_more (sample_fits f) xs i (pos 0) h, so, ← is, ← fit) refl

-- where one does not
pub one_does_not_fit : (f : ValueFormat) (xs : List ℤ) (i : ℕ) (x : ℤ) → i < length xs → x ≡ get_or xs i (pos 0) → false ≡ sample_fits f x → false ≡ list_all (sample_fits f) xs
one_does_not_fit f xs i x h is fit = sym (list_all_at (sample_fits f) xs i (pos 0) h (ap (sample_fits f) (sym is) ∙ sym fit))

-- each fits where all do
pub each_fits : (p : ℤ → Bool) (xs : List ℤ) (i : ℕ) → i < length xs → list_all p xs ≡ true → p (get_or xs i (pos 0)) ≡ true
each_fits p [] i h e = absurd (omega arith)
each_fits p (x ∷ xs) zero h e = (both (p x) (list_all p xs) e).0
each_fits p (x ∷ xs) (suc i) h e = each_fits p xs i (omega arith) (both (p x) (list_all p xs) e).1

-- the bytes of one more value stand behind the others
pub one_more_sample : (o : Order) (f : ValueFormat) (xs : List ℤ) (i : ℕ) → i < length xs → samples_bytes o f (take (i + 1) xs) ≡ samples_bytes o f (take i xs) ++ sample_bytes o f (get_or xs i (pos 0))
one_more_sample o f [] i h = absurd (omega arith)
one_more_sample o f (x ∷ xs) zero h = append-nil (sample_bytes o f x)
one_more_sample o f (x ∷ xs) (suc i) h =
    let rest = one_more_sample o f xs i (omega arith) in
    let at : suc i + 1 ≡ suc (i + 1) = omega arith in
    ap (λ (k : ℕ). samples_bytes o f (take k (x ∷ xs))) at
    ∙ ap (λ (s : List ℕ). sample_bytes o f x ++ s) rest
    ∙ sym (append_assoc (sample_bytes o f x) (samples_bytes o f (take i xs)) (sample_bytes o f (get_or xs i (pos 0))))

-- and so do they where the bytes so far are those of the values so far
pub one_more_value : (o : Order) (f : ValueFormat) (xs : List ℤ) (i : ℕ) (x : ℤ) (old new all : List ℕ) → i < length xs → x ≡ get_or xs i (pos 0) → old ≡ samples_bytes o f (take i xs) → new ≡ sample_bytes o f x → all ≡ old ++ new
    → all ≡ samples_bytes o f (take (i + 1) xs)
one_more_value o f xs i x old new all h is e g joined = joined ∙ rw (e, g, is) (sym (one_more_sample o f xs i h))

-- the bytes of one more sample of the same value stand behind the others
pub one_more_repeated : (o : Order) (f : ValueFormat) (x : ℤ) (n : ℕ) → samples_bytes o f (replicate (n + 1) x) ≡ samples_bytes o f (replicate n x) ++ sample_bytes o f x
one_more_repeated o f x zero = append-nil (sample_bytes o f x)
one_more_repeated o f x (suc n) =
    let at : suc n + 1 ≡ suc (n + 1) = omega arith in
    ap (λ (k : ℕ). samples_bytes o f (replicate k x)) at
    ∙ ap (λ (s : List ℕ). sample_bytes o f x ++ s) (one_more_repeated o f x n)
    ∙ sym (append_assoc (sample_bytes o f x) (samples_bytes o f (replicate n x)) (sample_bytes o f x))
