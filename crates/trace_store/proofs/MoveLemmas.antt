-- Traces of which one is moved.
use Rattle.std.proofs.Common.{◌≡◌, ℕ, ◌+◌, ◌-◌, ◌<◌, ◌≤◌, List, [], length, sym, ap, ◌∙◌, arith, inl, inr}
use Rattle.std.specs.Prelude.{slice_index_or}
use Rattle.std.specs.List.{remove}
use Rattle.std.proofs.lemmas.Bool.{cases_eq, cases_lt}
use Rattle.std.proofs.lemmas.List.Edits.{get_or-insert_above, get_or-insert_at, get_or-insert_below, get_or-remove_above, get_or-remove_below, length-insert, length-remove}
use Rattle.trace_store.specs.Ahead.{traces_moved}
use Rattle.trace_store.proofs.LengthLemmas.{total, total-insert, total-remove}

-- there are traces a and b
pub record AreTraces (ts : List (List ℕ)) (a b : ℕ) : Type 0 where
  pub from_first : 1 ≤ a
  pub from_last : a ≤ length ts
  pub to_first : 1 ≤ b
  pub to_last : b ≤ length ts

pub length-moved : (ts : List (List ℕ)) (a b : ℕ) → AreTraces ts a b → length (traces_moved ts a b) ≡ length ts
length-moved ts a b there =
    let short : a - 1 < length ts = omega (arith, there.from_first, there.from_last) in
    let less : length (remove ts (a - 1)) + 1 ≡ length ts = length-remove ts (a - 1) short in
    let inside : b - 1 ≤ length (remove ts (a - 1)) = omega (arith, less, there.to_last) in
    omega (arith, less, length-insert (remove ts (a - 1)) (b - 1) (slice_index_or ts (a - 1) []) inside)

pub total-moved : (ts : List (List ℕ)) (a b : ℕ) → AreTraces ts a b → total (traces_moved ts a b) ≡ total ts
total-moved ts a b there =
    let short : a - 1 < length ts = omega (arith, there.from_first, there.from_last) in
    omega (arith, total-insert (remove ts (a - 1)) (b - 1) (slice_index_or ts (a - 1) []), total-remove ts (a - 1) short)

-- trace p of those with trace a moved to b was trace q
pub record ComesFrom (a b p q : ℕ) : Type 0 where
  pub moved : p ≡ b → q ≡ a
  pub forth : a ≤ p → p < b → q ≡ p + 1
  pub back : b < p → p ≤ a → q ≡ p - 1
  pub in_front : p < a → p < b → q ≡ p
  pub behind : a < p → b < p → q ≡ p

module _ (ts : List (List ℕ)) (a b p q : ℕ) (there : AreTraces ts a b) (from : ComesFrom a b p q) (first : 1 ≤ p) where
  abbrev left : List (List ℕ)
  left = remove ts (a - 1)

  short : a - 1 < length ts
  short = omega (arith, there.from_first, there.from_last)

  inside : b - 1 ≤ length left
  inside = omega (arith, there.to_last, length-remove ts (a - 1) short)

  at_target : p ≡ b → slice_index_or (traces_moved ts a b) (p - 1) [] ≡ slice_index_or ts (q - 1) []
  at_target e =
      let same : q ≡ a = from.moved e in
      ap (λ (k : ℕ). slice_index_or (traces_moved ts a b) (k - 1) []) e
      ∙ (get_or-insert_at left (b - 1) (slice_index_or ts (a - 1) []) [] inside
      ∙ ap (λ (k : ℕ). slice_index_or ts (k - 1) []) (sym same))

  in_front_of : p < b → slice_index_or (traces_moved ts a b) (p - 1) [] ≡ slice_index_or ts (q - 1) []
  in_front_of h =
      get_or-insert_below left (b - 1) (slice_index_or ts (a - 1) []) [] (p - 1) (omega (arith, h, first)) inside
      ∙ elim (cases_lt p a) [
        | inl below ↦
            let same : p - 1 ≡ q - 1 = omega (arith, from.in_front below h) in
            get_or-remove_below ts (a - 1) [] (p - 1) (omega (arith, below, first)) short ∙ ap (λ (k : ℕ). slice_index_or ts k []) same
        | inr above ↦
            let same : p - 1 + 1 ≡ q - 1 = omega (arith, from.forth (omega (arith, above)) h, first) in
            get_or-remove_above ts (a - 1) [] (p - 1) (omega (arith, above)) short ∙ ap (λ (k : ℕ). slice_index_or ts k []) same
      ]

  behind_it : b < p → slice_index_or (traces_moved ts a b) (p - 1) [] ≡ slice_index_or ts (q - 1) []
  behind_it h =
      let place : p - 1 ≡ p - 2 + 1 = omega (arith, h, there.to_first) in
      ap (λ (k : ℕ). slice_index_or (traces_moved ts a b) k []) place
      ∙ (get_or-insert_above left (b - 1) (slice_index_or ts (a - 1) []) [] (p - 2) (omega (arith, h, there.to_first)) inside
      ∙ elim (cases_lt a p) [
        | inl above ↦
            let same : p - 2 + 1 ≡ q - 1 = omega (arith, from.behind above h, h, there.to_first) in
            get_or-remove_above ts (a - 1) [] (p - 2) (omega (arith, above)) short ∙ ap (λ (k : ℕ). slice_index_or ts k []) same
        | inr below ↦
            let same : p - 2 ≡ q - 1 = omega (arith, from.back h (omega (arith, below))) in
            get_or-remove_below ts (a - 1) [] (p - 2) (omega (arith, below, h, there.to_first)) short ∙ ap (λ (k : ℕ). slice_index_or ts k []) same
      ])

  pub moved-at : slice_index_or (traces_moved ts a b) (p - 1) [] ≡ slice_index_or ts (q - 1) []
  moved-at = elim (cases_eq p b) [
    | inl e ↦ at_target e
    | inr ne ↦ elim (cases_lt p b) [
      | inl below ↦ in_front_of below
      | inr above ↦ behind_it (omega (arith, above, ne))
    ]
  ]
