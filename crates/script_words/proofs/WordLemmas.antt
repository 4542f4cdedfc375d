-- How the words of a line are taken one by one.
use Rattle.std.proofs.Common.{◌≡◌, ℕ, ◌+◌, ◌<◌, ◌≤◌, suc, length, List, [], ◌∷◌, Bool, true, false, not, cond, get_or, take, drop, filter, arith, refl, Some, None, ◌∙◌, sym, ap, drop-cons, length-take, add-one, ap₂, drop-drop, inl, inr}
use Rattle.std.specs.Prelude.{position}
use Rattle.std.specs.List.{position_or_len, slice_split, onto_first}
use Rattle.std.proofs.lemmas.List.{drop_all, take_all}
use Rattle.std.proofs.lemmas.List.Sums.{prefix_len-le-length, prefix_len-drop_yes, passes_at_first}
use Rattle.std.proofs.lemmas.List.Splits.{slice_split-cons_yes, slice_split-cons_no, slice_split_first}
use Rattle.std.proofs.lemmas.Bool.Decides.{nat_tests, leb_tells}
use Rattle.script_words.specs.Words.{is_word, is_gap, words_of}
use Rattle.script_words.proofs.PositionLemmas.{none_is, some_is, some_in, some_passes}

module _ (p : ℕ → Bool) where
  -- what stands between the elements that pass, where it is not empty
  abbrev kept : List ℕ → List (List ℕ)
  kept xs = filter is_word (slice_split p xs)

  kept-cons : (x : ℕ) (xs : List ℕ) → p x ≡ true → kept (x ∷ xs) ≡ kept xs
  kept-cons x xs e = ap (filter is_word) (slice_split-cons_yes p x xs e)

  -- the elements in front that pass do not count
  pub kept-skip : (xs : List ℕ) → kept (drop (position_or_len (λ c. not (p c)) xs) xs) ≡ kept xs
  kept-skip [] = refl
  kept-skip (x ∷ xs) =
      let n = position_or_len (λ c. not (p c)) xs in
      elim (p x) as (λ b. p x ≡ b → kept (drop (cond (not (not b)) (1 + n) 0) (x ∷ xs)) ≡ kept (x ∷ xs))
      [ true ↦ λ e. ap kept (sym (drop-drop n 1 (x ∷ xs))) ∙ kept-skip xs ∙ sym (kept-cons x xs e) | false ↦ λ e. refl ] refl

  -- without one that passes there is one part
  one_part : (xs : List ℕ) → length xs ≤ position_or_len p xs → slice_split p xs ≡ xs ∷ []
  one_part [] h = refl
  one_part (x ∷ xs) h =
      elim (p x) as (λ b. p x ≡ b → suc (length xs) ≤ cond (not b) (1 + position_or_len p xs) 0 → slice_split p (x ∷ xs) ≡ (x ∷ xs) ∷ [])
      [ true ↦ λ e g. absurd (omega arith) | false ↦ λ e g. slice_split-cons_no p x xs e ∙ ap (onto_first x) (one_part xs (omega arith)) ] refl h

  filter-word : (w : List ℕ) (ws : List (List ℕ)) → 0 < length w → filter is_word (w ∷ ws) ≡ w ∷ filter is_word ws
  filter-word w ws h = grind (arith, nat_tests)

  -- what stands in front of the first element that passes comes first
  pub kept-first : (xs : List ℕ) → 0 < position_or_len p xs → kept xs ≡ take (position_or_len p xs) xs ∷ kept (drop (position_or_len p xs) xs)
  kept-first xs h =
      let n = position_or_len p xs in
      let within : n ≤ length xs = prefix_len-le-length (λ x. not (p x)) xs in
      elim (leb_tells (length xs) n) [
        | inl all ↦
            ap (filter is_word) (one_part xs all.1) ∙ filter-word xs [] (omega arith)
            ∙ sym (ap₂ (λ a b. a ∷ kept b) (take_all n xs all.1) (drop_all n xs all.1))
        | inr some ↦
            ap (filter is_word) (slice_split_first p xs 0 some.1)
            ∙ filter-word (take n xs) (slice_split p (drop (n + 1) xs)) (omega (arith, length-take n xs))
            ∙ ap (λ k. take n xs ∷ k) (sym (ap kept (drop-cons xs n 0 some.1) ∙ kept-cons (get_or xs n 0) (drop (suc n) xs) (passes_at_first p xs 0 some.1) ∙ ap (λ m. kept (drop m xs)) (sym (add-one n))))
      ]

-- a line of blanks and tabs alone has no word
pub no_words : (line : List ℕ) → position (λ c. not (is_gap c)) line ≡ None → words_of line ≡ []
no_words line e =
    let all : position_or_len (λ c. not (is_gap c)) line ≡ length line = none_is (λ c. not (is_gap c)) line e in
    sym (kept-skip is_gap line) ∙ ap (kept is_gap) (drop_all (position_or_len (λ c. not (is_gap c)) line) line (omega arith))

-- the first word begins at the first character that is no blank and no tab
pub first_word : (line : List ℕ) (s : ℕ) → position (λ c. not (is_gap c)) line ≡ Some s
    → words_of line ≡ take (position_or_len is_gap (drop s line)) (drop s line) ∷ words_of (drop (position_or_len is_gap (drop s line)) (drop s line))
first_word line s e =
    let at : position_or_len (λ c. not (is_gap c)) line ≡ s = some_is (λ c. not (is_gap c)) line s e in
    let more = prefix_len-drop_yes (λ c. not (is_gap c)) line s 0 (some_in (λ c. not (is_gap c)) line s e) (some_passes (λ c. not (is_gap c)) line s e) in
    sym (ap (λ n. kept is_gap (drop n line)) (sym at) ∙ kept-skip is_gap line) ∙ kept-first is_gap (drop s line) (omega (arith, more))

-- the line's words are the word that was cut off and those of the rest
pub next_is : (line text word rest : List ℕ) (s n : ℕ) → position (λ c. not (is_gap c)) line ≡ Some s → text ≡ drop s line
    → n ≡ position_or_len is_gap text → word ≡ take n text → rest ≡ drop n text → words_of line ≡ word ∷ words_of rest
next_is line text word rest s n at text_is n_is word_is rest_is = rw (word_is, rest_is, n_is, text_is) (first_word line s at)
