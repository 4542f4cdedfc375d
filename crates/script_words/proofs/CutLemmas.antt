-- A line that is cut behind one of its words.
use Rattle.std.proofs.Common.{◌≡◌, ◌∙◌, sym, ap, subst, refl, arith, ℕ, ◌+◌, ◌-◌, ◌<◌, ◌≤◌, length, List, [], ◌∷◌, ◌++◌, true, false, not, cond, take, drop, filter, Some, None, append_assoc, append-nil, drop-drop}
use Rattle.std.specs.List.{slice_split, onto_first, prefix_len}
use Rattle.std.specs.Str.{IsUtf8, IsCharBoundary}
use Rattle.std.proofs.lemmas.List.{append_cancel_right, take_at, take-append-drop, length-append}
use Rattle.std.proofs.lemmas.List.Splits.{slice_split-cons_yes, slice_split-cons_no, length-slice_split}
use Rattle.std.proofs.lemmas.Str.{IsCharBoundary-at_seam}
use Rattle.script_words.specs.Words.{is_word, is_gap, words_of, behind_word, without_gap}
use Rattle.script_words.specs.Conditions.{begins_conditions, in_front, behind_where}

-- ---- words of texts that are joined at a blank

onto_joined : (x : ℕ) (us vs : List (List ℕ)) → 0 < length us → onto_first x (us ++ vs) ≡ onto_first x us ++ vs
onto_joined x [] vs h = absurd (omega (arith, h))
onto_joined x (a ∷ us) vs h = refl

split_joined : (xs : List ℕ) (c : ℕ) (cs : List ℕ) → is_gap c ≡ true → slice_split is_gap (xs ++ c ∷ cs) ≡ slice_split is_gap xs ++ slice_split is_gap cs
split_joined [] c cs e = slice_split-cons_yes is_gap c cs e
split_joined (x ∷ xs) c cs e =
    let some : 0 < length (slice_split is_gap xs) = omega (arith, length-slice_split is_gap xs) in
    elim (is_gap x) as (λ b. is_gap x ≡ b → slice_split is_gap (x ∷ xs ++ c ∷ cs) ≡ slice_split is_gap (x ∷ xs) ++ slice_split is_gap cs) [
      | true ↦ λ f.
          slice_split-cons_yes is_gap x (xs ++ c ∷ cs) f ∙ ap (λ (r : List (List ℕ)). [] ∷ r) (split_joined xs c cs e)
          ∙ ap (λ (r : List (List ℕ)). r ++ slice_split is_gap cs) (sym (slice_split-cons_yes is_gap x xs f))
      | false ↦ λ f.
          slice_split-cons_no is_gap x (xs ++ c ∷ cs) f ∙ ap (onto_first x) (split_joined xs c cs e) ∙ onto_joined x (slice_split is_gap xs) (slice_split is_gap cs) some
          ∙ ap (λ (r : List (List ℕ)). r ++ slice_split is_gap cs) (sym (slice_split-cons_no is_gap x xs f))
    ] refl

filter_joined : (us vs : List (List ℕ)) → filter is_word (us ++ vs) ≡ filter is_word us ++ filter is_word vs
filter_joined [] vs = refl
filter_joined (a ∷ us) vs =
    elim (is_word a) as (λ b. cond b (a ∷ filter is_word (us ++ vs)) (filter is_word (us ++ vs)) ≡ cond b (a ∷ filter is_word us) (filter is_word us) ++ filter is_word vs)
    [ true ↦ ap (λ (r : List (List ℕ)). a ∷ r) (filter_joined us vs) | false ↦ filter_joined us vs ]

-- nothing, or a blank or a tab first
abbrev BeginsWithGap : List ℕ → Type 0
BeginsWithGap [] = Unit {0}
BeginsWithGap (c ∷ cs) = is_gap c ≡ true

words_joined : (xs ys : List ℕ) → BeginsWithGap ys → words_of (xs ++ ys) ≡ words_of xs ++ words_of ys
words_joined xs [] g = ap words_of (append-nil xs) ∙ sym (append-nil (words_of xs))
words_joined xs (c ∷ cs) g =
    ap (filter is_word) (split_joined xs c cs g) ∙ filter_joined (slice_split is_gap xs) (slice_split is_gap cs)
    ∙ ap (λ (r : List (List ℕ)). words_of xs ++ r) (sym (ap (filter is_word) (slice_split-cons_yes is_gap c cs g)))

-- ---- what stands behind a word

gap_first : (xs : List ℕ) → BeginsWithGap (drop (prefix_len (λ c. not (is_gap c)) xs) xs)
gap_first [] = tt
gap_first (x ∷ xs) =
    let n = prefix_len (λ c. not (is_gap c)) xs in
    elim (is_gap x) as (λ b. is_gap x ≡ b → BeginsWithGap (drop (cond (not b) (1 + n) 0) (x ∷ xs)))
    [ true ↦ λ e. e | false ↦ λ e. subst (λ (r : List ℕ). BeginsWithGap r) (drop-drop n 1 (x ∷ xs)) (gap_first xs) ] refl

behind_begins : (line rest : List ℕ) → rest ≡ behind_word line → BeginsWithGap rest
behind_begins line rest e = subst (λ (r : List ℕ). BeginsWithGap r) (sym e) (gap_first (without_gap line))

-- ---- a cut of a text

-- what stands in front of the rest
abbrev pub front_of : List ℕ → List ℕ → List ℕ
front_of text rest = take (length text - length rest) text

-- the rest stands at the end of the text, behind a word; no conditions begin in front of it
pub record IsCutAt (text rest : List ℕ) : Type 0 where
  joined : text ≡ front_of text rest ++ rest
  words : words_of text ≡ words_of (front_of text rest) ++ words_of rest
  front : in_front (words_of text) ≡ words_of (front_of text rest) ++ in_front (words_of rest)
  behind : behind_where (words_of text) ≡ behind_where (words_of rest)

seam : (text f r : List ℕ) → text ≡ f ++ r → front_of text r ≡ f
seam text f r e =
    let long : length f ≡ length text - length r = omega (arith, length-append f r, ap length e) in
    ap (take (length text - length r)) e ∙ take_at f r (length text - length r) long

-- in front of the text itself nothing stands
pub nothing_cut : (text rest : List ℕ) → rest ≡ text → IsCutAt text rest
nothing_cut text rest e =
    let none : front_of text rest ≡ [] = seam text [] rest (sym e) in
    record {
      joined = sym (ap (λ f. f ++ rest) none ∙ e);
      words = sym (ap (λ f. words_of f ++ words_of rest) none ∙ ap words_of e);
      front = sym (ap (λ f. words_of f ++ in_front (words_of rest)) none ∙ ap (λ r. in_front (words_of r)) e);
      behind = ap (λ r. behind_where (words_of r)) (sym e);
    }

-- one word more, where no conditions begin
module _ (text rest new word : List ℕ) (cut : IsCutAt text rest) (first : words_of rest ≡ word ∷ words_of new) (is : new ≡ behind_word rest) (none : begins_conditions (words_of rest) ≡ false) where
  abbrev passed : ℕ
  passed = prefix_len is_gap rest + prefix_len (λ c. not (is_gap c)) (without_gap rest)

  dropped : new ≡ drop passed rest
  dropped = is ∙ drop-drop (prefix_len (λ c. not (is_gap c)) (without_gap rest)) (prefix_len is_gap rest) rest

  parts : text ≡ (front_of text rest ++ take passed rest) ++ new
  parts =
      cut.joined ∙ ap (λ r. front_of text rest ++ r) (sym (take-append-drop passed rest) ∙ ap (λ r. take passed rest ++ r) (sym dropped))
      ∙ sym (append_assoc (front_of text rest) (take passed rest) new)

  joined_again : text ≡ front_of text new ++ new
  joined_again = parts ∙ ap (λ f. f ++ new) (sym (seam text (front_of text rest ++ take passed rest) new parts))

  words_again : words_of text ≡ words_of (front_of text new) ++ words_of new
  words_again = ap words_of joined_again ∙ words_joined (front_of text new) new (behind_begins rest new is)

  one_more : words_of (front_of text new) ≡ words_of (front_of text rest) ++ word ∷ []
  one_more =
      append_cancel_right (words_of (front_of text new)) (words_of (front_of text rest) ++ word ∷ []) (words_of new)
      (sym words_again ∙ cut.words ∙ ap (λ r. words_of (front_of text rest) ++ r) first ∙ sym (append_assoc (words_of (front_of text rest)) (word ∷ []) (words_of new)))

  none_here : begins_conditions (word ∷ words_of new) ≡ false
  none_here = ap begins_conditions (sym first) ∙ none

  kept_in_front : in_front (words_of rest) ≡ word ∷ in_front (words_of new)
  kept_in_front = ap in_front first ∙ ap (λ b. cond b [] (word ∷ in_front (words_of new))) none_here

  pub one_cut_more : IsCutAt text new
  one_cut_more = record {
    joined = joined_again;
    words = words_again;
    front = cut.front ∙ ap (λ r. words_of (front_of text rest) ++ r) kept_in_front
        ∙ sym (append_assoc (words_of (front_of text rest)) (word ∷ []) (in_front (words_of new)))
        ∙ ap (λ r. r ++ in_front (words_of new)) (sym one_more);
    behind = cut.behind ∙ ap behind_where first ∙ ap (λ b. cond b (Some (words_of new)) (behind_where (words_of new))) none_here;
  }

-- no words are left: there are no conditions
pub no_conditions : (text rest : List ℕ) → IsCutAt text rest → words_of rest ≡ [] → behind_where (words_of text) ≡ None
no_conditions text rest cut e = cut.behind ∙ ap behind_where e

-- conditions begin
module _ (text rest new word : List ℕ) (cut : IsCutAt text rest) (begin : begins_conditions (words_of rest) ≡ true) (first : words_of rest ≡ word ∷ words_of new) where
  begin_here : begins_conditions (word ∷ words_of new) ≡ true
  begin_here = ap begins_conditions (sym first) ∙ begin

  pub front_is : (front : List ℕ) → front ≡ front_of text rest → words_of front ≡ in_front (words_of text)
  front_is front e =
      let nothing : in_front (words_of rest) ≡ [] = ap in_front first ∙ ap (λ b. cond b [] (word ∷ in_front (words_of new))) begin_here in
      ap words_of e ∙ sym (cut.front ∙ ap (λ r. words_of (front_of text rest) ++ r) nothing ∙ append-nil (words_of (front_of text rest)))

  pub behind_is : behind_where (words_of text) ≡ Some (words_of new)
  behind_is = cut.behind ∙ ap behind_where first ∙ ap (λ b. cond b (Some (words_of new)) (behind_where (words_of new))) begin_here

pub cut_within : (text rest : List ℕ) → IsCutAt text rest → length rest ≤ length text
cut_within text rest cut = omega (arith, length-append (front_of text rest) rest, ap length cut.joined)

-- the rest begins between characters
pub cut_boundary : (text rest : List ℕ) → IsCutAt text rest → IsUtf8 rest → IsCharBoundary text (length text - length rest)
cut_boundary text rest cut u =
    let long : length (front_of text rest) ≡ length text - length rest = omega (arith, length-append (front_of text rest) rest, ap length cut.joined) in
    subst (λ (n : ℕ). IsCharBoundary text n) long (IsCharBoundary-at_seam text (front_of text rest) rest cut.joined u)
