-- Words begin and end between characters.
use Rattle.std.proofs.Common.{◌≡◌, ℕ, zero, suc, ◌+◌, ◌<◌, ◌≤◌, length, List, Bool, true, false, not, ◌||◌, eqb, get_or, drop, arith, refl, Some, ◌∙◌, inl, inr, sym, ap, subst, cond, [], ◌∷◌}
use Rattle.std.specs.Prelude.{position, slice_get}
use Rattle.std.specs.List.{position_or_len, prefix_len}
use Rattle.std.specs.Str.{IsUtf8, IsCharBoundary}
use Rattle.std.proofs.lemmas.Bool.{eqb-true}
use Rattle.std.proofs.lemmas.Bool.Decides.{leb_tells}
use Rattle.std.proofs.lemmas.List.Sums.{prefix_len-le-length, prefix_len_passes, passes_at_first}
use Rattle.std.proofs.lemmas.Str.{IsCharBoundary-start, IsCharBoundary-end, IsCharBoundary-before_ascii, IsCharBoundary-after_ascii}
use Rattle.script_words.specs.Words.{is_gap, behind_word}
use Rattle.script_words.proofs.PositionLemmas.{some_is, some_in}

either : (a b : Bool) (c : ℕ) → (a ≡ true → c < 128) → (b ≡ true → c < 128) → (a || b) ≡ true → c < 128
either true b c f g e = f refl
either false b c f g e = g e

-- blanks and tabs are ASCII
pub gap_is_ascii : (c : ℕ) → is_gap c ≡ true → c < 128
gap_is_ascii c e = either (eqb c 32) (eqb c 9) c (λ f. let is : c ≡ 32 = eqb-true c 32 f in omega arith) (λ f. let is : c ≡ 9 = eqb-true c 9 f in omega arith) e

twice : (b : Bool) → not (not b) ≡ true → b ≡ true
twice true e = refl
twice false e = absurd cc

-- a word begins between characters
pub word_begins : (text : List ℕ) (s : ℕ) → IsUtf8 text → position (λ c. not (is_gap c)) text ≡ Some s → IsCharBoundary text s
word_begins text zero u e = IsCharBoundary-start text u
word_begins text (suc k) u e =
    let at : position_or_len (λ c. not (is_gap c)) text ≡ suc k = some_is (λ c. not (is_gap c)) text (suc k) e in
    let inside : suc k < length text = some_in (λ c. not (is_gap c)) text (suc k) e in
    let gap : is_gap (get_or text k 0) ≡ true = twice (is_gap (get_or text k 0)) (prefix_len_passes (λ c. not (not (is_gap c))) text k 0 (omega (arith, at))) in
    let next : k + 1 ≡ suc k = omega arith in
    subst (λ (i : ℕ). IsCharBoundary text i) next (IsCharBoundary-after_ascii text k u (omega arith) (gap_is_ascii (get_or text k 0) gap))

-- and ends between characters
pub word_ends : (text : List ℕ) (n : ℕ) → n ≡ position_or_len is_gap text → IsCharBoundary text n
word_ends text n e =
    let within : n ≤ length text = omega (arith, e, prefix_len-le-length (λ x. not (is_gap x)) text) in
    elim (leb_tells (length text) n) [
      | inl all ↦ let same : length text ≡ n = omega (arith, within, all.1) in subst (λ (i : ℕ). IsCharBoundary text i) same (IsCharBoundary-end text)
      | inr some ↦
          let some_at : position_or_len is_gap text < length text = omega (arith, e, some.1) in
          let gap : is_gap (get_or text n 0) ≡ true = subst (λ (i : ℕ). is_gap (get_or text i 0) ≡ true) (sym e) (passes_at_first is_gap text 0 some_at) in
          IsCharBoundary-before_ascii text n some.1 (gap_is_ascii (get_or text n 0) gap)
    ]

-- the place of the first character is the number of blanks and tabs in front
gap_length : (xs : List ℕ) → position_or_len (λ c. not (is_gap c)) xs ≡ prefix_len is_gap xs
gap_length [] = refl
gap_length (x ∷ xs) =
    elim (is_gap x) as (λ b. cond (not (not b)) (1 + position_or_len (λ c. not (is_gap c)) xs) 0 ≡ cond b (1 + prefix_len is_gap xs) 0)
    [ true ↦ ap (λ n. 1 + n) (gap_length xs) | false ↦ refl ]

-- what stands behind the word that was cut off
pub rest_is : (line text rest : List ℕ) (s n : ℕ) → position (λ c. not (is_gap c)) line ≡ Some s → text ≡ drop s line → n ≡ position_or_len is_gap text → rest ≡ drop n text → rest ≡ behind_word line
rest_is line text rest s n e text_is n_is is =
    let at : s ≡ prefix_len is_gap line = sym (some_is (λ c. not (is_gap c)) line s e) ∙ gap_length line in
    rw (is, n_is, text_is, at) refl

-- the byte behind a blank or tab in front begins a character
pub behind_gap : (text : List ℕ) (c : ℕ) → IsUtf8 text → slice_get text 0 ≡ Some c → is_gap c ≡ true → IsCharBoundary text 1
behind_gap [] c u e gap = absurd cc
behind_gap (x ∷ xs) c u e gap =
    let same : x ≡ c = cc in
    let low : x < 128 = omega (arith, same, gap_is_ascii c gap) in
    let some : 0 < suc (length xs) = omega arith in
    IsCharBoundary-after_ascii (x ∷ xs) 0 u some low
