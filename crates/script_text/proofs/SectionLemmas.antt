-- The line of a trace goes out sample by sample: whatever was pushed of it, there are words for the samples that are left.
use Rattle.std.proofs.Common.{◌≡◌, ◌∙◌, ℕ, ℤ, List, [], ◌∷◌, ◌++◌, Option, Some, None, Ok, Err, Result, refl, sym, ap, subst, append_assoc, append-nil}
use Rattle.std.specs.Prelude.{codes, decimal, MatchOption}
use Rattle.std.specs.Fmt.{signed_decimal}
use Rattle.float_codes.specs.declared.float_format.FloatFormat.{FloatFormat}
use Rattle.device_io.specs.declared.write_fault.WriteFault.{WriteFault}
use Rattle.shown_floats.proofs.WordLemmas.{some_word}
use Rattle.line_texts.specs.Devices.{Device}
use Rattle.line_texts.specs.Printing.{Outgoing, GoesOut, BreaksOut, Pushes}
use Rattle.script_text.specs.SectionTexts.{row_line, AreRowTexts, AreWords, IsRowText, IsWord}
use Rattle.line_texts.specs.Lines.{with_blanks}
use Rattle.line_texts.proofs.OutLemmas.{all_out, breaks_first, breaks_on, goes_on}

-- ---- one text behind another

module _ (old now next : Device) (from at to : Outgoing) (a b : List ℕ) (out : GoesOut old now from at a) where
  pub goes_both : GoesOut now next at to b → GoesOut old next from to (a ++ b)
  goes_both more =
      all_out old next from to (a ++ b) (goes_on old now next from at to b [] (a ++ b) (record { done = a; out = out; joined = ap (λ s. a ++ s) (append-nil b) }) more)

  pub breaks_both : (rest : List ℕ) (told : ℕ) → BreaksOut now next at b told → BreaksOut old next from (a ++ (b ++ rest)) told
  breaks_both rest told broken = breaks_on old now next from at b rest (a ++ (b ++ rest)) told (record { done = a; out = out; joined = refl }) broken

-- ---- words

-- each of them behind a blank
abbrev pub spaced : List (List ℕ) → List ℕ
spaced [] = []
spaced (word ∷ words) = (codes " " ++ word) ++ spaced words

spaced_both : (ws vs : List (List ℕ)) → spaced (ws ++ vs) ≡ spaced ws ++ spaced vs
spaced_both [] vs = refl
spaced_both (w ∷ ws) vs = ap (λ s. (codes " " ++ w) ++ s) (spaced_both ws vs) ∙ sym (append_assoc (codes " " ++ w) (spaced ws) (spaced vs))

joined : (first : List ℕ) (words : List (List ℕ)) → with_blanks (first ∷ words) ++ codes "\n" ≡ first ++ (spaced words ++ codes "\n")
joined first [] = refl
joined first (w ∷ ws) =
    append_assoc first (codes " " ++ with_blanks (w ∷ ws)) (codes "\n")
    ∙ ap (λ s. first ++ (codes " " ++ s)) (joined w ws)
    ∙ ap (λ s. first ++ s) (sym (append_assoc (codes " " ++ w) (spaced ws) (codes "\n")))

-- the line of a row of which these words come first
line_is : (p : ℕ) (words rest : List (List ℕ)) → row_line p (words ++ rest) ≡ (decimal p ++ spaced words) ++ (spaced rest ++ codes "\n")
line_is p words rest =
    joined (decimal p) (words ++ rest)
    ∙ ap (λ s. decimal p ++ (s ++ codes "\n")) (spaced_both words rest)
    ∙ ap (λ s. decimal p ++ s) (append_assoc (spaced words) (spaced rest) (codes "\n"))
    ∙ sym (append_assoc (decimal p) (spaced words) (spaced rest ++ codes "\n"))

module _ (floats : Option FloatFormat) where
  pub words_both : (xs ys : List ℤ) (ws vs : List (List ℕ)) → AreWords floats xs ws → AreWords floats ys vs → AreWords floats (xs ++ ys) (ws ++ vs)
  words_both [] ys [] vs a b = b
  words_both [] ys (w ∷ ws) vs a b = absurd a
  words_both (x ∷ xs) ys [] vs a b = absurd a
  words_both (x ∷ xs) ys (w ∷ ws) vs a b = (a.0, words_both xs ys ws vs a.1 b)

some_of : (floats : Option FloatFormat) (x : ℤ) → (word : List ℕ) × IsWord floats x word
some_of None x = (signed_decimal x, refl)
some_of (Some f) x = some_word f x

-- samples have words
pub some_words : (floats : Option FloatFormat) (xs : List ℤ) → (words : List (List ℕ)) × AreWords floats xs words
some_words floats [] = ([], tt)
some_words floats (x ∷ xs) =
    let first = some_of floats x in
    let rest = some_words floats xs in
    (first.0 ∷ rest.0, (first.1, rest.1))

-- rows have lines
pub some_lines : (floats : Option FloatFormat) (rows : List (ℕ × List ℤ)) → (text : List ℕ) × AreRowTexts floats rows text
some_lines floats [] = ([], refl)
some_lines floats (row ∷ rows) =
    let words = some_words floats row.1 in
    let rest = some_lines floats rows in
    (row_line row.0 words.0 ++ rest.0, (row_line row.0 words.0, rest.0, (words.0, words.1, refl), rest.1, refl))

-- ---- a row

-- where no sample came, none was left
pub at_end : (r : Option ℤ) (s t : List ℤ) → MatchOption r ((s ≡ []) × (t ≡ [])) (λ x. s ≡ x ∷ t) → ((x : ℤ) → r ≡ Some x → s ≡ []) → s ≡ []
at_end None s t h none = h.0
at_end (Some x) s t h none = none x refl

module _ (floats : Option FloatFormat) (p : ℕ) (xs : List ℤ) where
  -- the position and the words in front of these samples are pushed
  pub record Begun (old now : Device) (from at : Outgoing) (left : List ℤ) : Type 0 where
    pub before : List ℤ
    pub words : List (List ℕ)
    pub all : xs ≡ before ++ left
    pub shown : AreWords floats before words
    pub out : GoesOut old now from at (decimal p ++ spaced words)

  pub begun : (old now : Device) (from at : Outgoing) → GoesOut old now from at (decimal p) → Begun old now from at xs
  begun old now from at out = record { before = []; words = []; all = refl; shown = tt; out = rw (append-nil (decimal p)) out }

  -- the whole row, where the words of the samples that are left are these
  whole : (before left : List ℤ) (words rest : List (List ℕ)) → xs ≡ before ++ left → AreWords floats before words → AreWords floats left rest
      → IsRowText floats (p, xs) ((decimal p ++ spaced words) ++ (spaced rest ++ codes "\n"))
  whole before left words rest all shown others =
      (words ++ rest, subst (λ ys. AreWords floats ys (words ++ rest)) (sym all) (words_both floats before left words rest shown others), sym (line_is p words rest))

  -- what is pushed of it
  abbrev RowBreaks : Device → Device → Outgoing → ℕ → Type 0
  RowBreaks old next from told = (text : List ℕ) × IsRowText floats (p, xs) text × BreaksOut old next from text told

  -- a write of the position fails
  pub breaks_at_first : (old next : Device) (from : Outgoing) (told : ℕ) → BreaksOut old next from (decimal p) told → RowBreaks old next from told
  breaks_at_first old next from told broken =
      let rest = some_words floats xs in (
        (decimal p ++ []) ++ (spaced rest.0 ++ codes "\n"),
        whole [] xs [] rest.0 refl tt rest.1,
        rw (append-nil (decimal p)) (breaks_first old next from (decimal p) (spaced rest.0 ++ codes "\n") told broken),
      )

  module _ (old now next : Device) (from at : Outgoing) (x : ℤ) (left : List ℤ) (word : List ℕ) (is : IsWord floats x word) (part : Begun old now from at (x ∷ left)) where
    -- the next sample is pushed
    pub goes_further : (to : Outgoing) → GoesOut now next at to (codes " " ++ word) → Begun old next from to left
    goes_further to more = record {
      before = part.before ++ x ∷ [];
      words = part.words ++ word ∷ [];
      all = part.all ∙ sym (append_assoc part.before (x ∷ []) left);
      shown = words_both floats part.before (x ∷ []) part.words (word ∷ []) part.shown (is, tt);
      out = subst (λ s. GoesOut old next from to s)
          (append_assoc (decimal p) (spaced part.words) (codes " " ++ word)
          ∙ ap (λ s. decimal p ++ s) (ap (λ s. spaced part.words ++ s) (sym (append-nil (codes " " ++ word))) ∙ sym (spaced_both part.words (word ∷ []))))
          (goes_both old now next from at to (decimal p ++ spaced part.words) (codes " " ++ word) part.out more);
    }

    -- a write of it fails
    pub breaks_further : (told : ℕ) → BreaksOut now next at (codes " " ++ word) told → RowBreaks old next from told
    breaks_further told broken =
        let rest = some_words floats left in
        let a : List ℕ = decimal p ++ spaced part.words in
        let same : a ++ ((codes " " ++ word) ++ (spaced rest.0 ++ codes "\n")) ≡ a ++ (spaced (word ∷ rest.0) ++ codes "\n") =
        ap (λ s. a ++ s) (sym (append_assoc (codes " " ++ word) (spaced rest.0) (codes "\n"))) in (
          a ++ (spaced (word ∷ rest.0) ++ codes "\n"),
          whole part.before (x ∷ left) part.words (word ∷ rest.0) part.all part.shown (is, rest.1),
          subst (λ s. BreaksOut old next from s told) same (breaks_both old now next from at at a (codes " " ++ word) part.out (spaced rest.0 ++ codes "\n") told broken),
        )

  -- the end of its line is pushed, or a write of it fails
  pub row_ends : (old now next : Device) (from at to : Outgoing) (left : List ℤ) (r : Result (Unit {0}) WriteFault) → left ≡ [] → Begun old now from at left → Pushes now next at to (codes "\n") r
      → (text : List ℕ) × IsRowText floats (p, xs) text × Pushes old next from to text r
  row_ends old now next from at to left (Ok u) none part more = (
    (decimal p ++ spaced part.words) ++ ([] ++ codes "\n"),
    whole part.before [] part.words [] (part.all ∙ ap (λ ys. part.before ++ ys) none) part.shown tt,
    goes_both old now next from at to (decimal p ++ spaced part.words) (codes "\n") part.out more,
  )
  row_ends old now next from at to left (Err fault) none part broken = (
    (decimal p ++ spaced part.words) ++ ([] ++ codes "\n"),
    whole part.before [] part.words [] (part.all ∙ ap (λ ys. part.before ++ ys) none) part.shown tt,
    subst (λ s. BreaksOut old next from ((decimal p ++ spaced part.words) ++ s) fault.written) (append-nil (codes "\n"))
        (breaks_both old now next from at to (decimal p ++ spaced part.words) (codes "\n") part.out [] fault.written broken),
  )
