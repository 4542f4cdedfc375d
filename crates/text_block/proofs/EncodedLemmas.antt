-- What is encoded is shown again.
use Rattle.std.proofs.Common.{◌≡◌, ℕ, zero, suc, ◌+◌, ◌-◌, ◌<◌, ◌==◌, Bool, true, false, List, [], ◌∷◌, ◌++◌, Option, Some, None, take, length, replicate, filter_map, is_none, cond, nat_eq, nat_lt, inl, inr, refl, ap, sym, ◌∙◌, arith, append_assoc, append-nil, length-append}
use Rattle.std.specs.Prelude.{option_map}
use Rattle.std.specs.List.{position_from, cons_option, prefix_len, suffix_len}
use Rattle.std.specs.Option.{option_eq}
use Rattle.std.proofs.lemmas.Bool.{agree_below_at, cases_lt}
use Rattle.std.proofs.lemmas.Option.{none-some}
use Rattle.std.proofs.lemmas.List.{reverse-append, take-append-le}
use Rattle.std.proofs.lemmas.Grind.{flat_map-append}
use Rattle.text_block.specs.declared.code.Code.{Code}
use Rattle.text_block.specs.declared.code.Code.TheVariants.{Ebcdic, Ascii}
use Rattle.text_block.specs.declared.text_fault.TextFault.TheVariants.{TooLong, NoCode}
use Rattle.text_block.specs.Characters.{character_of, byte_of, blank, shown_bytes, shown_byte, GoesBothWays}
use Rattle.text_block.specs.Lines.{column_without_byte, text_fault, encoded_line, without_blanks, ShowsEncoded}
use Rattle.text_block.proofs.CharacterTableLemmas.{same_option, byte_of-above, character_of-above}

-- the byte, where there is one, gives the character back
abbrev gives_back : Code → ℕ → Option ℕ → Bool
gives_back code character None = true
gives_back code character (Some byte) = option_eq nat_eq (character_of code byte) (Some character)

-- computed at each character below 256
given_back : (code : Code) (character : ℕ) → character < 256 → gives_back code character (byte_of code character) ≡ true
given_back Ebcdic character l = agree_below_at (λ c. gives_back Ebcdic c (byte_of Ebcdic c)) (λ _. true) 256 character refl l
given_back Ascii character l = agree_below_at (λ c. gives_back Ascii c (byte_of Ascii c)) (λ _. true) 256 character refl l

character_of-byte : (code : Code) (character byte : ℕ) → byte_of code character ≡ Some byte → character_of code byte ≡ Some character
character_of-byte code character byte e = elim (cases_lt character 256) [
  | inl l ↦ let given : gives_back code character (byte_of code character) ≡ true = given_back code character l in same_option _ _ (rw e at given)
  | inr l ↦ absurd (none-some byte (sym (byte_of-above code character l) ∙ e))
]

-- the character, where there is one, gives the byte back
abbrev gives_byte : Code → ℕ → Option ℕ → Bool
gives_byte code byte None = true
gives_byte code byte (Some character) = option_eq nat_eq (byte_of code character) (Some byte)

-- computed at each byte
byte_given : (code : Code) (byte : ℕ) → byte < 256 → gives_byte code byte (character_of code byte) ≡ true
byte_given Ebcdic byte l = agree_below_at (λ b. gives_byte Ebcdic b (character_of Ebcdic b)) (λ _. true) 256 byte refl l
byte_given Ascii byte l = agree_below_at (λ b. gives_byte Ascii b (character_of Ascii b)) (λ _. true) 256 byte refl l

byte_of-character : (code : Code) (character byte : ℕ) → character_of code byte ≡ Some character → byte_of code character ≡ Some byte
byte_of-character code character byte e = elim (cases_lt byte 256) [
  | inl l ↦ let given : gives_byte code byte (character_of code byte) ≡ true = byte_given code byte l in same_option _ _ (rw e at given)
  | inr l ↦ absurd (none-some character (sym (character_of-above code byte l) ∙ e))
]

pub both_ways : GoesBothWays
both_ways code byte character = (character_of-byte code character byte, byte_of-character code character byte)

-- characters that have bytes are shown as they were
shown-cons : (code : Code) (c i : ℕ) (cs : List ℕ) (o : Option ℕ) → byte_of code c ≡ o → cond (is_none o) (Some i) (position_from (λ x. is_none (byte_of code x)) (i + 1) cs) ≡ None → (position_from (λ x. is_none (byte_of code x)) (i + 1) cs ≡ None → shown_bytes code (filter_map (byte_of code) cs) ≡ cs) → shown_bytes code (cons_option o (filter_map (byte_of code) cs)) ≡ c ∷ cs
shown-cons code c i cs None e h rest = absurd (none-some i (sym h))
shown-cons code c i cs (Some b) e h rest = rw (character_of-byte code c b e) (ap (λ ys. c ∷ ys) (rest h))

shown-filter_map : (code : Code) (i : ℕ) (cs : List ℕ) → position_from (λ x. is_none (byte_of code x)) i cs ≡ None → shown_bytes code (filter_map (byte_of code) cs) ≡ cs
shown-filter_map code i [] h = refl
shown-filter_map code i (c ∷ cs) h = shown-cons code c i cs (byte_of code c) refl h (shown-filter_map code (i + 1) cs)

-- and so are blanks
shown-blank : (code : Code) → shown_byte code (blank code) ≡ 32 ∷ []
shown-blank Ebcdic = refl
shown-blank Ascii = refl

shown-blanks : (code : Code) (n : ℕ) → shown_bytes code (replicate n (blank code)) ≡ replicate n 32
shown-blanks code zero = refl
shown-blanks code (suc n) = rw (shown-blank code) (ap (λ ys. 32 ∷ ys) (shown-blanks code n))

-- no fault: not too long, and no column without a byte
fault-none : (long : Bool) (column : Option ℕ) → cond long (Some TooLong) (option_map (λ c. NoCode c) column) ≡ None → column ≡ None
fault-none true column h = absurd (none-some _ (sym h))
fault-none false None h = refl
fault-none false (Some c) h = absurd (none-some _ (sym h))

shown-encoded : (code : Code) (cs : List ℕ) → text_fault code cs ≡ None → shown_bytes code (encoded_line code cs) ≡ cs ++ replicate (80 - length cs) 32
shown-encoded code cs h =
    flat_map-append (shown_byte code) (filter_map (byte_of code) cs) (replicate (80 - length cs) (blank code))
    ∙ ap (λ ys. ys ++ shown_bytes code (replicate (80 - length cs) (blank code))) (shown-filter_map code 1 cs (fault-none (nat_lt 80 (length cs)) (column_without_byte code cs) h))
    ∙ ap (λ ys. cs ++ ys) (shown-blanks code (80 - length cs))

-- a blank at the end is left out
without_blanks-one : (cs : List ℕ) → without_blanks (cs ++ 32 ∷ []) ≡ without_blanks cs
without_blanks-one cs =
    let s = suffix_len (λ c. c == 32) cs in
    let longer : suffix_len (λ c. c == 32) (cs ++ 32 ∷ []) ≡ 1 + s = ap (prefix_len (λ c. c == 32)) (reverse-append cs (32 ∷ [])) in
    let kept : length (cs ++ 32 ∷ []) - suffix_len (λ c. c == 32) (cs ++ 32 ∷ []) ≡ length cs - s = omega (arith, longer, length-append cs (32 ∷ [])) in
    ap (λ n. take n (cs ++ 32 ∷ [])) kept ∙ take-append-le (length cs - s) cs (32 ∷ []) (omega arith)

without_blanks-append : (n : ℕ) (cs : List ℕ) → without_blanks (cs ++ replicate n 32) ≡ without_blanks cs
without_blanks-append zero cs = ap without_blanks (append-nil cs)
without_blanks-append (suc n) cs =
    ap without_blanks (sym (append_assoc cs (32 ∷ []) (replicate n 32)))
    ∙ without_blanks-append n (cs ++ 32 ∷ [])
    ∙ without_blanks-one cs

pub shows_encoded : ShowsEncoded
shows_encoded code cs h = (shown-encoded code cs h, ap without_blanks (shown-encoded code cs h) ∙ without_blanks-append (80 - length cs) cs)
