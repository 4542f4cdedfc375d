-- How the search for the stanza that ends the extended textual headers goes on, byte by byte.
use Rattle.std.proofs.Common.{◌≡◌, ℕ, ◌+◌, ◌-◌, ◌<◌, ◌≤◌, ◌==◌, Bool, true, false, not, ◌&&◌, ◌||◌, List, [], ◌∷◌, ◌++◌, Some, None, map, take, drop, length, refl, ap, sym, ◌∙◌, nat_eq, arith, inl, inr}
use Rattle.std.specs.Prelude.{slice_index}
use Rattle.std.specs.List.{starts_with, list_all}
use Rattle.std.specs.Char.{to_ascii_lowercase}
use Rattle.std.proofs.lemmas.List.{drop_more, drop_all, take_rest, map-append}
use Rattle.std.proofs.lemmas.Bool.{agree_below_at, and_parts, eq-eqb, ne_eqb, both_ways, not-true, cases_Bool}
use Rattle.text_block.specs.declared.code.Code.{Code}
use Rattle.text_block.specs.declared.code.Code.TheVariants.{Ebcdic, Ascii}
use Rattle.text_block.specs.Characters.{character_of, shown_byte, escape_of}
use Rattle.text_block.specs.Tables.{open_parenthesis}
use Rattle.text_block.specs.Blocks.{is_space, compact_text, end_stanza, has_part}

-- a space counts for nothing
pub squeezed-space : (code : Code) (byte : ℕ) (bytes : List ℕ) → is_space code byte ≡ true → compact_text code (byte ∷ bytes) ≡ compact_text code bytes
squeezed-space code byte bytes h = rw h refl

-- any other byte counts as it is shown
pub squeezed-other : (code : Code) (byte : ℕ) (bytes : List ℕ) → is_space code byte ≡ false → compact_text code (byte ∷ bytes) ≡ map to_ascii_lowercase (shown_byte code byte) ++ compact_text code bytes
squeezed-other code byte bytes h = rw h (map-append to_ascii_lowercase (shown_byte code byte) _)

pub squeezed-character : (code : Code) (byte character : ℕ) (bytes : List ℕ) → is_space code byte ≡ false → character_of code byte ≡ Some character → compact_text code (byte ∷ bytes) ≡ to_ascii_lowercase character ∷ compact_text code bytes
squeezed-character code byte character bytes h e = squeezed-other code byte bytes h ∙ rw e refl

pub squeezed-escaped : (code : Code) (byte : ℕ) (bytes : List ℕ) → is_space code byte ≡ false → character_of code byte ≡ None → compact_text code (byte ∷ bytes) ≡ 92 ∷ (map to_ascii_lowercase (drop 1 (escape_of byte)) ++ compact_text code bytes)
squeezed-escaped code byte bytes h e = squeezed-other code byte bytes h ∙ rw e refl

-- one character of the stanza
pub starts_with-more : (x m : ℕ) (xs : List ℕ) → m < 15 → starts_with nat_eq (x ∷ xs) (drop m end_stanza) ≡ (nat_eq (slice_index end_stanza m) x && starts_with nat_eq xs (drop (m + 1) end_stanza))
starts_with-more x m xs l = rw (drop_more end_stanza m 0 l) refl

-- the stanza has no backslash
pub no_backslash : (m : ℕ) → m < 15 → nat_eq (slice_index end_stanza m) 92 ≡ false
no_backslash m l = agree_below_at (λ k. nat_eq (slice_index end_stanza k) 92) (λ _. false) 15 m refl l

pub starts_with-backslash : (m : ℕ) (xs : List ℕ) → m < 15 → starts_with nat_eq (92 ∷ xs) (drop m end_stanza) ≡ false
starts_with-backslash m xs l = starts_with-more 92 m xs l ∙ ap (λ t. t && starts_with nat_eq xs (drop (m + 1) end_stanza)) (no_backslash m l)

-- all of the stanza is found
pub starts_with-whole : (m : ℕ) (xs : List ℕ) → m ≡ 15 → starts_with nat_eq xs (drop m end_stanza) ≡ true
starts_with-whole m xs e = rw e refl

-- the next character of the stanza is one more of it
pub matches-next : (code : Code) (xs : List ℕ) (i m c : ℕ) → i < length xs → m < 15 → is_space code (slice_index xs i) ≡ false → character_of code (slice_index xs i) ≡ Some c → to_ascii_lowercase c ≡ slice_index end_stanza m →
    starts_with nat_eq (compact_text code (drop i xs)) (drop m end_stanza) ≡ starts_with nat_eq (compact_text code (drop (i + 1) xs)) (drop (m + 1) end_stanza)
matches-next code xs i m c l b h e same =
    ap (λ ys. starts_with nat_eq ys (drop m end_stanza)) (ap (compact_text code) (drop_more xs i 0 l) ∙ squeezed-character code (slice_index xs i) c (drop (i + 1) xs) h e)
    ∙ starts_with-more (to_ascii_lowercase c) m (compact_text code (drop (i + 1) xs)) b
    ∙ ap (λ t. t && starts_with nat_eq (compact_text code (drop (i + 1) xs)) (drop (m + 1) end_stanza)) (eq-eqb (slice_index end_stanza m) (to_ascii_lowercase c) (sym same))

-- another character is none of it
pub matches-other : (code : Code) (xs : List ℕ) (i m c : ℕ) → i < length xs → m < 15 → is_space code (slice_index xs i) ≡ false → character_of code (slice_index xs i) ≡ Some c → (to_ascii_lowercase c ≡ slice_index end_stanza m → ⊥) →
    starts_with nat_eq (compact_text code (drop i xs)) (drop m end_stanza) ≡ false
matches-other code xs i m c l b h e other =
    ap (λ ys. starts_with nat_eq ys (drop m end_stanza)) (ap (compact_text code) (drop_more xs i 0 l) ∙ squeezed-character code (slice_index xs i) c (drop (i + 1) xs) h e)
    ∙ starts_with-more (to_ascii_lowercase c) m (compact_text code (drop (i + 1) xs)) b
    ∙ ap (λ t. t && starts_with nat_eq (compact_text code (drop (i + 1) xs)) (drop (m + 1) end_stanza)) (ne_eqb (slice_index end_stanza m) (to_ascii_lowercase c) (λ same. other (sym same)))

-- and so is a byte without a character
pub matches-escaped : (code : Code) (xs : List ℕ) (i m : ℕ) → i < length xs → m < 15 → is_space code (slice_index xs i) ≡ false → character_of code (slice_index xs i) ≡ None →
    starts_with nat_eq (compact_text code (drop i xs)) (drop m end_stanza) ≡ false
matches-escaped code xs i m l b h e =
    ap (λ ys. starts_with nat_eq ys (drop m end_stanza)) (ap (compact_text code) (drop_more xs i 0 l) ∙ squeezed-escaped code (slice_index xs i) (drop (i + 1) xs) h e)
    ∙ starts_with-backslash m _ b

-- the stanza begins at no character other than its first
has_part-skip : (p : ℕ) (ps xs ys : List ℕ) → list_all (λ x. not (x == p)) xs ≡ true → has_part (p ∷ ps) (xs ++ ys) ≡ has_part (p ∷ ps) ys
has_part-skip p ps [] ys h = refl
has_part-skip p ps (x ∷ xs) ys h =
    let parts = and_parts (not (x == p)) (list_all (λ z. not (z == p)) xs) h in
    rw (ne_eqb p x (λ e. both_ways (x == p) (not-true (x == p) parts.0) (eq-eqb x p (sym e)))) (has_part-skip p ps xs ys parts.1)

-- no byte but that of the parenthesis is shown with one
other-shown : (code : Code) (b : ℕ) → b < 256 → (b ≡ open_parenthesis code → ⊥) → list_all (λ x. not (x == 40)) (map to_ascii_lowercase (shown_byte code b)) ≡ true
other-shown Ebcdic b l h =
    let t : (b == 0x4D || list_all (λ x. not (x == 40)) (map to_ascii_lowercase (shown_byte Ebcdic b))) ≡ true =
    agree_below_at (λ k. k == 0x4D || list_all (λ x. not (x == 40)) (map to_ascii_lowercase (shown_byte Ebcdic k))) (λ _. true) 256 b refl l in
    rw (ne_eqb b 0x4D h) at t
other-shown Ascii b l h =
    let t : (b == 0x28 || list_all (λ x. not (x == 40)) (map to_ascii_lowercase (shown_byte Ascii b))) ≡ true =
    agree_below_at (λ k. k == 0x28 || list_all (λ x. not (x == 40)) (map to_ascii_lowercase (shown_byte Ascii k))) (λ _. true) 256 b refl l in
    rw (ne_eqb b 0x28 h) at t

-- so the search goes on behind another byte
pub has_part-other : (code : Code) (xs : List ℕ) (i : ℕ) → i < length xs → slice_index xs i < 256 → (slice_index xs i ≡ open_parenthesis code → ⊥) →
    has_part end_stanza (compact_text code (drop i xs)) ≡ has_part end_stanza (compact_text code (drop (i + 1) xs))
has_part-other code xs i l fits h = elim (cases_Bool (is_space code (slice_index xs i))) [
  | inl space ↦ ap (has_part end_stanza) (ap (compact_text code) (drop_more xs i 0 l) ∙ squeezed-space code (slice_index xs i) (drop (i + 1) xs) space)
  | inr other ↦ ap (has_part end_stanza) (ap (compact_text code) (drop_more xs i 0 l) ∙ squeezed-other code (slice_index xs i) (drop (i + 1) xs) other)
      ∙ has_part-skip 40 (drop 1 end_stanza) (map to_ascii_lowercase (shown_byte code (slice_index xs i))) (compact_text code (drop (i + 1) xs)) (other-shown code (slice_index xs i) fits h)
]

-- what a parenthesis adds
squeezed-parenthesis : (code : Code) (xs : List ℕ) → compact_text code (open_parenthesis code ∷ xs) ≡ 40 ∷ compact_text code xs
squeezed-parenthesis Ebcdic xs = refl
squeezed-parenthesis Ascii xs = refl

-- the search goes on behind a parenthesis at which the stanza does not begin, and ends at one at which it does
pub has_part-parenthesis : (code : Code) (xs : List ℕ) (n i : ℕ) (begins : Bool) → length xs ≡ n → i < n → slice_index xs i ≡ open_parenthesis code → begins ≡ starts_with nat_eq (compact_text code (take (n - i) (drop i xs))) end_stanza →
    has_part end_stanza (compact_text code (drop i xs)) ≡ (begins || has_part end_stanza (compact_text code (drop (i + 1) xs)))
has_part-parenthesis code xs n i begins same l e b =
    let cut : compact_text code (drop i xs) ≡ 40 ∷ compact_text code (drop (i + 1) xs) =
    ap (compact_text code) (drop_more xs i 0 (omega (arith, same, l))) ∙ ap (λ y. compact_text code (y ∷ drop (i + 1) xs)) e ∙ squeezed-parenthesis code (drop (i + 1) xs) in
    let whole : take (n - i) (drop i xs) ≡ drop i xs = ap (λ m. take (m - i) (drop i xs)) (sym same) ∙ take_rest xs i in
    rw (b, whole, cut) refl
