-- Words that are places, by their parts.
use Rattle.std.proofs.Common.{◌≡◌, ℕ, List, [], ◌∷◌, Bool, true, false, not, drop, take, arith, refl, Option, Some, None, ◌∙◌, sym, ap, ap₂, cond, codes, nat_eq}
use Rattle.std.specs.List.{list_any, before_first, after_first, starts_with}
use lib.Pointwise.{pointwise}
use Rattle.std.proofs.lemmas.Bool.Decides.{nat_tests}
use Rattle.script_words.specs.Numbers.{place_of_word, place_in, place_of_numbers, natural_up_to, without_u, ends_with_u, is_dot, is_colon, extension_digits, behind_extension}
use Rattle.script_words.proofs.PositionLemmas.{nothing_behind}

no_size : (a b : Option ℕ) (signed : Bool) → None ≡ place_of_numbers a b None signed
no_size None b signed = refl
no_size (Some e) None signed = refl
no_size (Some e) (Some f) signed = refl

empty_size : (a b : Option ℕ) (size : List ℕ) → size ≡ [] → None ≡ place_of_numbers a b (natural_up_to 255 (without_u size)) (not (ends_with_u size))
empty_size a b size e = rw e (no_size a b true)

-- a place has a colon
pub no_colon : (extension text : List ℕ) → list_any is_colon text ≡ false → None ≡ place_in extension text
no_colon extension text e = empty_size (natural_up_to 65535 extension) (natural_up_to 65535 (before_first is_colon text)) (after_first is_colon text) (nothing_behind is_colon text e)

when_true : {X : Type 0} (b : Bool) (x y : X) → b ≡ true → cond b x y ≡ x
when_true b x y e = rw e refl

-- a place with an extension
pub with_extension : (word text extension rest : List ℕ) → starts_with nat_eq word (codes "@") ≡ true → text ≡ drop 1 word → list_any is_dot text ≡ true
    → extension ≡ before_first is_dot text → rest ≡ after_first is_dot text → place_in extension rest ≡ place_of_word word
with_extension word text extension rest at text_is dot extension_is rest_is =
    let dotted : list_any is_dot (drop 1 word) ≡ true = rw text_is at dot in
    let t : List ℕ = drop 1 word in
    sym (when_true (starts_with nat_eq word (codes "@")) (place_in (extension_digits t) (behind_extension t)) None at
    ∙ ap₂ place_in
    (when_true (list_any is_dot t) (before_first is_dot t) (codes "0") dotted ∙ ap (before_first is_dot) (sym text_is) ∙ sym extension_is)
    (when_true (list_any is_dot t) (after_first is_dot t) t dotted ∙ ap (after_first is_dot) (sym text_is) ∙ sym rest_is))

nat_eq-comm : (a b : ℕ) → nat_eq a b ≡ nat_eq b a
nat_eq-comm a b = grind (arith, nat_tests)

-- the first character, compared from either side
pub begins : (word : List ℕ) (c : ℕ) → pointwise nat_eq (take 1 word) (c ∷ []) ≡ starts_with nat_eq word (c ∷ [])
begins [] c = refl
begins (x ∷ xs) c = rw (nat_eq-comm x c) refl
