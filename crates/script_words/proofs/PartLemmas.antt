-- Lines of bytes that come in parts.
use Rattle.std.proofs.Common.{◌≡◌, ℕ, List, [], ◌∷◌, ◌++◌, true, false, refl, ◌∙◌, ap, ap₂, sym, ◌||◌}
use Rattle.std.specs.List.{list_any, before_first, after_first, onto_first}
use Rattle.script_words.specs.Words.{is_line_feed, parts_by_line_feed}
use Rattle.script_words.proofs.ScriptLemmas.{cut_at}

-- the first line ends in the first part
pub cut_in_part : (xs ys : List ℕ) → list_any is_line_feed xs ≡ true
    → parts_by_line_feed (xs ++ ys) ≡ before_first is_line_feed xs ∷ parts_by_line_feed (after_first is_line_feed xs ++ ys)
cut_in_part [] ys h = cc
cut_in_part (b ∷ bs) ys h =
    elim (is_line_feed b) as (λ v. is_line_feed b ≡ v → (v || list_any is_line_feed bs) ≡ true
    → parts_by_line_feed (b ∷ bs ++ ys) ≡ before_first is_line_feed (b ∷ bs) ∷ parts_by_line_feed (after_first is_line_feed (b ∷ bs) ++ ys)) [
      | true ↦ λ e g. rw e refl
      | false ↦ λ e g.
          let parts = cut_at b bs e in
          let here : parts_by_line_feed (b ∷ bs ++ ys) ≡ onto_first b (parts_by_line_feed (bs ++ ys)) = rw e refl in
          here ∙ ap (onto_first b) (cut_in_part bs ys g) ∙ sym (ap₂ (λ x y. x ∷ parts_by_line_feed (y ++ ys)) parts.0 parts.1)
    ] refl h

-- the first line begins with a part
pub part_in_front : (part xs ys line : List ℕ) → list_any is_line_feed part ≡ false → parts_by_line_feed xs ≡ line ∷ parts_by_line_feed ys
    → parts_by_line_feed (part ++ xs) ≡ (part ++ line) ∷ parts_by_line_feed ys
part_in_front [] xs ys line none first = first
part_in_front (b ∷ bs) xs ys line none first =
    elim (is_line_feed b) as (λ v. is_line_feed b ≡ v → (v || list_any is_line_feed bs) ≡ false
    → parts_by_line_feed (b ∷ bs ++ xs) ≡ (b ∷ bs ++ line) ∷ parts_by_line_feed ys) [
      | true ↦ λ e g. cc
      | false ↦ λ e g.
          let here : parts_by_line_feed (b ∷ bs ++ xs) ≡ onto_first b (parts_by_line_feed (bs ++ xs)) = rw e refl in
          here ∙ ap (onto_first b) (part_in_front bs xs ys line g first)
    ] refl none
