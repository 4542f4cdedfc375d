-- How the lines of a script are taken one by one.
use Rattle.std.proofs.Common.{◌≡◌, ℕ, ◌+◌, suc, length, List, [], ◌∷◌, true, false, take, drop, map, arith, refl, ◌∙◌, ap, ap₂, sym, ◌||◌, ◌==◌}
use Rattle.std.specs.List.{list_any, before_first, after_first, position_or_len, onto_first}
use Rattle.script_words.specs.Words.{is_line_feed, parts_by_line_feed, script_lines, without_return}

-- up to the first line feed
pub cut_at : (b : ℕ) (bs : List ℕ) → is_line_feed b ≡ false
    → (before_first is_line_feed (b ∷ bs) ≡ b ∷ before_first is_line_feed bs) × (after_first is_line_feed (b ∷ bs) ≡ after_first is_line_feed bs)
cut_at b bs e =
    let n = position_or_len is_line_feed bs in
    let one : position_or_len is_line_feed (b ∷ bs) ≡ suc n = rw e (omega arith) in
    let two : position_or_len is_line_feed (b ∷ bs) + 1 ≡ suc (n + 1) = omega (arith, one) in
    (ap (λ k. take k (b ∷ bs)) one, ap (λ k. drop k (b ∷ bs)) two)

cut_part : (xs : List ℕ) → list_any is_line_feed xs ≡ true
    → parts_by_line_feed xs ≡ before_first is_line_feed xs ∷ parts_by_line_feed (after_first is_line_feed xs)
cut_part [] h = cc
cut_part (b ∷ bs) h =
    elim (is_line_feed b) as (λ v. is_line_feed b ≡ v → (v || list_any is_line_feed bs) ≡ true
    → parts_by_line_feed (b ∷ bs) ≡ before_first is_line_feed (b ∷ bs) ∷ parts_by_line_feed (after_first is_line_feed (b ∷ bs))) [
      | true ↦ λ e g. rw e refl
      | false ↦ λ e g.
          let parts = cut_at b bs e in
          let here : parts_by_line_feed (b ∷ bs) ≡ onto_first b (parts_by_line_feed bs) = rw e refl in
          here ∙ ap (onto_first b) (cut_part bs g) ∙ sym (ap₂ (λ x y. x ∷ parts_by_line_feed y) parts.0 parts.1)
    ] refl h

pub last_part : (b : ℕ) (bs : List ℕ) → list_any is_line_feed (b ∷ bs) ≡ false → parts_by_line_feed (b ∷ bs) ≡ (b ∷ bs) ∷ []
last_part b [] h =
    elim (is_line_feed b) as (λ v. is_line_feed b ≡ v → (v || false) ≡ false → parts_by_line_feed (b ∷ []) ≡ (b ∷ []) ∷ [])
    [ true ↦ λ e g. cc | false ↦ λ e g. rw e refl ] refl h
last_part b (c ∷ cs) h =
    elim (is_line_feed b) as (λ v. is_line_feed b ≡ v → (v || list_any is_line_feed (c ∷ cs)) ≡ false → parts_by_line_feed (b ∷ c ∷ cs) ≡ (b ∷ c ∷ cs) ∷ []) [
      | true ↦ λ e g. cc
      | false ↦ λ e g.
          let here : parts_by_line_feed (b ∷ c ∷ cs) ≡ onto_first b (parts_by_line_feed (c ∷ cs)) = rw e refl in here ∙ ap (onto_first b) (last_part c cs g)
    ] refl h

-- a line that ends with a line feed
pub line_cut : (script part rest line : List ℕ) → list_any is_line_feed script ≡ true → part ≡ before_first is_line_feed script → rest ≡ after_first is_line_feed script
    → line ≡ without_return part → script_lines script ≡ line ∷ script_lines rest
line_cut script part rest line has part_is rest_is line_is = rw (line_is, part_is, rest_is) (ap (map without_return) (cut_part script has))

-- the last line may lack it
pub line_left : (script line : List ℕ) → (length script == 0) ≡ false → list_any is_line_feed script ≡ false → line ≡ without_return script → script_lines script ≡ line ∷ []
line_left [] line some none line_is = cc
line_left (b ∷ bs) line some none line_is = rw line_is (ap (map without_return) (last_part b bs none))
