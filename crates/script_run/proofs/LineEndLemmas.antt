-- Lines of a reader that come in parts.
use Rattle.std.proofs.Common.{◌≡◌, ℕ, List, [], ◌∷◌, ◌++◌, Bool, true, false, not, refl, ◌∙◌, ap, ap₂, sym, ◌||◌}
use Rattle.std.specs.List.{list_any, before_first, after_first}
use Rattle.script_words.specs.Words.{is_line_feed}
use Rattle.script_words.proofs.ScriptLemmas.{cut_at}
use Rattle.script_run.specs.Input.{SessionLine, ended, cut_off, line_of, onto_first_line, session_lines, any_cut_off}

-- the first line ends in the first part
pub cut_in_part : (xs ys : List ℕ) → list_any is_line_feed xs ≡ true
    → session_lines (xs ++ ys) ≡ ended (before_first is_line_feed xs) ∷ session_lines (after_first is_line_feed xs ++ ys)
cut_in_part [] ys h = cc
cut_in_part (b ∷ bs) ys h =
    elim (is_line_feed b) as (λ v. is_line_feed b ≡ v → (v || list_any is_line_feed bs) ≡ true
    → session_lines (b ∷ bs ++ ys) ≡ ended (before_first is_line_feed (b ∷ bs)) ∷ session_lines (after_first is_line_feed (b ∷ bs) ++ ys)) [
      | true ↦ λ e g. rw e refl
      | false ↦ λ e g.
          let parts = cut_at b bs e in
          let here : session_lines (b ∷ bs ++ ys) ≡ onto_first_line b (session_lines (bs ++ ys)) = rw e refl in
          here ∙ ap (onto_first_line b) (cut_in_part bs ys g) ∙ sym (ap₂ (λ x y. ended x ∷ session_lines (y ++ ys)) parts.0 parts.1)
    ] refl h

-- the first line begins with a part
pub part_in_front : (part xs ys line : List ℕ) (has_end : Bool) → list_any is_line_feed part ≡ false → session_lines xs ≡ line_of line has_end ∷ session_lines ys
    → session_lines (part ++ xs) ≡ line_of (part ++ line) has_end ∷ session_lines ys
part_in_front [] xs ys line has_end none first = first
part_in_front (b ∷ bs) xs ys line has_end none first =
    elim (is_line_feed b) as (λ v. is_line_feed b ≡ v → (v || list_any is_line_feed bs) ≡ false
    → session_lines (b ∷ bs ++ xs) ≡ line_of (b ∷ bs ++ line) has_end ∷ session_lines ys) [
      | true ↦ λ e g. cc
      | false ↦ λ e g.
          let here : session_lines (b ∷ bs ++ xs) ≡ onto_first_line b (session_lines (bs ++ xs)) = rw e refl in
          here ∙ ap (onto_first_line b) (part_in_front bs xs ys line has_end g first)
    ] refl none

-- the last line lacks its line feed
pub last_part : (b : ℕ) (bs : List ℕ) → list_any is_line_feed (b ∷ bs) ≡ false → session_lines (b ∷ bs) ≡ cut_off (b ∷ bs) ∷ []
last_part b [] h =
    elim (is_line_feed b) as (λ v. is_line_feed b ≡ v → (v || false) ≡ false → session_lines (b ∷ []) ≡ cut_off (b ∷ []) ∷ [])
    [ true ↦ λ e g. cc | false ↦ λ e g. rw e refl ] refl h
last_part b (c ∷ cs) h =
    elim (is_line_feed b) as (λ v. is_line_feed b ≡ v → (v || list_any is_line_feed (c ∷ cs)) ≡ false → session_lines (b ∷ c ∷ cs) ≡ cut_off (b ∷ c ∷ cs) ∷ []) [
      | true ↦ λ e g. cc
      | false ↦ λ e g.
          let here : session_lines (b ∷ c ∷ cs) ≡ onto_first_line b (session_lines (c ∷ cs)) = rw e refl in here ∙ ap (onto_first_line b) (last_part c cs g)
    ] refl h

-- behind lines with line feeds one is cut off where the next is
pub cut_off_more : (lines : List SessionLine) (line : List ℕ) (has_end : Bool) → any_cut_off lines ≡ false → any_cut_off (lines ++ line_of line has_end ∷ []) ≡ not has_end
cut_off_more [] line true none = refl
cut_off_more [] line false none = refl
cut_off_more (l ∷ ls) line has_end none =
    elim l.has_end as (λ v. (not v || any_cut_off ls) ≡ false → (not v || any_cut_off (ls ++ line_of line has_end ∷ [])) ≡ not has_end)
    [ true ↦ λ e. cut_off_more ls line has_end e | false ↦ λ e. cc ] none
