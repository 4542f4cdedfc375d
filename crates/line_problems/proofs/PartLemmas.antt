-- Lines behind one another, from the last one on.
use Rattle.std.specs.Prelude.{◌≡◌, ℕ, ◌+◌, ◌-◌, ◌<◌, ◌≤◌, List, [], ◌∷◌, ◌++◌, length, drop}
use Rattle.std.proofs.Common.{arith, ap, ◌∙◌, get_or, length-append}
use Rattle.std.proofs.lemmas.List.{drop_more, get_or_append_left}
use Rattle.std.proofs.Math.Seq.{drop-append_seam}
use Rattle.grid_live.specs.declared.line.Line.{Line}

module _ (others : List Line) (last : Line) (lines : List Line) (e : lines ≡ others ++ last ∷ []) where
  -- behind the others there is the last line
  pub drop_others : drop (length others) lines ≡ last ∷ []
  drop_others = ap (drop (length others)) e ∙ drop-append_seam others (last ∷ [])

  -- the lines from the one in front of i on
  pub drop_before : (i : ℕ) → 0 < i → i ≤ length others → (d : Line) → drop (i - 1) lines ≡ get_or others (i - 1) d ∷ drop i lines
  drop_before i above below d =
      let long : length lines ≡ length others + 1 = ap length e ∙ length-append others (last ∷ []) in
      let same : get_or lines (i - 1) d ≡ get_or others (i - 1) d = ap (λ (l : List Line). get_or l (i - 1) d) e ∙ get_or_append_left others (last ∷ []) d (i - 1) (omega arith) in
      let one : i - 1 + 1 ≡ i = omega arith in
      drop_more lines (i - 1) d (omega arith) ∙ ap (λ (x : Line). x ∷ drop (i - 1 + 1) lines) same ∙ ap (λ (k : ℕ). get_or others (i - 1) d ∷ drop k lines) one
