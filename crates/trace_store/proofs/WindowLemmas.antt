-- The bytes of a window.
use Rattle.std.proofs.Common.{◌≡◌, ℕ, ◌+◌, ◌-◌, ◌≤◌, List, ◌++◌, length, take, drop, sym, ap, ◌∙◌, arith}
use Rattle.std.proofs.Math.Seq.{paste, take-add}
use Rattle.std.proofs.lemmas.List.{drop-append-le, drop-take, length-take-le, length-append, length-drop}
use Rattle.std.proofs.lemmas.List.Edits.{take-paste}
use Rattle.trace_store.specs.Windows.{IsNextOf}

-- what is next stays so where more bytes were read behind it
pub next_grown : (read got : List ℕ) (at : ℕ) (next : List ℕ) → IsNextOf read at next → IsNextOf (read ++ got) at (next ++ got)
next_grown read got at next is = record {
  inside = omega (arith, is.inside, length-append read got);
  rest = ap (λ (s : List ℕ). s ++ got) is.rest ∙ sym (drop-append-le at read got is.inside);
}

-- the bytes between two places, and the n behind them
pub view_grown : (old new : List ℕ) (start end n : ℕ) → start ≤ end → end ≤ length old → take end new ≡ take end old → drop start (take (end + n) new) ≡ drop start (take end old) ++ take n (drop end new)
view_grown old new start end n order inside same =
    ap (drop start) (take-add end n new ∙ ap (λ (s : List ℕ). s ++ take n (drop end new)) same)
    ∙ drop-append-le start (take end old) (take n (drop end new)) (omega (arith, order, length-take-le end old inside))

-- the bytes between two places, moved to the front
pub view_moved : (b : List ℕ) (start end : ℕ) → start ≤ end → end ≤ length b → take (end - start) (paste b 0 (drop start b) (end - start)) ≡ drop start (take end b)
view_moved b start end order inside =
    let whole : start + (end - start) ≡ end = omega (arith, order) in
    let none : end - start ≡ 0 + (end - start) = omega arith in
    ap (λ (n : ℕ). take n (paste b 0 (drop start b) (end - start))) none
    ∙ take-paste b 0 (drop start b) (end - start) (omega arith) (omega (arith, inside, length-drop start b))
    ∙ sym (drop-take start (end - start) b)
    ∙ ap (λ (n : ℕ). drop start (take n b)) whole
